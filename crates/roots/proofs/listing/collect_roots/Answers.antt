use Rattle.std.proofs.Common.{◌≡◌, ℕ, suc, ◌+◌, List, length, sym, ap, ◌∙◌, subst, arith, rules}
use Rattle.leaves.specs.declared.pairs.Pair.{Pair}
use Rattle.rolls.specs.declared.Roll.{Roll}
use Rattle.roots.specs.Asked.{Asked, Answerable, asked}
use Rattle.roots.specs.Desk.{desk_of}
use Rattle.roots.proofs.TwoWalks.{stays, first_fits, closed}
use Rattle.roots.proofs.listing.collect_roots.Goals as goal

-- the roll begins on the slots that the area has
begins : {q : ℕ} (a : Asked) (m : ℕ) {slots slots' : List Pair} → slots' ≡ slots → Answerable q a (length slots) m → Answerable q a (length slots') m
begins {q} a m e x = subst (λ (xs : List Pair). Answerable q a (length xs) m) (sym e) x

pub walk_turned-requires : goal.walk_turned-requires
walk_turned-requires g c =
    let F = g.F.Field.numbers in
    let a = asked c.args.direct in
    let b = asked c.args.turned in
    let x = c.requires.sized in
    let t = c.requires.turns in
    let d = desk_of c.walk_question.new.finder in
    let s = stays F a _ (length c.args.room.now) c.new-roll.result.slots.now (begins a _ c.new-roll.ensures.same x) d c.new-roll.ensures.empty c.requires.depth c.walk_question.ensures.walked in
    let fits = first_fits F a _ (length c.args.room.now) c.new-roll.result.slots.now (begins a _ c.new-roll.ensures.same x) d c.new-roll.ensures.empty c.requires.depth c.walk_question.ensures.walked in
    let eℓ = ap (λ (z : Asked). z.ℓ) t.is in
    let ec = ap (λ (z : Asked). z.c) t.is in
    let e₁ = ap (λ (z : Asked). z.w₁) t.is in
    let e₂ = ap (λ (z : Asked). z.w₂) t.is in
    record {
      seated =
          record {
            few = omega arith;
            short = omega arith;
            wide = omega arith;
            first = omega arith;
            second = omega arith;
            all = t.all;
            long = let l = t.long in cc;
            work = omega (arith, s.6);
            fits = fits;
          };
      depth = omega (arith, c.walk_question.auto.digits);
      room =
          let r = c.walk_question.auto.runs in
          let l = c.requires.runs in
          let k = c.walk_question.auto.digits in
          cc;
    }

-- the area holds what the closing left in the slots, since the walks were lent the roll and nothing else
pub returns : goal.returns
returns g c =
    let F = g.F.Field.numbers in
    let a = asked c.args.direct in
    let e₁ = ap (λ (z : Asked). z.w₁) c.requires.turns.is in
    let e₂ = ap (λ (z : Asked). z.w₂) c.requires.turns.is in
    let deep : length c.walk_question.new.digits ≡ suc (c.args.turned.w1 + c.args.turned.w2) = omega (arith, c.walk_question.auto.digits) in
    let held = c.walk_turned.ensures.lenders ∙ c.walk_question.ensures.lenders in
    let tie = sym (ap (λ (x : ℕ × ℕ). x.0) held) in
    let back : c.roll-2-1.given.0 ≡ c.walk_turned.new.finder.roll.now = search rules in
    let lend = ap (λ (r : Roll Pair). r.slots.ghost_name) back ∙ ap (λ (x : ℕ × ℕ). x.1) held ∙ c.new-roll.ensures.lender in
    let lent = sym lend in
    closed F a _ (length c.args.room.now) c.new-roll.result.slots.now (begins a _ c.new-roll.ensures.same c.requires.sized) (desk_of c.walk_question.new.finder) c.new-roll.ensures.empty c.requires.depth c.walk_question.ensures.walked
    (asked c.args.turned) c.requires.turns (desk_of c.walk_turned.new.finder) deep c.walk_turned.ensures.walked
    c.close.result c.roll-2-1.given.0.len c.roll-2-1.given.0.slots.now c.close.new.self.0 c.close.ensures.count (ap (λ (r : Roll Pair). r.len) back) (ap (λ (r : Roll Pair). r.slots.now) back) c.close.ensures.holds (search rules)
