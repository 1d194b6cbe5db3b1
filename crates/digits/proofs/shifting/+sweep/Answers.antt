use Rattle.std.proofs.Common.{◌≡◌, ℕ, ◌-◌, ◌<◌, List, length, take, drop, sym, ap, subst, arith}
use Rattle.digits.specs.declared.Shape.{Shape}
use Rattle.algebra.specs.PolyRing.{Poly}
use Rattle.algebra.proofs.Sweep.{sweep}
use Rattle.fields.specs.Numbers.{elem, ring_of}
use Rattle.digits.specs.Runs.{runs, term, Held}
use Rattle.digits.proofs.Arrays.{deep_one, held_rest, part_rest}
use Rattle.digits.proofs.Passes.{sweep_one, next_all, next_room, next_long, swept_is, swept_held}
use Rattle.digits.proofs.shifting.+sweep.Goals as goal

pub returns-then-shape-eq0 : goal.returns-then-shape-eq0
returns-then-shape-eq0 g t c =
    record {
      held = c.requires.held;
      is = sweep_one g.F.Field.numbers c.args.shape c.args.e c.args.t c.args.runs.now c.requires.held c.if-shape-eq0.true;
    }

pub rest-rest-requires : goal.rest-rest-requires
rest-rest-requires g t c =
    let some : 0 < c.args.shape.degree = omega arith in
    record { some = some; deep = deep_one g.F.Field.numbers c.args.shape c.args.runs.now c.requires.held some }

pub sweep-requires : goal.sweep-requires
sweep-requires g t c κs within =
    let F = g.F.Field.numbers in
    let s = c.args.shape in
    let some : 0 < s.degree = omega arith in
    let e = c.rest-rest.ensures in
    let held : Held F c.rest-rest.result (take (length c.args.runs.now - s.width) (drop s.width c.args.runs.now)) =
    subst (Held F c.rest-rest.result) (sym (part_rest F s.width c.args.runs.now)) (held_rest F s c.rest-rest.result c.args.runs.now e c.requires.held some) in
    let less : c.rest-rest.result.degree ≡ s.degree - 1 = ap (λ (z : Shape). z.degree) e in
    let same : c.rest-rest.result.depth ≡ s.depth = ap (λ (z : Shape). z.depth) e in
    (omega (arith, less, c.decreases), (within, (c.requires.digit, (omega (arith, same, c.requires.place), held))))

pub add_next-requires : goal.add_next-requires
add_next-requires g t c =
    let F = g.F.Field.numbers in
    let s = c.args.shape in
    let some : 0 < s.degree = omega arith in
    record {
      digit = c.requires.digit;
      all = next_all F s c.rest-rest.result c.args.e c.args.t c.args.runs.now c.sweep.new.runs c.rest-rest.ensures some c.requires.place c.requires.held c.sweep.ensures.held;
      room = next_room F s c.rest-rest.result c.args.e c.args.t c.args.runs.now c.sweep.new.runs c.rest-rest.ensures some c.requires.place c.requires.held c.sweep.ensures.held;
      long = next_long F s c.rest-rest.result c.args.e c.args.t c.args.runs.now c.sweep.new.runs c.rest-rest.ensures some c.requires.place c.requires.held c.sweep.ensures.held;
    }

pub returns : goal.returns
returns g t c =
    let F = g.F.Field.numbers in
    let s = c.args.shape in
    let some : 0 < s.degree = omega arith in
    let is = swept_is F s c.rest-rest.result c.args.e c.args.t c.args.runs.now c.sweep.new.runs c.rest-rest.ensures some c.requires.place c.requires.held c.sweep.ensures.held c.add_next.new.runs c.add_next.ensures.first c.add_next.ensures.rest c.add_next.auto.runs (subst (λ (l : List ℕ). runs F c.rest-rest.result.width c.sweep.new.runs ≡ sweep (Poly (ring_of F)) (term (ring_of F) (elem F c.args.e) c.args.t) c.rest-rest.result.degree (runs F c.rest-rest.result.width l)) (part_rest F s.width c.args.runs.now) c.sweep.ensures.is) in
    record {
      held = swept_held F s c.rest-rest.result c.args.e c.args.t c.args.runs.now c.sweep.new.runs c.rest-rest.ensures some c.requires.place c.requires.held c.sweep.ensures.held c.add_next.new.runs c.add_next.ensures.first c.add_next.ensures.rest c.add_next.auto.runs is;
      is = is;
    }
