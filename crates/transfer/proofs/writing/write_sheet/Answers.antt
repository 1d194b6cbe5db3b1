use Rattle.std.proofs.Common.{◌≡◌, ℕ, ◌+◌, ◌*◌, ◌++◌, length, take, drop, sym, ap, ◌∙◌, subst, ⊎_elim, arith}
use Rattle.collections.specs.Standing.{standing, shares, given_of}
use Rattle.transfer.specs.Writing.{header_bytes, entries_bytes}
use Rattle.transfer.proofs.Written.{drop_next, all_passed, entry_is, entry_next, count_is, even, kept_behind, all_written}
use Rattle.transfer.proofs.writing.write_sheet.Goals as goal

pub loop-p-preserved : goal.loop-p-preserved
loop-p-preserved g c =
    let o = given_of c.args.opened.now in
    let tag = g.F.Field.SHEET_NUMBER in
    let xs = shares (standing c.args.c.now.kept) in
    let i = c.loop-p.invariant in
    let s = c.in-Some.ensures.steps in
    let k : ℕ = c.loop-p.p-iterator.count in
    let (h, a, points) = drop_next k o.points c.in-Some.point.now _ (sym i.points ∙ s.0.0) in
    let (l, b, multipliers) = drop_next k o.multipliers c.in-Some.multiplier.now _ (sym i.multipliers ∙ s.0.1) in
    let next = s.2 in
    let bs = c.entry.result in
    let out = c.loop-p.out in
    let put : c.put-in-loop-p.new.out ≡ take (9 + 6 * k) out ++ (bs ++ drop (9 + 6 * k + length bs) out) =
    subst (λ (n : ℕ). c.put-in-loop-p.new.out ≡ take (9 + 6 * n) out ++ (bs ++ drop (9 + 6 * n + length bs) out)) s.1 c.put-in-loop-p.ensures in
    record {
      points = points ∙ ap (λ (n : ℕ). drop n o.points) (sym next);
      multipliers = multipliers ∙ ap (λ (n : ℕ). drop n o.multipliers) (sym next);
      within = omega arith;
      written =
          subst (λ (n : ℕ). c.put-in-loop-p.new.out ≡ (header_bytes tag o ++ entries_bytes o xs n) ++ drop (9 + 6 * n) c.put.new.out) (sym next)
          (entry_next tag o xs k c.put.new.out out bs c.put-in-loop-p.new.out i.written
          (entry_is o xs k c.in-Some.p c.in-Some.point.now c.in-Some.multiplier.now c.place.result bs s.1 a b c.place.ensures c.entry.ensures) put);
    }

pub returns : goal.returns
returns g c =
    let o = c.args.opened.now in
    let given = given_of o in
    let i = c.loop-p.invariant in
    let k : ℕ = c.loop-p.p-iterator.count in
    let n = count_is o in
    let m = even o in
    let all : k ≡ length given.points =
    ⊎_elim (λ x. all_passed k given.points _ i.points i.within x.1.0)
    (λ y. all_passed k given.multipliers _ i.multipliers (omega arith) y.1.0 ∙ m)
    c.in-None.ensures.steps.0 in
    all_written g.F.Field.SHEET_NUMBER given (shares (standing c.args.c.now.kept)) k o.code.count c.put.new.out c.args.out.now c.loop-p.out i.written all (all ∙ n)
    (kept_behind c.args.out.now c.header.result c.put.new.out (6 * k) (ap length c.header.ensures) c.put.ensures)
