use Rattle.std.proofs.Common.{◌≡◌, ℕ, ◌-◌, length, sym, ap, ◌∙◌, subst, ap₂, arith}
use Rattle.stages.specs.Euclid.{Row, row, divide}
use Rattle.basis.specs.Rows.{Fits}
use Rattle.basis.proofs.Steps.{less_fits, divide_turn, divide_none}
use Rattle.basis.proofs.euclid.divide_row.Goals as goal

pub loop-k-preserved : goal.loop-k-preserved
loop-k-preserved g c =
    let F = g.F.Field.numbers in
    let L : Row = row c.args.la.now c.args.lb.now in
    let P : Row = row c.loop-k.a c.loop-k.b in (
      subst (Fits F.q (length c.args.a.now)) (sym (ap₂ row c.take_multiple.ensures c.take_multiple-in-loop-k.ensures))
          (less_fits F c.mul-c.result (c.loop-k.k - 1) L P c.loop-k.invariant.0),
      divide_turn F c.args.m c.loop-k.k c.mul-c.result c.inv-inverse.result L P _ c.take_multiple.new.p c.take_multiple-in-loop-k.new.p
          (omega arith) c.inv-inverse.ensures c.mul-c.ensures c.take_multiple.ensures c.take_multiple-in-loop-k.ensures c.loop-k.invariant.1,
    )

pub returns : goal.returns
returns g c =
    let F = g.F.Field.numbers in
    let L : Row = row c.args.la.now c.args.lb.now in
    let P : Row = row c.loop-k.a c.loop-k.b in
    sym (divide_none F c.args.m L P) ∙ ap (λ (k : ℕ). divide F c.args.m L k P) (let z : 0 ≡ c.loop-k.k = omega arith in z) ∙ c.loop-k.invariant.1
