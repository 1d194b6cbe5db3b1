use Rattle.std.proofs.Common.{◌/◌, ◌%◌, ◌∙◌, arith}
use Rattle.polynomials.proofs.Writes.{written_turn}
use Rattle.functionals.proofs.Tables.{unit_table, unit_yes, unit_no}
use Rattle.functionals.proofs.unit_table.Goals.{then-i-size, else-i-size}
use Rattle.functionals.proofs.unit_table.Goals as goal

pub loop-i-preserved : goal.loop-i-preserved
loop-i-preserved g c =
    let F = g.F.Field.numbers in
    let i = c.loop-i.i in
    let n = c.args.size in
    written_turn c.loop-i.invariant (omega arith) (omega arith)
    (λ _. elim c.if-i-size.branch [
      | then-i-size w ↦ w.weight-is ∙ unit_yes F n (i % n) (i / n) w.if-i-size.true
      | else-i-size w ↦ w.weight-is ∙ unit_no F n (i % n) (i / n) w.if-i-size.false
    ])

pub returns : goal.returns
returns g c =
    unit_table g.F.Field.numbers c.args.size c.loop-i.i c.args.out.now c.loop-i.out c.loop-i.invariant (omega arith)
