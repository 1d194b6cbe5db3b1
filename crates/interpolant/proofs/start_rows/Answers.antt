use Rattle.std.proofs.Common.{◌∙◌, arith}
use Rattle.polynomials.proofs.Writes.{written_turn}
use Rattle.interpolant.proofs.Starts.{first_yes, first_no, first_rows}
use Rattle.interpolant.proofs.start_rows.Goals.{then-i-size, else-i-size}
use Rattle.interpolant.proofs.start_rows.Goals as goal

pub loop-i-preserved : goal.loop-i-preserved
loop-i-preserved g c =
    written_turn c.loop-i.invariant (omega arith) (omega arith)
    (λ _. elim c.if-i-size.branch [
      | then-i-size w ↦ w.x-is ∙ first_yes c.args.size c.args.bound c.loop-i.i w.if-i-size.true
      | else-i-size w ↦ w.x-is ∙ first_no c.args.size c.args.bound c.loop-i.i w.if-i-size.false
    ])

pub returns : goal.returns
returns g c =
    first_rows g.F.Field.numbers c.args.size c.args.bound c.loop-i.i c.args.rows.now c.loop-i.rows c.loop-i.invariant (omega arith)
