use Rattle.std.proofs.Common.{arith}
use Rattle.functionals.proofs.Tables.{taylor_table}
use Rattle.functionals.proofs.taylor_table.Goals as goal

pub returns : goal.returns
returns g c =
    taylor_table g.F.Field.numbers c.args.alpha c.args.size c.loop-i.i c.args.out.now c.loop-i.out c.requires.point
    c.loop-i.invariant (omega arith)
