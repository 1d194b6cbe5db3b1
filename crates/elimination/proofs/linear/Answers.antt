use Rattle.elimination.proofs.Advances.{linear_zero}
use Rattle.elimination.proofs.linear.Goals as goal

pub returns-then-x-eq0 : goal.returns-then-x-eq0
returns-then-x-eq0 g c =
    linear_zero g.F.Field.numbers c.args.low c.args.alpha c.args.x c.requires.first c.requires.second c.if-x-eq0.true
