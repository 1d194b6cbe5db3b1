use Rattle.functionals.proofs.Tables.{slope_finite}
use Rattle.functionals.proofs.slope_of.Goals as goal

pub returns-clause-is : goal.returns-clause-is
returns-clause-is g c =
    slope_finite g.F.Field.numbers c.args.y c.args.z c.inv.result c.mul.result c.requires.first c.requires.second c.if-z-eq0.false c.inv.ensures
    c.mul.ensures
