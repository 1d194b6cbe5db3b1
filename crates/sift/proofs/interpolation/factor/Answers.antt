use Rattle.sift.proofs.Newton.{factor_is}
use Rattle.sift.proofs.interpolation.factor.Goals as goal

pub returns : goal.returns
returns g c =
    let r = factor_is g.F.Field.numbers c.evaluate.result c.evaluate-2.result c.args.y c.mul.result _ _
    c.evaluate.ensures.below c.evaluate-2.ensures.below c.requires.aim c.evaluate.ensures.is c.evaluate-2.ensures.is c.requires.apart (cc) in
    record { below = r.0; meets = r.1 }
