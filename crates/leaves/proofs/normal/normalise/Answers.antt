use Rattle.leaves.proofs.Scaling.{normalised_is}
use Rattle.leaves.proofs.normal.normalise.Goals as goal

pub returns : goal.returns
returns g c =
    normalised_is g.F.Field.numbers c.args.f1.now c.args.f2.now c.scale.new.a c.scale-2.new.a c.leading.result c.inv-inverse.result
    c.leading.ensures c.inv-inverse.ensures c.scale.ensures c.scale-2.ensures
