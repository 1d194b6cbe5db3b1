use Rattle.std.proofs.Common.{length, arith}
use Rattle.std.proofs.lemmas.Int.{ints}
use Rattle.stages.proofs.Coefficients.{size_is}
use Rattle.basis.proofs.stage.second_weight.Goals as goal

pub returns : goal.returns
returns g c =
    let p = c.args.rows.now.lb.now in
    let e = size_is g.F.Field.numbers (length p) p c.requires.all in
    omega (arith, ints)
