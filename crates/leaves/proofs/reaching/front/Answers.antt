use Rattle.std.proofs.Common.{arith, length-take}
use Rattle.polynomials.proofs.Readings.{become}
use Rattle.digits.proofs.Arrays.{all_take}
use Rattle.leaves.proofs.Rational.{cut_is}
use Rattle.leaves.proofs.reaching.front.Goals as goal

pub pad-requires : goal.pad-requires
pad-requires g c =
    let F = g.F.Field.numbers in
    let l = length-take c.args.n c.args.p.now in
    record { all = all_take F c.args.n c.args.p.now c.requires.all; room = omega (arith, l, c.requires.fits) }

pub returns : goal.returns
returns g c =
    record { long = c.pad.auto.out; is = become c.pad.ensures (cut_is g.F.Field.numbers c.args.n c.args.p.now c.requires.small) }
