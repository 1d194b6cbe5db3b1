use Rattle.std.proofs.Common.{◌≤◌, length, ap, arith}
use Rattle.std.proofs.lemmas.List.{take_all}
use Rattle.algebra.specs.Poly.{conv, padd}
use Rattle.fields.specs.Numbers.{ring_of}
use Rattle.polynomials.specs.Series.{poly}
use Rattle.polynomials.proofs.Readings.{become}
use Rattle.sift.proofs.Splitting.{sum_none, sum_turn}
use Rattle.sift.proofs.roots.locate.Goals as goal

pub loop-i-init : goal.loop-i-init
loop-i-init g c =
    let F = g.F.Field.numbers in
    become c.multiply_into.ensures
    (sum_none F (conv (ring_of F) (poly F c.args.f1.now) (poly F c.args.h1.now)) c.args.f2.now c.args.h2.now)

pub loop-i-preserved : goal.loop-i-preserved
loop-i-preserved g c =
    let F = g.F.Field.numbers in
    become c.add_shifted_multiple.ensures
    (sum_turn F (conv (ring_of F) (poly F c.args.f1.now) (poly F c.args.h1.now)) (poly F c.loop-i.out) c.args.f2.now c.args.h2.now
    c.loop-i.i (omega arith) c.loop-i.invariant.is)
