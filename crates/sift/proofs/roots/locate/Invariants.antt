use Rattle.std.proofs.Common.{take}
use Rattle.algebra.specs.Poly.{conv, padd}
use Rattle.fields.specs.Numbers.{ring_of}
use Rattle.polynomials.specs.Series.{poly, Reads}
use Rattle.sift.proofs.roots.locate.Given as goal

abbrev pub invariant-loop-i : goal.invariant-loop-i
invariant-loop-i g l =
    let F = g.F.Field.numbers in
    Reads F l.out (padd (ring_of F) (conv (ring_of F) (poly F l.f1) (poly F l.h1)) (conv (ring_of F) (poly F (take l.i l.f2)) (poly F l.h2)))
