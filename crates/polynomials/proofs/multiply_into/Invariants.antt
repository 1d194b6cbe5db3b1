use Rattle.std.proofs.Common.{take}
use Rattle.algebra.specs.Poly.{conv}
use Rattle.fields.specs.Numbers.{ring_of}
use Rattle.polynomials.specs.Series.{poly, Reads}
use Rattle.polynomials.proofs.multiply_into.Given as goal

abbrev pub invariant-loop-i : goal.invariant-loop-i
invariant-loop-i g l =
    let F = g.F.Field.numbers in
    Reads F l.out (conv (ring_of F) (poly F (take l.i l.a)) (poly F l.b))
