use Rattle.std.proofs.Common.{◌≡◌, ◌∷◌, get_or}
use Rattle.polynomials.proofs.Writes.{Written}
use Rattle.polynomials.proofs.Shapes.{linear}
use Rattle.polynomials.proofs.mul_linear_in_place.Given as goal

abbrev pub invariant-loop-x : goal.invariant-loop-x
invariant-loop-x g l =
    (l.low ≡ get_or (0 ∷ l.initial.a) l.x-index 0)
    × Written 0 l.x-index (linear g.F.Field.numbers l.alpha l.initial.a) l.initial.a l.a
