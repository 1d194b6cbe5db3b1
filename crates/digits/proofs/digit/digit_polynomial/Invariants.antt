use Rattle.std.proofs.Common.{◌≡◌, ℕ, ◌<◌}
use Rattle.algebra.specs.Poly.{pzero}
use Rattle.fields.specs.Numbers.{ring_of}
use Rattle.polynomials.specs.Series.{Reads}
use Rattle.digits.specs.Runs.{runs}
use Rattle.digits.specs.Digits.{column}
use Rattle.digits.proofs.digit.digit_polynomial.Given as goal

abbrev pub invariant-loop-m : goal.invariant-loop-m
invariant-loop-m g l =
    let F = g.F.Field.numbers in
    Reads F l.out (pzero (ring_of F))
    × ((i : ℕ) → i < l.m → column (ring_of F) l.t i (runs F l.shape.width l.runs) ≡ pzero (ring_of F))
