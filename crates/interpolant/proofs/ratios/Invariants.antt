use Rattle.std.proofs.Common.{◌≡◌, ℕ, ◌<◌, length, get_or}
use Rattle.algebra.specs.Poly.{at}
use Rattle.fields.specs.Numbers.{elem, minus, ring_of}
use Rattle.polynomials.specs.Series.{poly}
use Rattle.interpolant.proofs.ratios.Given as goal

abbrev pub invariant-loop-i : goal.invariant-loop-i
invariant-loop-i g l =
    let F = g.F.Field.numbers in
    ((k : ℕ) → k < l.i → (get_or l.ys k 0 < F.q) × (elem F (get_or l.ys k 0) ≡ at (ring_of F) (poly F l.points k) (length l.h11) (poly F l.h11)))
    × ((k : ℕ) → k < l.i → (get_or l.zs k 0 < F.q) × (elem F (get_or l.zs k 0) ≡ minus F (at (ring_of F) (poly F l.points k) (length l.h21) (poly F l.h21))))
