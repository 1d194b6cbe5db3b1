use Rattle.std.proofs.Common.{◌≡◌, ℕ, ◌<◌, length, get_or}
use Rattle.fields.specs.Numbers.{elem}
use Rattle.polynomials.specs.Series.{poly, value}
use Rattle.sift.proofs.roots.values_at.Given as goal

abbrev pub invariant-loop-j : goal.invariant-loop-j
invariant-loop-j g l =
    let F = g.F.Field.numbers in
    (k : ℕ) → k < l.j → (get_or l.out k 0 < F.q) × (elem F (get_or l.out k 0) ≡ value F (length l.p) (poly F l.p) (get_or l.points k 0))
