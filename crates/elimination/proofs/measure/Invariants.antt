use Rattle.std.proofs.Common.{◌≡◌, ℕ, ◌*◌, ◌<◌, length, get_or, drop}
use Rattle.functionals.specs.Runs.{run}
use Rattle.functionals.specs.Tables.{Discrepancy}
use Rattle.elimination.proofs.measure.Given as goal

abbrev pub invariant-loop-j : goal.invariant-loop-j
invariant-loop-j g l =
    let F = g.F.Field.numbers in
    (l.rest ≡ drop (l.j * l.size) l.rows)
    × ((i : ℕ) → i < l.j → (get_or l.values i 0 < F.q) × (get_or l.ranks i 0 < length l.xs → Discrepancy F (run l.size l.rows i) l.xs l.cs (get_or l.values i 0)))
