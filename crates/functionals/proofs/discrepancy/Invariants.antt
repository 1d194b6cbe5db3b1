use Rattle.std.proofs.Common.{◌≡◌, ◌*◌, ◌<◌, length, drop}
use Rattle.fields.specs.Numbers.{elem}
use Rattle.algebra.specs.Sums.{sum}
use Rattle.fields.specs.Numbers.{ring_of}
use Rattle.functionals.proofs.Runs.{term}
use Rattle.functionals.proofs.discrepancy.Given as goal

abbrev pub invariant-loop-weight : goal.invariant-loop-weight
invariant-loop-weight g l =
    let F = g.F.Field.numbers in
    (l.rest ≡ drop (l.weight-index * length l.xs) l.row) × (l.sum < F.q) × (elem F l.sum ≡ sum (ring_of F) l.weight-index (term F l.row l.xs l.cs))
