use Rattle.std.proofs.Common.{◌≡◌, ◌-◌, length, get_or}
use Rattle.polynomials.proofs.Writes.{Written}
use Rattle.stages.specs.Coefficients.{power}
use Rattle.basis.proofs.syndromes.add_powers.Given as goal

abbrev pub invariant-loop-i : goal.invariant-loop-i
invariant-loop-i g l =
    let F = g.F.Field.numbers in
    (l.power ≡ F.mul l.t (power F l.alpha (length l.initial.sums - l.i)))
    × Written l.i (length l.initial.sums) (λ i. F.add (get_or l.initial.sums i 0) (F.mul l.t (power F l.alpha (length l.initial.sums - 1 - i)))) l.initial.sums l.sums
