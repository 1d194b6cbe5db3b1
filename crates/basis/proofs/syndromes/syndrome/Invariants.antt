use Rattle.std.proofs.Common.{◌≡◌, ◌-◌, length}
use Rattle.basis.proofs.Powers.{sums}
use Rattle.basis.proofs.syndromes.syndrome.Given as goal

abbrev pub invariant-loop-j : goal.invariant-loop-j
invariant-loop-j g l =
    let F = g.F.Field.numbers in
    l.out ≡ sums F l.points l.multipliers (length l.initial.out - 1) l.shares l.j
