use Rattle.std.proofs.Common.{◌≤◌}
use Rattle.compare_roots.proofs.try_all.Given as goal

-- of the pairs so far
abbrev pub invariant-loop-n : goal.invariant-loop-n
invariant-loop-n l = (l.tried ≤ l.n) × (l.both ≤ l.n)
