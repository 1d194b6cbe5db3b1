use Rattle.std.proofs.Common.{◌+◌, ◌-◌, ◌*◌, length}
use Rattle.polynomials.proofs.Writes.{Written}
use Rattle.interpolant.proofs.start_ranks.Given as goal

abbrev pub invariant-loop-j : goal.invariant-loop-j
invariant-loop-j l = Written 0 l.j (λ j. j * l.w2 + (length l.initial.ranks - 1 - j) * l.w1) l.initial.ranks l.ranks
