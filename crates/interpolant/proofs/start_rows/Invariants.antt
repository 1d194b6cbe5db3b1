use Rattle.polynomials.proofs.Writes.{Written}
use Rattle.interpolant.proofs.Starts.{first}
use Rattle.interpolant.proofs.start_rows.Given as goal

abbrev pub invariant-loop-i : goal.invariant-loop-i
invariant-loop-i g l = Written 0 l.i (first l.size l.bound) l.initial.rows l.rows
