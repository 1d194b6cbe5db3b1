use Rattle.std.proofs.Common.{length}
use Rattle.elimination.proofs.Sweeps.{Sweeping}
use Rattle.elimination.proofs.sweep.Given as goal

abbrev pub invariant-loop-j : goal.invariant-loop-j
invariant-loop-j g l = Sweeping g.F.Field.numbers (length l.pivot) l.initial.rows l.pivot l.values l.p l.j l.rows
