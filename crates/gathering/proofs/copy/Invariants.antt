use Rattle.gathering.proofs.Copies.{Copying}
use Rattle.gathering.proofs.copy.Given as goal

abbrev pub invariant-loop-place : goal.invariant-loop-place
invariant-loop-place g l = Copying (g.S.Source.told l.source) l.place l.out
