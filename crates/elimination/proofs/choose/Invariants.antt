use Rattle.elimination.specs.Choice.{Chosen}
use Rattle.elimination.proofs.choose.Given as goal

abbrev pub invariant-loop-j : goal.invariant-loop-j
invariant-loop-j l = Chosen l.ranks l.values l.bound l.j l.best
