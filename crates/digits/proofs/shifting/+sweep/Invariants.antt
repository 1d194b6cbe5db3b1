use Rattle.digits.proofs.shifting.+sweep.Given as goal

abbrev pub decreases-sweep : goal.decreases-sweep
decreases-sweep g l = l.shape.degree
