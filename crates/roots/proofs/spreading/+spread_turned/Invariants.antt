use Rattle.roots.proofs.spreading.+spread_turned.Given as goal

abbrev pub decreases-spread_turned : goal.decreases-spread_turned
decreases-spread_turned g l = l.degree
