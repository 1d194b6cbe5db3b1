use Rattle.roots.proofs.spreading.+spread.Given as goal

abbrev pub decreases-spread : goal.decreases-spread
decreases-spread g l = l.degree
