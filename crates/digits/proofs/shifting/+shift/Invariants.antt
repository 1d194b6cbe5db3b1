use Rattle.digits.proofs.shifting.+shift.Given as goal

abbrev pub decreases-shift : goal.decreases-shift
decreases-shift g l = l.shape.degree
