use Rattle.digits.proofs.digit.+gather.Given as goal

abbrev pub decreases-gather : goal.decreases-gather
decreases-gather g l = l.shape.degree
