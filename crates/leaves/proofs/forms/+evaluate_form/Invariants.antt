use Rattle.leaves.proofs.forms.+evaluate_form.Given as goal

abbrev pub decreases-evaluate_form : goal.decreases-evaluate_form
decreases-evaluate_form g l = l.degree
