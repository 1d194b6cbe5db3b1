use Rattle.std.proofs.Common.{◌≡◌}
use Rattle.stages.specs.Coefficients.{product}
use Rattle.basis.proofs.Powers.{factor}
use Rattle.basis.proofs.syndromes.dual.Given as goal

abbrev pub invariant-loop-h : goal.invariant-loop-h
invariant-loop-h g l = let F = g.F.Field.numbers in l.product ≡ product F l.h (factor F l.points l.j)
