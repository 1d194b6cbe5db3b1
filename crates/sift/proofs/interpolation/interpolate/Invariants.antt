use Rattle.std.proofs.Common.{length}
use Rattle.sift.proofs.Newton.{Newton}
use Rattle.sift.proofs.interpolation.interpolate.Given as goal

abbrev pub invariant-loop-point : goal.invariant-loop-point
invariant-loop-point g l = Newton g.F.Field.numbers l.points l.values (length l.yielded) l.out l.node
