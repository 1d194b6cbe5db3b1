use Rattle.std.proofs.Common.{◌-◌, length}
use Rattle.digits.proofs.Turns.{State}
use Rattle.digits.proofs.walking.+walk.Given as goal

abbrev pub decreases-walk : goal.decreases-walk
decreases-walk g l = length l.digits.now - l.t

abbrev pub invariant-loop-e : goal.invariant-loop-e
invariant-loop-e g l =
    State g.F.Field.numbers l.shape l.t g.L.Leaf.takes g.L.Leaf.visits l.initial.runs l.initial.digits l.initial.leaf l.e l.runs l.digits l.leaf
