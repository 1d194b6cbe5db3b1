use Rattle.std.proofs.Common.{length}
use Rattle.sift.proofs.Gathering.{Gathering}
use Rattle.sift.proofs.words.gather.Given as goal

abbrev pub invariant-loop-j : goal.invariant-loop-j
invariant-loop-j g l =
    Gathering g.F.Field.numbers l.received.points.now l.received.multipliers.now l.received.shares.now l.values (length l.initial.xs) l.j l.i l.xs l.ys
