use Rattle.sift.proofs.Gathering.{Writing}
use Rattle.sift.proofs.words.encode.Given as goal

abbrev pub invariant-loop-j : goal.invariant-loop-j
invariant-loop-j g l = Writing g.F.Field.numbers l.received.points.now l.received.multipliers.now l.message l.j l.word
