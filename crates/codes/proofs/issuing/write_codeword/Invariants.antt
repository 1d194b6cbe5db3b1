use Rattle.codes.proofs.Issued.{at_place, Written}
use Rattle.codes.proofs.issuing.write_codeword.Given as goal

abbrev pub invariant-loop-i : goal.invariant-loop-i
invariant-loop-i g l = Written (at_place g.F.Field.numbers l.points l.multipliers l.message) l.i l.initial.place-items l.place-items
