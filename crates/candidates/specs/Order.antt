-- The order of candidates: dictionary order of the values, then the distance, then dictionary order of the message.
use Rattle.std.specs.Prelude.{Bool, nat_lt}
use Rattle.rolls.specs.Order.{before, dictionary}
use Rattle.candidates.specs.declared.records.Candidate.{Candidate}

-- by the distance, and then by the message
abbrev pub by_rest : Candidate → Candidate → Bool
by_rest c d = before (nat_lt c.distance d.distance) (nat_lt d.distance c.distance) (dictionary c.message d.message)

abbrev pub in_order : Candidate → Candidate → Bool
in_order c d = before (dictionary c.word d.word) (dictionary d.word c.word) (by_rest c d)
