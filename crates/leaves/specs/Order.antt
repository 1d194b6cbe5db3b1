-- The order of pairs: dictionary order of the first polynomial, and then of the second; and the order of the two polynomials in a chart.
use Rattle.std.specs.Prelude.{Bool}
use Rattle.rolls.specs.Order.{before, dictionary}
use Rattle.leaves.specs.declared.pairs.Pair.{Pair}
use Rattle.leaves.specs.declared.pairs.Chart.{Chart}
use Rattle.leaves.specs.declared.pairs.Chart.TheVariants.{Direct, Turned}

abbrev pub in_order : Pair → Pair → Bool
in_order p q = before (dictionary p.first q.first) (dictionary q.first p.first) (dictionary p.second q.second)

-- in the turned chart the two polynomials change places
abbrev pub arranged : Chart → Pair → Pair
arranged Direct p = p
arranged Turned p = record { first = p.second; second = p.first }
