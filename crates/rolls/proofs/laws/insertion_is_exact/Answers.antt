use Rattle.rolls.proofs.Unique.{insertion_exact, order_unique}
use Rattle.rolls.proofs.laws.insertion_is_exact.Goals as goal

pub returns : goal.returns
returns g c =
    let order = g.met.T.Ordered.order in record { exact = insertion_exact order; unique = order_unique order }
