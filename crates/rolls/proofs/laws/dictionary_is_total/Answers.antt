use Rattle.rolls.proofs.Orders.{dictionary_total, dictionary_compares}
use Rattle.rolls.proofs.laws.dictionary_is_total.Goals as goal

pub returns : goal.returns
returns c = record { total = dictionary_total; compares = dictionary_compares }
