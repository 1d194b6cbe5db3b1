use Rattle.runs.proofs.Recovered.{lists_given}
use Rattle.runs.proofs.theorems.lists_given.Goals as goal

pub returns : goal.returns
returns c = lists_given
