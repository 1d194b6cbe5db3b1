use Rattle.runs.proofs.Recovered.{lists_complete}
use Rattle.runs.proofs.theorems.lists_complete.Goals as goal

pub returns : goal.returns
returns c = lists_complete
