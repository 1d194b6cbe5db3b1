use Rattle.listed_examples.proofs.Listed.{listed_cases}
use Rattle.listed_examples.proofs.listed_cases_stand.Goals as goal

pub returns : goal.returns
returns c = listed_cases
