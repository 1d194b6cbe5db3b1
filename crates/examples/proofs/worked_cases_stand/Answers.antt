use Rattle.examples.proofs.Worked.{worked_cases}
use Rattle.examples.proofs.worked_cases_stand.Goals as goal

pub returns : goal.returns
returns c = worked_cases
