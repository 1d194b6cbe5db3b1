use Rattle.codes.proofs.Examples.{worked_settings}
use Rattle.codes.proofs.theorems.worked_settings_stand.Goals as goal

pub returns : goal.returns
returns c = worked_settings
