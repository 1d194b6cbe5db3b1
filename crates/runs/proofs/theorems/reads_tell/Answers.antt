use Rattle.runs.proofs.Histories.{reads_tell}
use Rattle.runs.proofs.theorems.reads_tell.Goals as goal

pub returns : goal.returns
returns c = reads_tell
