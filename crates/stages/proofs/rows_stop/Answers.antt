use Rattle.stages.proofs.Euclid.{rows_stop}
use Rattle.stages.proofs.rows_stop.Goals as goal

pub returns : goal.returns
returns c = rows_stop
