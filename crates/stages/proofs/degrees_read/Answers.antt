use Rattle.stages.proofs.Euclid.{degrees_read}
use Rattle.stages.proofs.degrees_read.Goals as goal

pub returns : goal.returns
returns c = degrees_read
