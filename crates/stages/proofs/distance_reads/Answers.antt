use Rattle.stages.proofs.Words.{distance_reads}
use Rattle.stages.proofs.distance_reads.Goals as goal

pub returns : goal.returns
returns c = distance_reads
