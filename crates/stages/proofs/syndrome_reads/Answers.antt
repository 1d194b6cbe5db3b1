use Rattle.stages.proofs.Syndrome.{syndrome_reads}
use Rattle.stages.proofs.syndrome_reads.Goals as goal

pub returns : goal.returns
returns c = syndrome_reads
