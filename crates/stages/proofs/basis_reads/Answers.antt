use Rattle.stages.proofs.Basis.{basis_reads}
use Rattle.stages.proofs.basis_reads.Goals as goal

pub returns : goal.returns
returns c = basis_reads
