use Rattle.codes.proofs.Exactly.{opens_exactly}
use Rattle.codes.proofs.theorems.openings_stand.Goals as goal

pub returns : goal.returns
returns c = opens_exactly
