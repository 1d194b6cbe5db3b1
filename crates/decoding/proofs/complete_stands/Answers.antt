use Rattle.decoding.proofs.complete_stands.Goals as goal
use Rattle.decoding.proofs.Theorems.{complete_stands}

pub returns : goal.returns
returns g c = complete_stands g.F.OverField.field
