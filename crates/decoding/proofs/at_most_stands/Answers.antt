use Rattle.decoding.proofs.at_most_stands.Goals as goal
use Rattle.decoding.proofs.Theorems.{at_most_stands}

pub returns : goal.returns
returns g c = at_most_stands g.F.OverField.field
