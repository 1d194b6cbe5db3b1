use Rattle.decoding.proofs.minimum_distance_stands.Goals as goal
use Rattle.decoding.proofs.Theorems.{minimum_distance_stands}

pub returns : goal.returns
returns g c = minimum_distance_stands g.F.OverField.field
