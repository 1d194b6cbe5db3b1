use Rattle.decoding.proofs.interpolant_exists_stands.Goals as goal
use Rattle.decoding.proofs.Theorems.{interpolant_exists_stands}

pub returns : goal.returns
returns g c = interpolant_exists_stands g.F.OverField.field
