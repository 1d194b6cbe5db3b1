use Rattle.decoding.proofs.key_equation_stands.Goals as goal
use Rattle.decoding.proofs.Theorems.{key_equation_stands}

pub returns : goal.returns
returns g c = key_equation_stands g.F.OverField.field
