use Rattle.decoding.proofs.complete_list_stands.Goals as goal
use Rattle.decoding.proofs.Theorems.{complete_list_stands}

pub returns : goal.returns
returns g c = complete_list_stands g.F.OverField.field
