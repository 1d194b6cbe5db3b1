use Rattle.decoding.proofs.walks_find_roots_stand.Goals as goal
use Rattle.decoding.proofs.Theorems.{walks_find_roots_stand}

pub returns : goal.returns
returns g c = walks_find_roots_stand g.F.OverField.field
