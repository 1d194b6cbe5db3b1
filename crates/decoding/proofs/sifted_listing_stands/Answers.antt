use Rattle.decoding.proofs.sifted_listing_stands.Goals as goal
use Rattle.decoding.proofs.Theorems.{sifted_listing_stands}

pub returns : goal.returns
returns g c = sifted_listing_stands g.F.OverField.field
