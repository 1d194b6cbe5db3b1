use Rattle.std.proofs.Common.{refl}
use Rattle.binary.proofs.Doubling.{double}
use Rattle.binary.proofs.Powers.{powers}
use Rattle.binary.proofs.Tables.{logs}
use Rattle.fields.proofs.gf256.TwoHundredFiftySixTabled.tables.Goals as goal

-- the tables in the code are those that the rule makes, which antt computes
pub returns : goal.returns
unfolding double powers logs
returns c = record { powers = refl; places = refl }
