use Rattle.listings.proofs.Meaning.{within_meant}
use Rattle.listings.proofs.records_are_meant.Goals as goal

pub returns : goal.returns
returns c = within_meant
