use Rattle.listings.proofs.Once.{listing_unique}
use Rattle.listings.proofs.listing_is_one.Goals as goal

pub returns : goal.returns
returns c = listing_unique
