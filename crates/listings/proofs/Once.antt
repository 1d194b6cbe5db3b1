-- Two listings of the same shares are one list.
use Rattle.rolls.proofs.Unique.{order_unique}
use Rattle.candidates.specs.Orders.{in_order_total}
use Rattle.listings.specs.Theorems.{ListingUnique}

pub listing_unique : ListingUnique
listing_unique F g rs xs ys l m =
    order_unique in_order_total xs ys l.all.ascending m.all.ascending (λ z h. m.all.complete z (l.all.sound z h)) (λ z h. l.all.complete z (m.all.sound z h))
