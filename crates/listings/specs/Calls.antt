-- The listing call by the book: the checks that refuse it, in order, and what it leaves in the result area.
use Rattle.std.specs.Prelude.{◌≡◌, ℕ, ◌-◌, ◌≤◌, List, ◌++◌, length, take, replicate, Some, Ok, Err, Option, Result, nat_lt}
use Rattle.fields.specs.Numbers.{Numbers}
use Rattle.faults.specs.declared.CollectionFault.TheVariants.{Blank}
use Rattle.faults.specs.declared.ListingFault.{ListingFault}
use Rattle.faults.specs.declared.ListingFault.TheVariants.{Collection, ResultArea, WorkArea}
use Rattle.codes.specs.declared.Setting.{Setting}
use Rattle.codes.specs.First.{or_else, when}
use Rattle.codes.specs.Opening.{Given}
use Rattle.collections.specs.Book.{Book, unopened, opened}
use Rattle.gathering.specs.Shares.{numbers, gathering_fault}
use Rattle.interpolating.specs.Interpolation.{room_fault}
use Rattle.candidates.specs.declared.records.Candidate.{Candidate}
use Rattle.candidates.specs.Telling.{blank}
use Rattle.listings.specs.Listing.{Listing}

-- 10, then 11, for a result area of m records and a work area of w numbers
abbrev pub area_fault : ℕ → Setting → ℕ → ℕ → Option ListingFault
area_fault n x m w = room_fault n x x.list_limit m w

-- 20, then 9, 24 and 8, then 10 and 11
abbrev pub listing_fault : ℕ → Book → List (Option ℕ) → ℕ → ℕ → Option ListingFault
listing_fault q unopened told m w = Some (Collection Blank)
listing_fault q (opened g ps) told m w =
    or_else (gathering_fault q (length g.points) told) (area_fault (length g.points) g.setting m w)

-- the first n records of the area are the listing of the shares, and blank records follow them
pub record Listed (F : Numbers) (g : Given) (rs : List ℕ) (n : ℕ) (area : List Candidate) : Type 0 where
  pub room : n ≤ length area
  pub listing : Listing F g rs (take n area)
  pub beyond : area ≡ take n area ++ replicate (length area - n) blank

-- an accepted call lists, and a refused one changes nothing
abbrev pub Outcome : Numbers → Given → List ℕ → Result ℕ ListingFault → (before after : List Candidate) → Type 0
Outcome F g rs (Ok n) before after = Listed F g rs n after × (length after ≡ length before)
Outcome F g rs (Err e) before after = after ≡ before

-- the same for the shares that were told; a blank book lists nothing
abbrev pub Answered : Numbers → Book → List (Option ℕ) → Result ℕ ListingFault → (before after : List Candidate) → Type 0
Answered F unopened told r before after = after ≡ before
Answered F (opened g ps) told r before after = Outcome F g (numbers told) r before after
