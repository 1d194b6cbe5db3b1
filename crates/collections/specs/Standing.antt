-- Which book a collection stands for, what its answers say, and what a place tells a listing.
use Rattle.std.specs.Prelude.{◌≡◌, ℕ, ◌^◌, ◌<◌, List, map, take, Some, None, Ok, Err, Option, Result}
use Rattle.std.specs.Borrow.{Bor}
use Rattle.faults.specs.declared.CollectionFault.{CollectionFault}
use Rattle.faults.specs.declared.CollectionFault.TheVariants.{Blank}
use Rattle.faults.specs.Faults.{collection_refusal}
use Rattle.codes.specs.Opening.{Given}
use Rattle.collections.specs.declared.Place.{Place}
use Rattle.collections.specs.declared.Place.TheVariants.{Empty, Filled}
use Rattle.collections.specs.declared.Opened.{Opened}
use Rattle.collections.specs.declared.Page.{Page}
use Rattle.collections.specs.declared.Kept.{Kept}
use Rattle.collections.specs.Book.{Book, unopened, opened, places_in, place_check, place_in, Act, Said, done, told, refused, Right, Fair}

-- what opening was given
abbrev pub given_of : Opened → Given
given_of o = record {
  points = take o.code.count o.code.points;
  multipliers = take o.code.count o.code.multipliers;
  threshold = o.code.threshold;
  setting = o.setting;
}

-- the book: of the 32 places that are kept, the code's count
abbrev pub page : Option Page → Book
page None = unopened
page (Some p) = opened (given_of p.opened) (take p.opened.code.count p.places.at)

abbrev pub standing : Kept → Book
standing k = page k.page

-- what a collection was opened with
abbrev pub opened_in : Option Page → Option Opened
opened_in None = None
opened_in (Some p) = Some p.opened

-- an open collection is over the field of q elements, a number of 16 bits
abbrev pub Over : ℕ → Option Opened → Type 0
Over q None = Unit {0}
Over q (Some o) = (o.code.q ≡ q) × (q < 2 ^ 16)

-- what every collection over a field of q elements keeps from its first call on
abbrev pub Sound : ℕ → Kept → Type 0
Sound q k = Over q (opened_in k.page) × Fair q (standing k)

-- the share of a place, if it has one
abbrev pub share : Place → Option ℕ
share Empty = None
share (Filled v) = Some v

abbrev pub shares : Book → List (Option ℕ)
shares b = map share (places_in b)

-- what an answer says
abbrev pub said : {U : Type 0} → Result U CollectionFault → Said
said (Ok _) = done
said (Err f) = refused (collection_refusal f) f

abbrev pub said_place : Result Place CollectionFault → Said
said_place (Ok x) = told x
said_place (Err f) = refused (collection_refusal f) f

-- a refused call changes nothing at all
abbrev pub SameIfRefused : {U E K : Type 0} → Result U E → K → K → Type 0
SameIfRefused (Ok _) before after = Unit {0}
SameIfRefused (Err f) before after = after ≡ before

-- a call on what is kept, in a field of q elements
pub record Judged {U : Type 0} (q : ℕ) (before : Kept) (act : Act) (r : Result U CollectionFault) (after : Kept) : Type 0 where
  -- the answer is the book's, and the collection afterwards stands for the book afterwards
  pub right : Right q (standing before) act (said r) (standing after)
  pub same : SameIfRefused r before after

-- the page of an open collection, or the refusal of a blank one
abbrev pub TellsPage : Kept → Result (Bor Page) CollectionFault → Type 0
TellsPage k (Ok p) = k.page ≡ Some p.now
TellsPage k (Err f) = (k.page ≡ None) × (f ≡ Blank)

-- what an open collection was opened with, or the refusal of a blank one
abbrev pub TellsOpened : Kept → Result (Bor Opened) CollectionFault → Type 0
TellsOpened k (Ok o) = opened_in k.page ≡ Some o.now
TellsOpened k (Err f) = (k.page ≡ None) × (f ≡ Blank)

-- a place by the book: the fault of its check, or what it has
abbrev pub TellsPlace : Book → ℕ → Result Place CollectionFault → Type 0
TellsPlace b p (Ok x) = (place_check b p ≡ None) × (x ≡ place_in b p)
TellsPlace b p (Err f) = place_check b p ≡ Some f
