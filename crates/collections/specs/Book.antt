-- The share book: what a collection has to hold and to answer, told by the calls' arguments alone.
-- In order: the book, what a call asks of it, which check refuses first, what an accepted call writes and answers, one call against the book, and which books calls lead to.
use Rattle.std.specs.Prelude.{◌≡◌, ℕ, ◌<◌, not, List, [], ◌∷◌, length, replicate, Some, None, Option, ◌==◌, nat_le, slice_index_or, slice_set}
use Rattle.faults.specs.declared.Refusal.{Refusal}
use Rattle.faults.specs.declared.CodeFault.{CodeFault}
use Rattle.faults.specs.declared.CollectionFault.{CollectionFault}
use Rattle.faults.specs.declared.CollectionFault.TheVariants.{Blank, AlreadyOpen, Code, NoSuchPlace, NotAnElement, OtherValue, NothingThere}
use Rattle.faults.specs.Faults.{collection_refusal}
use Rattle.codes.specs.First.{or_else, when}
use Rattle.codes.specs.Opening.{Given, first_fault}
use Rattle.collections.specs.declared.Place.{Place}
use Rattle.collections.specs.declared.Place.TheVariants.{Empty, Filled}

-- blank, or open with what opening was given and its places
pub data Book : Type 0 where
  unopened : Book
  opened : Given → List Place → Book

abbrev pub places_in : Book → List Place
places_in unopened = []
places_in (opened g ps) = ps

abbrev pub place_in : Book → ℕ → Place
place_in b p = slice_index_or (places_in b) p Empty

-- what a call asks
pub data Act : Type 0 where
  opening : Given → Act
  entering : ℕ → ℕ → Act
  withdrawing : ℕ → Act
  reading : ℕ → Act

-- 1 to 6
abbrev pub of_code : Option CodeFault → Option CollectionFault
of_code (Some f) = Some (Code f)
of_code None = None

-- 21
abbrev pub blank_check : Book → Option CollectionFault
blank_check unopened = None
blank_check (opened g ps) = Some AlreadyOpen

-- 20, then 7: what every call at a place begins with
abbrev pub place_check : Book → ℕ → Option CollectionFault
place_check unopened p = Some Blank
place_check (opened g ps) p = when (nat_le (length ps) p) (NoSuchPlace p)

-- 8
abbrev pub number_check : ℕ → ℕ → ℕ → Option CollectionFault
number_check q p v = when (nat_le q v) (NotAnElement p v)

-- 22
abbrev pub other_check : ℕ → ℕ → Place → Option CollectionFault
other_check p v Empty = None
other_check p v (Filled w) = when (not (w == v)) (OtherValue p w)

-- 23
abbrev pub nothing_check : ℕ → Place → Option CollectionFault
nothing_check p Empty = Some (NothingThere p)
nothing_check p (Filled w) = None

-- the first check that refuses, in the order of each call
abbrev pub check : ℕ → Book → Act → Option CollectionFault
check q b (opening g) = or_else (blank_check b) (of_code (first_fault q g))
check q b (entering p v) = or_else (place_check b p) (or_else (number_check q p v) (other_check p v (place_in b p)))
check q b (withdrawing p) = or_else (place_check b p) (nothing_check p (place_in b p))
check q b (reading p) = place_check b p

-- what an accepted call writes
abbrev pub putting : Book → ℕ → Place → Book
putting unopened p x = unopened
putting (opened g ps) p x = opened g (slice_set ps p x)

abbrev pub writes : Book → Act → Book
writes b (opening g) = opened g (replicate (length g.points) Empty)
writes b (entering p v) = putting b p (Filled v)
writes b (withdrawing p) = putting b p Empty
writes b (reading p) = b

-- what a call says: a refusal has its number, place and layer, and the values of the fault
pub data Said : Type 0 where
  done : Said
  told : Place → Said
  refused : Refusal → CollectionFault → Said

abbrev pub accepts : Book → Act → Said
accepts b (opening g) = done
accepts b (entering p v) = done
accepts b (withdrawing p) = done
accepts b (reading p) = told (place_in b p)

abbrev pub said_by : Option CollectionFault → Said → Said
said_by None a = a
said_by (Some f) a = refused (collection_refusal f) f

abbrev pub left_by : Option CollectionFault → Book → Book → Book
left_by None after before = after
left_by (Some f) after before = before

-- one call against the book, in a field of q elements: refused by the first check that applies, and the book is left as it was; else accepted
pub record Right (q : ℕ) (before : Book) (act : Act) (answer : Said) (after : Book) : Type 0 where
  pub answers : answer ≡ said_by (check q before act) (accepts before act)
  pub leaves : after ≡ left_by (check q before act) (writes before act) before

-- A book that calls lead to: what opening was given passes its checks, there is a place for each point, and each value is an element.
abbrev pub Fits : ℕ → Place → Type 0
Fits q Empty = Unit {0}
Fits q (Filled v) = v < q

abbrev pub AllFit : ℕ → List Place → Type 0
AllFit q [] = Unit {0}
AllFit q (x ∷ ps) = Fits q x × AllFit q ps

pub record FairPage (q : ℕ) (g : Given) (ps : List Place) : Type 0 where
  pub passed : first_fault q g ≡ None
  pub count : length ps ≡ length g.points
  pub elements : AllFit q ps

abbrev pub Fair : ℕ → Book → Type 0
Fair q unopened = Unit {0}
Fair q (opened g ps) = FairPage q g ps
