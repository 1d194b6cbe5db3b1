-- Loading is opening and then entering in place order, or is refused as a whole.
-- In order: the acts of a sheet, acts of which none is done where one is refused, the first check that refuses a loading, and one loading against the book.
use Rattle.std.specs.Prelude.{◌≡◌, ℕ, ◌+◌, List, [], ◌∷◌, Some, None, Ok, Err, Option, Result}
use Rattle.faults.specs.declared.Refusal.{Refusal}
use Rattle.faults.specs.declared.CollectionFault.{CollectionFault}
use Rattle.faults.specs.declared.SheetFault.{SheetFault}
use Rattle.faults.specs.declared.SheetFault.TheVariants.{Collection}
use Rattle.faults.specs.Faults.{sheet_refusal, sheet_byte}
use Rattle.codes.specs.First.{or_else, mapped}
use Rattle.collections.specs.declared.Kept.{Kept}
use Rattle.collections.specs.Book.{Book, Act, opening, entering, check, writes}
use Rattle.collections.specs.Standing.{standing, SameIfRefused}
use Rattle.transfer.specs.Writing.{bytes_of}
use Rattle.sheets.specs.Sheet.{Sheet, sheet_of, header_fault, field_fault, given_in, shares_in}

-- the shares of a source are entered in place order, from place i on
abbrev pub enterings : ℕ → List (Option ℕ) → List Act
enterings i [] = []
enterings i (None ∷ xs) = enterings (i + 1) xs
enterings i (Some v ∷ xs) = entering i v ∷ enterings (i + 1) xs

abbrev pub acts_of : Sheet → List Act
acts_of s = opening (given_in s) ∷ enterings 0 (shares_in s)

-- acts in order: the first that is refused, and the book that they leave
abbrev pub first_refused : ℕ → Book → List Act → Option CollectionFault
first_refused q b [] = None
first_refused q b (a ∷ acts) = or_else (check q b a) (first_refused q (writes b a) acts)

abbrev pub all_written : Book → List Act → Book
all_written b [] = b
all_written b (a ∷ acts) = all_written (writes b a) acts

-- 13 and 14, 15, and then 21, 1 to 6 and 8, in a field of q elements with the sheet number tag
abbrev pub load_fault : ℕ → ℕ → Book → List ℕ → Option SheetFault
load_fault q tag b bs =
    let s = sheet_of bs in
    or_else (header_fault bs) (or_else (field_fault tag s) (mapped Collection (first_refused q b (acts_of s))))

abbrev pub loaded : Book → List ℕ → Book
loaded b bs = all_written b (acts_of (sheet_of bs))

-- what a loading says: a refusal has its number, place and layer, the sheet's byte, and the values of the fault
pub data Said : Type 0 where
  done : Said
  refused : Refusal → ℕ → SheetFault → Said

abbrev pub said_by : Option SheetFault → Said
said_by None = done
said_by (Some f) = refused (sheet_refusal f) (sheet_byte f) f

abbrev pub left_by : Option SheetFault → Book → Book → Book
left_by None after before = after
left_by (Some f) after before = before

pub record Loads (q tag : ℕ) (before : Book) (bs : List ℕ) (answer : Said) (after : Book) : Type 0 where
  pub answers : answer ≡ said_by (load_fault q tag before bs)
  pub leaves : after ≡ left_by (load_fault q tag before bs) (loaded before bs) before

abbrev pub said : {U : Type 0} → Result U SheetFault → Said
said (Ok _) = done
said (Err f) = refused (sheet_refusal f) (sheet_byte f) f

-- a loaded sheet is written back byte for byte
abbrev pub BackIfLoaded : {U : Type 0} → Result U SheetFault → ℕ → List ℕ → Book → Type 0
BackIfLoaded (Ok _) tag bs after = bytes_of tag after ≡ bs
BackIfLoaded (Err f) tag bs after = Unit {0}

-- a loading into what is kept
pub record Loaded {U : Type 0} (q tag : ℕ) (before : Kept) (bs : List ℕ) (r : Result U SheetFault) (after : Kept) : Type 0 where
  pub right : Loads q tag (standing before) bs (said r) (standing after)
  pub same : SameIfRefused r before after
  pub back : BackIfLoaded r tag bs (standing after)
