-- What is printed of an input, by the share book: the refusal of the first check that applies, or all candidates near the shares.
use Rattle.std.specs.Prelude.{◌≡◌, ℕ, List, Some, None, Ok, Err, Option, Result}
use Rattle.fields.specs.Numbers.{Numbers}
use Rattle.faults.specs.declared.ListingFault.{ListingFault}
use Rattle.faults.specs.declared.SheetFault.{SheetFault}
use Rattle.faults.specs.Faults.{listing_refusal}
use Rattle.faults.specs.Lines.{refusal_line, sheet_line}
use Rattle.candidates.specs.declared.records.Candidate.{Candidate}
use Rattle.collections.specs.Book.{Book, unopened}
use Rattle.collections.specs.Standing.{shares}
use Rattle.transfer.specs.Loading.{load_fault, loaded}
use Rattle.listings.specs.Calls.{listing_fault}
use Rattle.runs.specs.Law.{AllNear}
use Rattle.sheets.specs.declared.FieldName.{FieldName}
use Rattle.sheets.specs.declared.FieldName.TheVariants.{Mod7, Gf16, Gf256, Mod929}
use Rattle.sheets.specs.Named.{numbers_named}
use Rattle.console.specs.declared.Header.{Header}
use Rattle.console.specs.Headers.{header_in}
use Rattle.console.specs.Lines.{ended, list_text}

-- the sheet number of a field
abbrev pub tag_named : FieldName → ℕ
tag_named Mod7 = 1
tag_named Gf16 = 2
tag_named Gf256 = 3
tag_named Mod929 = 4

-- of an open book, in words of n values with messages of k numbers
abbrev pub PrintsListing : Numbers → (k n : ℕ) → Book → Option ListingFault → (text : List ℕ) → Type 0
PrintsListing F k n b (Some f) text = text ≡ ended (refusal_line (listing_refusal f))
PrintsListing F k n b None text = (items : List Candidate) × AllNear F b items × (text ≡ list_text k n items)

-- of a sheet, where loading is refused or not; there is room for 8 records, and a work area of w numbers
abbrev pub PrintsLoading : Numbers → (k n w : ℕ) → List ℕ → Option SheetFault → (text : List ℕ) → Type 0
PrintsLoading F k n w bs (Some f) text = text ≡ ended (sheet_line f)
PrintsLoading F k n w bs None text =
    let b = loaded unopened bs in PrintsListing F k n b (listing_fault F.q b (shares b) 8 w) text

abbrev pub PrintsSheet : Numbers → (tag k n w : ℕ) → List ℕ → (text : List ℕ) → Type 0
PrintsSheet F tag k n w bs text = PrintsLoading F k n w bs (load_fault F.q tag unopened bs) text

-- of an input with this header
abbrev pub PrintsHeaded : Header → (w : ℕ) → List ℕ → (text : List ℕ) → Type 0
PrintsHeaded h w bs text = PrintsSheet (numbers_named h.field) (tag_named h.field) h.threshold h.places w bs text

abbrev pub PrintsBy : Result Header SheetFault → List ℕ → (text : List ℕ) → Type 0
PrintsBy (Err f) bs text = text ≡ ended (sheet_line f)
PrintsBy (Ok h) bs text = PrintsHeaded h 32000 bs text

abbrev pub Prints : List ℕ → (text : List ℕ) → Type 0
Prints bs text = PrintsBy (header_in bs) bs text
