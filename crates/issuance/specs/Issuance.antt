-- Issuing a message by a sheet: which check refuses first, and what is issued where none does.
use Rattle.std.specs.Prelude.{◌≡◌, ℕ, List, take, Some, None, Option, slice_index}
use Rattle.fields.specs.Numbers.{Numbers}
use Rattle.faults.specs.declared.SheetFault.TheVariants.{OtherField, Collection}
use Rattle.faults.specs.declared.CollectionFault.TheVariants.{Code}
use Rattle.codes.specs.First.{or_else, mapped}
use Rattle.codes.specs.Opening.{first_fault, Holds}
use Rattle.codes.specs.Codewords.{codeword, message_fault}
use Rattle.sheets.specs.Named.{field_numbered, numbers_named}
use Rattle.sheets.specs.Sheet.{Sheet as SheetParts, sheet_of, given_in, header_fault}
use Rattle.issuance.specs.declared.IssueFault.{IssueFault}
use Rattle.issuance.specs.declared.IssueFault.TheVariants.{Sheet, Listing}
use Rattle.issuance.specs.declared.Issued.{Issued}
use Rattle.issuance.specs.declared.Share.{Share}

-- over one field: the checks of opening, then those of the message
abbrev pub over_fault : Numbers → SheetParts → List ℕ → Option IssueFault
over_fault F s message =
    or_else (mapped (λ e. Sheet (Collection (Code e))) (first_fault F.q (given_in s)))
    (mapped Listing (message_fault F.q s.threshold message))

pub record Issues (F : Numbers) (s : SheetParts) (message : List ℕ) (i : Issued) : Type 0 where
  pub field : i.field ≡ s.field
  pub code : Holds F.q (given_in s) i.code
  pub word : take s.count i.word ≡ codeword F (given_in s).points (given_in s).multipliers message

-- the field of a sheet number
abbrev pub field_by : ℕ → Option Numbers
field_by tag = mapped numbers_named (field_numbered tag)

-- over the field that the sheet names, if it names one
abbrev pub named_fault : Option Numbers → SheetParts → List ℕ → Option IssueFault
named_fault None s message = Some (Sheet (OtherField s.field))
named_fault (Some F) s message = over_fault F s message

abbrev pub NamedIssues : Option Numbers → SheetParts → List ℕ → Issued → Type 0
NamedIssues None s message i = ⊥
NamedIssues (Some F) s message i = Issues F s message i

-- from the bytes of a sheet
abbrev pub sheet_fault : List ℕ → List ℕ → Option IssueFault
sheet_fault bs message =
    or_else (mapped Sheet (header_fault bs)) (named_fault (field_by (sheet_of bs).field) (sheet_of bs) message)

abbrev pub SheetIssues : List ℕ → List ℕ → Issued → Type 0
SheetIssues bs message i = NamedIssues (field_by (sheet_of bs).field) (sheet_of bs) message i

-- what is given to a place
abbrev pub share_at : Issued → ℕ → Share
share_at i p = record { place = p; point = slice_index i.code.points p; multiplier = slice_index i.code.multipliers p; share = slice_index i.word p }
