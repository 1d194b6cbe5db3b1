-- The header of an input: which check refuses it first, 13, 14 or 15, and what is read where none does.
use Rattle.std.specs.Prelude.{◌≡◌, ℕ, ◌<◌, cond, List, length, take, Ok, Err, Option, Result, ◌==◌, nat_lt, slice_index}
use Rattle.faults.specs.declared.SheetFault.{SheetFault}
use Rattle.faults.specs.declared.SheetFault.TheVariants.{Version, Length}
use Rattle.codes.specs.First.{or_else, when, unless}
use Rattle.sheets.specs.declared.FieldName.{FieldName}
use Rattle.sheets.specs.Sheet.{Sheet, sheet_of, header_fault}
use Rattle.sheets.specs.Named.{naming}
use Rattle.console.specs.declared.Header.{Header}

-- more than 2,048 bytes: 13 if the version is not 1, else 14
abbrev pub overlong_fault : List ℕ → Option SheetFault
overlong_fault bs = when (nat_lt 2048 (length bs)) (cond (slice_index bs 0 == 1) Length Version)

-- the header over the field that the sheet names, or 15 if it names none
abbrev pub header_by : Result FieldName SheetFault → Sheet → Result Header SheetFault
header_by (Err f) s = Err f
header_by (Ok field) s = Ok (record { field = field; places = s.count; threshold = s.threshold })

abbrev pub header_of : Sheet → Result Header SheetFault
header_of s = header_by (naming s.field) s

abbrev pub header_in : List ℕ → Result Header SheetFault
header_in bs = unless (or_else (overlong_fault bs) (header_fault bs)) (header_of (sheet_of bs))

abbrev pub FirstBytesTell : Type 0
FirstBytesTell = (bs : List ℕ) → 2048 < length bs → header_in (take 2049 bs) ≡ header_in bs
