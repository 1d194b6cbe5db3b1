-- Which sheet a reader stands for.
use Rattle.std.specs.Prelude.{◌≡◌, ℕ, ◌*◌, ◌/◌, ◌≤◌, List, length}
use Rattle.sheets.specs.declared.Reader.{Reader}
use Rattle.sheets.specs.Sheet.{Sheet, sheet_of}

abbrev pub meant : Reader → Sheet
meant r = record { field = r.field; count = length r.entries.now / 6; threshold = r.threshold; setting = r.setting; entries = r.entries.now }

-- at most 255 places
abbrev pub Short : Reader → Type 0
Short r = length r.entries.now ≤ 6 * 255

-- the reader reads these bytes
pub record Reads (bs : List ℕ) (r : Reader) : Type 0 where
  pub sheet : meant r ≡ sheet_of bs
  pub short : Short r
