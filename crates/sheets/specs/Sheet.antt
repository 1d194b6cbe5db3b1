-- The share sheet. Byte 0 is the version, 1. Bytes 1 and 2 are the number of bytes after byte 2, 6 + 6n. Bytes 3 to 8 are the field number, n, k, τ, s, ℓ. Then
-- each place has its point, its multiplier and its share. Numbers of two bytes are big-endian.
-- In order: the parts of a sheet, which check refuses it first, what it gives to opening, and what it tells of its places.
use Rattle.std.specs.Prelude.{ℕ, ◌+◌, ◌*◌, not, ◌||◌, List, map, length, drop, Option, ◌==◌, nat_lt, slice_index}
use Rattle.std.specs.List.{range_with_len}
use Rattle.faults.specs.declared.SheetFault.{SheetFault}
use Rattle.faults.specs.declared.SheetFault.TheVariants.{Version, Length, OtherField}
use Rattle.codes.specs.declared.Setting.{Setting}
use Rattle.codes.specs.First.{or_else, when}
use Rattle.codes.specs.Opening.{Given}

-- bytes 3 to 8, field number, n, k and the setting, and then six bytes for each place
pub record Sheet : Type 0 where
  pub field : ℕ
  pub count : ℕ
  pub threshold : ℕ
  pub setting : Setting
  pub entries : List ℕ

abbrev pub sheet_of : List ℕ → Sheet
sheet_of bs = record {
  field = slice_index bs 3;
  count = slice_index bs 4;
  threshold = slice_index bs 5;
  setting = record { radius = slice_index bs 6; multiplicity = slice_index bs 7; list_limit = slice_index bs 8 };
  entries = drop 9 bs;
}

-- two bytes, big-endian
abbrev pub two : ℕ → ℕ → ℕ
two high low = 256 * high + low

-- 13: fewer than nine bytes, or version not 1
abbrev pub version_fault : List ℕ → Option SheetFault
version_fault bs = when (nat_lt (length bs) 9 || not (slice_index bs 0 == 1)) Version

-- 14: bytes 1 and 2 are not 6 + 6n, or the bytes given are not 9 + 6n
abbrev pub length_fault : List ℕ → Option SheetFault
length_fault bs =
    let n = slice_index bs 4 in
    when (not (two (slice_index bs 1) (slice_index bs 2) == 6 + 6 * n) || not (length bs == 9 + 6 * n)) Length

abbrev pub header_fault : List ℕ → Option SheetFault
header_fault bs = or_else (version_fault bs) (length_fault bs)

-- 15: another field number than the field's own
abbrev pub field_fault : ℕ → Sheet → Option SheetFault
field_fault tag s = when (not (s.field == tag)) (OtherField s.field)

-- the number of the entry of place p that begins at its byte 0, 2 or 4: the point, the multiplier, the share
abbrev pub number : List ℕ → ℕ → ℕ → ℕ
number es part p = two (slice_index es (6 * p + part)) (slice_index es (6 * p + part + 1))

abbrev pub column : List ℕ → ℕ → ℕ → List ℕ
column es part n = map (number es part) (range_with_len 0 n)

-- what opening is given
abbrev pub given_in : Sheet → Given
given_in s = record {
  points = column s.entries 0 s.count;
  multipliers = column s.entries 2 s.count;
  threshold = s.threshold;
  setting = s.setting;
}

-- 0xFFFF means empty
abbrev pub share_in : ℕ → Option ℕ
share_in v = when (not (v == 65535)) v

abbrev pub shares_in : Sheet → List (Option ℕ)
shares_in s = map (λ p. share_in (number s.entries 4 p)) (range_with_len 0 s.count)
