-- The bytes of a sheet for an open book, and what refuses writing it, 20 and then 10.
use Rattle.std.specs.Prelude.{ℕ, zero, suc, ◌+◌, ◌*◌, ◌/◌, ◌%◌, List, [], ◌∷◌, ◌++◌, length, Some, None, Option, nat_lt, slice_index, slice_index_or}
use Rattle.faults.specs.declared.CollectionFault.TheVariants.{Blank}
use Rattle.faults.specs.declared.ListingFault.{ListingFault}
use Rattle.faults.specs.declared.ListingFault.TheVariants.{Collection, ResultArea}
use Rattle.codes.specs.First.{when}
use Rattle.codes.specs.Opening.{Given}
use Rattle.collections.specs.Book.{Book, unopened, opened}
use Rattle.collections.specs.Standing.{shares}

-- two bytes, big-endian
abbrev pub pair : ℕ → List ℕ
pair v = (v / 256 % 256) ∷ (v % 256) ∷ []

-- 0xFFFF for an empty place
abbrev pub as_number : Option ℕ → ℕ
as_number None = 65535
as_number (Some v) = v

abbrev pub header_bytes : ℕ → Given → List ℕ
header_bytes tag g =
    let n = length g.points in
    1 ∷ (pair (6 + 6 * n) ++ (tag ∷ n ∷ g.threshold ∷ g.setting.radius ∷ g.setting.multiplicity ∷ g.setting.list_limit ∷ []))

-- the point, the multiplier and the share of place p
abbrev pub entry_bytes : Given → List (Option ℕ) → ℕ → List ℕ
entry_bytes g xs p = pair (slice_index g.points p) ++ (pair (slice_index g.multipliers p) ++ pair (as_number (slice_index_or xs p None)))

-- the first n entries
abbrev pub entries_bytes : Given → List (Option ℕ) → ℕ → List ℕ
entries_bytes g xs zero = []
entries_bytes g xs (suc n) = entries_bytes g xs n ++ entry_bytes g xs n

abbrev pub sheet_bytes : ℕ → Given → List (Option ℕ) → List ℕ
sheet_bytes tag g xs = header_bytes tag g ++ entries_bytes g xs (length g.points)

-- the sheet of a book, over the field with the sheet number tag
abbrev pub bytes_of : ℕ → Book → List ℕ
bytes_of tag unopened = []
bytes_of tag (opened g ps) = sheet_bytes tag g (shares (opened g ps))

-- into an area of m bytes
abbrev pub write_fault : Book → ℕ → Option ListingFault
write_fault unopened m = Some (Collection Blank)
write_fault (opened g ps) m = when (nat_lt m (9 + 6 * length g.points)) (ResultArea m)
