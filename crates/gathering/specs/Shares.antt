-- The shares that a source tells, for a code of n places over a field of q elements: what refuses them, each check over all places before the next, and
-- the numbers that are gathered.
use Rattle.std.specs.Prelude.{◌≡◌, ℕ, not, List, map, length, take, is_some, Some, None, Option, ◌==◌, nat_le, slice_index, slice_index_or}
use Rattle.faults.specs.declared.ListingFault.{ListingFault}
use Rattle.faults.specs.declared.ListingFault.TheVariants.{SourceCount, EmptyPlace, NotAnElement}
use Rattle.codes.specs.First.{or_else, when, first_of}
use Rattle.fields.specs.Numbers.{AllBelow}

-- the number of a place, 0 for an empty one
abbrev pub number : Option ℕ → ℕ
number None = 0
number (Some v) = v

abbrev pub numbers : List (Option ℕ) → List ℕ
numbers told = map number told

-- 9: the source has another count of places
abbrev pub count_fault : ℕ → List (Option ℕ) → Option ListingFault
count_fault n told = when (not (length told == n)) (SourceCount (length told))

-- 24: the first empty place
abbrev pub empty_fault : List (Option ℕ) → Option ListingFault
empty_fault told = first_of (λ i. when (not (is_some (slice_index_or told i None))) (EmptyPlace i)) 0 (length told)

-- 8: the first number that is no element
abbrev pub element_fault : ℕ → List ℕ → Option ListingFault
element_fault q xs = first_of (λ i. when (nat_le q (slice_index xs i)) (NotAnElement i (slice_index xs i))) 0 (length xs)

-- the first that applies
abbrev pub gathering_fault : ℕ → ℕ → List (Option ℕ) → Option ListingFault
gathering_fault q n told = or_else (count_fault n told) (or_else (empty_fault told) (element_fault q (numbers told)))

-- the shares stand at the front of the array
pub record Gathered (q n : ℕ) (told : List (Option ℕ)) (at : List ℕ) : Type 0 where
  pub size : length at ≡ 32
  pub count : length told ≡ n
  pub shares : take n at ≡ numbers told
  pub below : AllBelow q (take n at)
