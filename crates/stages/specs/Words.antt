-- The distance of two words, as lists of numbers.
use Rattle.std.specs.Prelude.{ℕ, not, List, ◌==◌, slice_index}
use Rattle.algebra.specs.Sums.{count}

-- the number of the first n places where they differ
abbrev pub distance : ℕ → List ℕ → List ℕ → ℕ
distance n r c = count n (λ j. not (slice_index r j == slice_index c j))
