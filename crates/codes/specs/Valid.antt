-- A valid code over a field of q elements: n places, each with a point and a multiplier, and the threshold k. The points and multipliers are the first n
-- numbers of two lists.
use Rattle.std.specs.Prelude.{ℕ, ◌<◌, ◌≤◌, List, ◌≢◌, slice_index}

-- from 2 to 32 places, and fewer than there are elements
abbrev pub Places : ℕ → ℕ → Type 0
Places q n = (2 ≤ n) × (n ≤ 32) × (n < q)

abbrev pub Dimension : ℕ → ℕ → Type 0
Dimension n k = (1 ≤ k) × (k < n)

-- the first n numbers are elements other than 0
abbrev pub NonZero : ℕ → ℕ → List ℕ → Type 0
NonZero q n xs = (i : ℕ) → i < n → (0 < slice_index xs i) × (slice_index xs i < q)

-- no two of the first n numbers are equal
abbrev pub Distinct : ℕ → List ℕ → Type 0
Distinct n xs = (i j : ℕ) → i < j → j < n → slice_index xs i ≢ slice_index xs j

pub record Valid (q n : ℕ) (points multipliers : List ℕ) (k : ℕ) : Type 0 where
  pub places : Places q n
  pub dimension : Dimension n k
  pub points_non_zero : NonZero q n points
  pub points_distinct : Distinct n points
  pub multipliers_non_zero : NonZero q n multipliers
