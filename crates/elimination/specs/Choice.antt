-- The choice of a pivot, by the ranks of the rows (their weighted degrees) and by their values. A row is in use if its rank is below the bound.
use Rattle.std.specs.Prelude.{◌≡◌, ℕ, ◌<◌, ◌≤◌, ◌≢◌, ◌⊎◌, List, Option, MatchOption, slice_index}

-- of the first k rows those in use have the value 0
abbrev pub NoneFails : (ranks values : List ℕ) → (bound k : ℕ) → Type 0
NoneFails ranks values bound k = (j : ℕ) → j < k → slice_index ranks j < bound → slice_index values j ≡ 0

-- or p is, of those in use with another value, the first of the least rank
pub record LeastFails (ranks values : List ℕ) (bound k p : ℕ) : Type 0 where
  pub inside : p < k
  pub live : slice_index ranks p < bound
  pub fails : slice_index values p ≢ 0
  pub least : (j : ℕ) → j < k → slice_index ranks j < bound → slice_index values j ≢ 0 → slice_index ranks p ≤ slice_index ranks j
  pub tie : (j : ℕ) → j < k → slice_index ranks j < bound → slice_index values j ≢ 0 → slice_index ranks p ≡ slice_index ranks j → p ≤ j

-- the choice among the first k rows
abbrev pub Chosen : (ranks values : List ℕ) → (bound k : ℕ) → Option ℕ → Type 0
Chosen ranks values bound k r = MatchOption r (NoneFails ranks values bound k) (LeastFails ranks values bound k)

-- r is the better of p and j, where p is before j
abbrev pub Better : List ℕ → ℕ → ℕ → ℕ → Type 0
Better ranks j p r = ((r ≡ j) × (slice_index ranks j < slice_index ranks p)) ⊎ ((r ≡ p) × (slice_index ranks p ≤ slice_index ranks j))
