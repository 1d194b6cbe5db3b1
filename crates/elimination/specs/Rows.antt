-- What is done to rows of numbers: a row is a run of the given size, and itself has runs of B numbers.
-- In the order of a step: the values of the rows, the sweep, the product of the pivot with x - α, its return to its place, and all of them.
use Rattle.std.specs.Prelude.{◌≡◌, ℕ, suc, ◌+◌, ◌*◌, ◌<◌, ◌≤◌, ◌≢◌, List, length, slice_index, slice_set}
use Rattle.algebra.specs.Poly.{conv, lin}
use Rattle.fields.specs.Numbers.{Numbers, AllBelow, Element, elem, plus, minus, times, over, ring_of}
use Rattle.polynomials.specs.Series.{poly, plus_multiple}
use Rattle.functionals.specs.Runs.{run, family}
use Rattle.functionals.specs.Tables.{Discrepancy}

-- the values of the rows in use
pub record Measured (F : Numbers) (size : ℕ) (rows ranks xs cs values : List ℕ) : Type 0 where
  pub below : AllBelow F.q values
  pub is : (j : ℕ) → j < length values → slice_index ranks j < length xs → Discrepancy F (run size rows j) xs cs (slice_index values j)

-- the ratio of two values
abbrev pub ratio : (F : Numbers) → List ℕ → ℕ → ℕ → Element F
ratio F values p j = times F (elem F (slice_index values j)) (over F (elem F (slice_index values p)))

-- row - ratio pivot for each row but p
pub record Swept (F : Numbers) (size : ℕ) (rows pivot values : List ℕ) (p : ℕ) (after : List ℕ) : Type 0 where
  pub below : AllBelow F.q after
  pub others : (j : ℕ) → j < length values → j ≢ p
      → poly F (run size after j) ≡ plus_multiple F (poly F (run size rows j)) (F.neg (F.mul (slice_index values j) (F.inv (slice_index values p)))) (poly F pivot)
  pub same : poly F (run size after p) ≡ poly F (run size rows p)

-- (x - α) row, as far as there is room
pub record Advanced (F : Numbers) (B α : ℕ) (row after : List ℕ) : Type 0 where
  pub below : AllBelow F.q after
  pub is : (t m : ℕ) → t * B + B ≤ length row → m < B
      → family F B after t m ≡ conv (ring_of F) (lin (ring_of F) (elem F α)) (family F B row t) m

-- the pivot in the place of the row p
pub record Stored (F : Numbers) (rows pivot : List ℕ) (p : ℕ) (after : List ℕ) : Type 0 where
  pub below : AllBelow F.q after
  pub here : poly F (run (length pivot) after p) ≡ poly F pivot
  pub other : (j : ℕ) → j ≢ p → poly F (run (length pivot) after j) ≡ poly F (run (length pivot) rows j)

-- a step with the pivot p
pub record Pivoted (F : Numbers) (size B α : ℕ) (rows ranks values : List ℕ) (p : ℕ) (rows' ranks' : List ℕ) : Type 0 where
  pub below : AllBelow F.q rows'
  pub others : (j : ℕ) → j < length values → j ≢ p → (t m : ℕ)
      → family F B (run size rows' j) t m
      ≡ plus F (family F B (run size rows j) t m) (minus F (times F (ratio F values p j) (family F B (run size rows p) t m)))
  pub pivot : suc (slice_index ranks p) < B → (t m : ℕ) → t * B + B ≤ size → m < B
      → family F B (run size rows' p) t m ≡ conv (ring_of F) (lin (ring_of F) (elem F α)) (family F B (run size rows p) t) m
  pub raised : ranks' ≡ slice_set ranks p (slice_index ranks p + 1)
