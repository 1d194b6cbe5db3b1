-- The roots of a polynomial among given points, by its values there: the values, how many of them are zero, and when a polynomial has as
-- many roots among the points as its degree.
use Rattle.std.specs.Prelude.{◌≡◌, ℕ, suc, ◌<◌, Bool, List, length, ◌==◌, slice_index}
use Rattle.algebra.specs.Poly.{Degree}
use Rattle.algebra.specs.Sums.{count}
use Rattle.decoding.specs.Sift.{zeros}
use Rattle.fields.specs.Numbers.{Numbers, AllBelow, Element, elem, ring_of, field_of}
use Rattle.polynomials.specs.Series.{poly, value}

-- the places where the list has 0
abbrev pub vanishes : List ℕ → ℕ → Bool
vanishes xs j = slice_index xs j == 0

-- the numbers of out are the values of p at the points αs
pub record Values (F : Numbers) (p αs out : List ℕ) : Type 0 where
  pub all : AllBelow F.q out
  pub is : (j : ℕ) → j < length αs → elem F (slice_index out j) ≡ value F (length p) (poly F p) (slice_index αs j)

-- p has a degree, and as many roots among the points αs
pub record Splits (F : Numbers) (αs : List ℕ) (p : ℕ → Element F) : Type 0 where
  pub size : ℕ
  pub degree : Degree (ring_of F) size p
  pub split : count (length αs) (zeros (field_of F) (poly F αs) (suc size) p) ≡ size
