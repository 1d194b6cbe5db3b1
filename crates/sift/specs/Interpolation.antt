-- Interpolation: what it means that a list of numbers holds the polynomial with given values at given points.
use Rattle.std.specs.Prelude.{◌≡◌, ℕ, ◌<◌, ◌≢◌, List, length, slice_index}
use Rattle.algebra.specs.Poly.{Below}
use Rattle.fields.specs.Numbers.{Numbers, AllBelow, Element, elem, ring_of}
use Rattle.polynomials.specs.Series.{poly, value}

-- no number stands twice in the list
abbrev pub Distinct : List ℕ → Type 0
Distinct xs = (i j : ℕ) → i < j → j < length xs → slice_index xs i ≢ slice_index xs j

-- p has at each of the points αs the value that ys has there
abbrev pub Takes : (F : Numbers) → List ℕ → List ℕ → (ℕ → Element F) → Type 0
Takes F αs ys p = (i : ℕ) → i < length αs → value F (length αs) p (slice_index αs i) ≡ elem F (slice_index ys i)

-- the numbers of out are the polynomial of a degree below the count of points that has the values ys there: no other has them
pub record Interpolates (F : Numbers) (αs ys out : List ℕ) : Type 0 where
  pub all : AllBelow F.q out
  pub short : Below (ring_of F) (length αs) (poly F out)
  pub takes : Takes F αs ys (poly F out)
  pub only : (p : ℕ → Element F) → Below (ring_of F) (length αs) p → Takes F αs ys p → p ≡ poly F out
