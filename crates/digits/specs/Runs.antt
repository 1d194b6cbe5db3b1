-- Runs of numbers in one slice, read as the coefficients of a polynomial in y over the polynomials in x, in this order: a run, all runs as
-- polynomials, a single digit as a polynomial, and when a slice holds such an array.
use Rattle.std.specs.Prelude.{◌≡◌, ℕ, zero, suc, ◌+◌, ◌-◌, ◌*◌, ◌≤◌, List, length, take, drop}
use Rattle.algebra.specs.Ring.{Ring}
use Rattle.algebra.specs.Poly.{conv, const, mono, Below}
use Rattle.fields.specs.Numbers.{Numbers, AllBelow, Element, ring_of}
use Rattle.polynomials.specs.Series.{poly}
use Rattle.digits.specs.declared.Shape.{Shape}

-- the run b of the slice, of w numbers
abbrev pub run : ℕ → ℕ → List ℕ → List ℕ
run w zero xs = take w xs
run w (suc b) xs = run w b (drop w xs)

-- the runs as polynomials
abbrev pub runs : (F : Numbers) → ℕ → List ℕ → ℕ → ℕ → Element F
runs F w xs b = poly F (run w b xs)

-- e x ^ t
abbrev pub term : (R : Ring) → R.El → ℕ → ℕ → R.El
term R e t = conv R (const R e) (mono R t)

-- T b has the coefficients below m - b n alone
abbrev pub Fits : (R : Ring) → ℕ → ℕ → (ℕ → ℕ → R.El) → Type 0
Fits R m n T = (b : ℕ) → Below R (m - b * n) (T b)

-- the slice is an array of this shape
pub record Held (F : Numbers) (s : Shape) (xs : List ℕ) : Type 0 where
  pub all : AllBelow F.q xs
  pub long : length xs ≡ (s.degree + 1) * s.width
  pub room : s.size ≤ s.width
  pub deep : s.degree * s.depth ≤ s.size
  pub fits : Fits (ring_of F) s.size s.depth (runs F s.width xs)
