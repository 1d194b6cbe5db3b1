-- The next digit of a series at which the form with the coefficients T_b vanishes, in this order: the coefficients of x ^ m in the layers
-- x ^ (t b) T_b, which digits are allowed, when a polynomial decides that, and a range of digits that has all roots of a polynomial.
use Rattle.std.specs.Prelude.{◌≡◌, ℕ, suc, ◌*◌, ◌<◌, ◌≤◌}
use Rattle.algebra.specs.Ring.{Ring}
use Rattle.algebra.specs.Poly.{up, at, Order}
use Rattle.fields.specs.Numbers.{Numbers, Element, elem, ring_of}

-- the coefficients of x ^ m in x ^ (t b) T_b
abbrev pub column : (R : Ring) → ℕ → ℕ → (ℕ → ℕ → R.El) → ℕ → R.El
column R t m T b = up R (b * t) (T b) m

-- e may be digit t: it is a root of Σ_b c_b Y ^ b for the coefficients c_b of x ^ m, at each m before which all of these are zero
abbrev pub Allowed : (R : Ring) → ℕ → ℕ → (ℕ → ℕ → R.El) → R.El → Type 0
Allowed R ℓ t T e =
    (m : ℕ) → ((b : ℕ) → b ≤ ℓ → Order R m (up R (b * t) (T b))) → at R e (suc ℓ) (column R t m T) ≡ R.𝟘

-- the allowed digits are the roots of p, which has n coefficients
pub record Decides (R : Ring) (ℓ t : ℕ) (T : ℕ → ℕ → R.El) (n : ℕ) (p : ℕ → R.El) : Type 0 where
  pub roots : (e : R.El) → Allowed R ℓ t T e → at R e n p ≡ R.𝟘
  pub allowed : (e : R.El) → at R e n p ≡ R.𝟘 → Allowed R ℓ t T e

-- every root of p, which has n coefficients, is one of the numbers from `from` up to `to`
pub record Among (F : Numbers) (n : ℕ) (p : ℕ → Element F) (from to : ℕ) : Type 0 where
  pub within : to ≤ F.q
  pub least : (e : ℕ) → e < F.q → at (ring_of F) (elem F e) n p ≡ (ring_of F).𝟘 → from ≤ e
  pub most : (e : ℕ) → e < F.q → at (ring_of F) (elem F e) n p ≡ (ring_of F).𝟘 → e < to
