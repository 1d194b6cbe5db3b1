-- Coprime polynomials, and when a pair of them is normalised. Coprime means that 1 is a combination of the two with polynomials as factors, each
-- of which has a bound; it says the same as that there is no common factor, and is what proofs use.
use Rattle.std.specs.Prelude.{◌≡◌, ◌⊎◌, ℕ}
use Rattle.algebra.specs.Ring.{Ring}
use Rattle.algebra.specs.Poly.{conv, padd, pzero, const, Bounded, Monic}

-- f and g are coprime: u f + v g = 1 for polynomials u and v (with series nearly all pairs would be coprime)
pub record Coprime (R : Ring) (f g : ℕ → R.El) : Type 0 where
  pub u : ℕ → R.El
  pub v : ℕ → R.El
  pub u_bounded : Bounded R u
  pub v_bounded : Bounded R v
  pub one : padd R (conv R u f) (conv R v g) ≡ const R R.𝟙

-- the second is monic, or it is zero and the first is 1: one pair of all that differ by a constant factor
abbrev pub Normal : (R : Ring) → (ℕ → R.El) → (ℕ → R.El) → Type 0
Normal R f₁ f₂ = Monic R f₂ ⊎ ((f₂ ≡ pzero R) × (f₁ ≡ const R R.𝟙))
