-- Rational roots: pairs (f₁, f₂) of polynomials at which a homogeneous Q = Σ_{t ≤ ℓ} Q_t (x) y ^ t z ^ (ℓ - t) vanishes, at y = f₂, z = f₁.
-- A pair stands for the rational function f₂ / f₁, so that its two polynomials are coprime, and it is normalised to be one of its multiples.
use Rattle.std.specs.Prelude.{◌≡◌, ℕ, suc}
use Rattle.algebra.specs.Ring.{Ring}
use Rattle.algebra.specs.Poly.{pzero, Below}
use Rattle.algebra.specs.PolyRing.{Poly}
use Rattle.algebra.specs.Taylor.{form}
use Rattle.algebra.specs.Coprime.{Coprime, Normal}

-- (f₁, f₂) is a coprime root of Q, of the degrees w₁, w₂ at most
pub record Plain (R : Ring) (ℓ w₁ w₂ : ℕ) (Q : ℕ → ℕ → R.El) (f₁ f₂ : ℕ → R.El) : Type 0 where
  pub f₁_below : Below R (suc w₁) f₁
  pub f₂_below : Below R (suc w₂) f₂
  pub coprime : Coprime R f₁ f₂
  pub vanishes : form (Poly R) ℓ Q f₂ f₁ ≡ pzero R

-- and it is normalised
pub record Root (R : Ring) (ℓ w₁ w₂ : ℕ) (Q : ℕ → ℕ → R.El) (f₁ f₂ : ℕ → R.El) : Type 0 where
  pub f₁_below : Below R (suc w₁) f₁
  pub f₂_below : Below R (suc w₂) f₂
  pub coprime : Coprime R f₁ f₂
  pub normal : Normal R f₁ f₂
  pub vanishes : form (Poly R) ℓ Q f₂ f₁ ≡ pzero R
