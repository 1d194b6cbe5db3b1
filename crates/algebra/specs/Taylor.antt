-- The Taylor shift x ↦ x + a, the coefficients of (u + φ) ^ j by the recurrence of the binomials (never by derivatives, which divide by
-- numbers that are zero in a field of positive characteristic), and homogeneous forms Σ_t Q_t y ^ t z ^ (ℓ - t): by a sum, and by
-- Horner's rule.
use Rattle.std.specs.Prelude.{ℕ, zero, suc, ◌-◌}
use Rattle.algebra.specs.Ring.{Ring}
use Rattle.algebra.specs.Sums.{sum, pow}
use Rattle.algebra.specs.Poly.{tail, const, lin, ev}
use Rattle.algebra.specs.PolyRing.{Poly}

module _ (R : Ring) where
  infixl 60 ◌⊕◌
  infixl 70 ◌⊗◌
  open R use {El, 𝟘, 𝟙, ◌⊕◌, ⊖◌, ◌⊗◌}

  -- p (x + a), for a p with n coefficients
  abbrev pub shift : El → ℕ → (ℕ → El) → ℕ → El
  shift a n p = ev (Poly R) (const R) (lin R (⊖◌ a)) n p

  -- the coefficient of u ^ b in (u + φ) ^ j, that is binomial (j, b) φ ^ (j - b)
  unfoldable pub tay : El → ℕ → ℕ → El
  tay φ zero zero = 𝟙
  tay φ zero (suc b) = 𝟘
  tay φ (suc j) zero = φ ⊗ tay φ j zero
  tay φ (suc j) (suc b) = tay φ j b ⊕ φ ⊗ tay φ j (suc b)

  -- the coefficient of u ^ b in Σ_{t < n} Q_t (u + φ) ^ t
  unfoldable pub taylor : ℕ → El → (ℕ → El) → ℕ → El
  taylor n φ Q b = sum R n (λ t. tay φ t b ⊗ Q t)

  -- Σ_{t ≤ ℓ} Q_t y ^ t z ^ (ℓ - t)
  unfoldable pub form : ℕ → (ℕ → El) → El → El → El
  form ℓ Q y z = sum R (suc ℓ) (λ t. Q t ⊗ (pow R y t ⊗ pow R z (ℓ - t)))

  -- the same for ℓ = n - 1 by Horner's rule: Σ_{t < n} Q_t y ^ t z ^ (n - 1 - t)
  unfoldable pub hom : ℕ → (ℕ → El) → El → El → El
  hom zero Q y z = 𝟘
  hom (suc n) Q y z = Q zero ⊗ pow R z n ⊕ y ⊗ hom n (tail Q) y z
