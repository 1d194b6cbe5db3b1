-- The interpolant of the decoder: when there is one, by counting, and that it vanishes at every pair through enough of its points.
use mathlib.Core.Path.{◌≡◌, sym, subst}
use mathlib.Core.Logic.{◌≢◌}
use Prim.Native.Nat.{ℕ, suc, ◌+◌, ◌-◌, ◌*◌, ◌≤◌, ◌<◌}
use native.Mathlib.Omega.{arith}
use Rattle.algebra.specs.Ring.{Ring}
use Rattle.algebra.specs.Field.{Field}
use Rattle.algebra.specs.Sums.{total}
use Rattle.algebra.specs.Poly.{pzero, ev, Below}
use Rattle.algebra.specs.PolyRing.{Poly}
use Rattle.algebra.specs.Taylor.{form}
use Rattle.decoding.specs.Multiplicity.{Slope, Multiplicity, slope}
use Rattle.decoding.specs.Koetter.{Interpolant, homogeneous, Triangle, steps}
use Rattle.decoding.proofs.Vanish.{root_of_pair}
use Rattle.decoding.proofs.Count.{steps_all, room}
use Rattle.decoding.proofs.Exists.{exists}

module _ (𝓕 : Field) where
  infixl 70 ◌⊗◌
  abbrev R : Ring
  R = 𝓕.ring

  open 𝓕.ring use {El, 𝟘, ◌⊗◌}

  -- A Q with roots of multiplicity s at n points, by the counts alone
  pub interpolant_exists : (ℓ s n w₁ w₂ B : ℕ) (α : ℕ → El) (σ : ℕ → Slope El)
      → n * (s * suc s) + ℓ * suc ℓ * (w₁ + w₂) < 2 * suc ℓ * B
      → (Q : ℕ → ℕ → El) × Interpolant 𝓕 (homogeneous R ℓ w₁ w₂ B α σ) (Triangle n s) Q
  interpolant_exists ℓ s n w₁ w₂ B α σ h =
      exists 𝓕 (homogeneous R ℓ w₁ w₂ B α σ) s n
      (room ℓ w₁ w₂ B (steps s n 0 0) (let u : 2 * steps s n 0 0 ≡ n * (s * suc s) = steps_all n s in omega arith))

  -- It vanishes at every pair that goes through ε = Σ χ i of the points, ε ≤ τ, and falls short of the weights by τ - ε
  pub interpolant_root : (ℓ s n τ w₁ w₂ : ℕ) (χ : ℕ → ℕ) (α y z : ℕ → El) (Q : ℕ → ℕ → El) (f₁ f₂ : ℕ → El)
      → Interpolant 𝓕 (homogeneous R ℓ w₁ w₂ (s * τ) α (λ i. slope 𝓕 (y i) (z i))) (Triangle n s) Q
      → s ≤ ℓ → total n χ ≤ τ
      → ((i j : ℕ) → i < j → j < n → α i ≢ α j)
      → ((i : ℕ) → i < n → z i ≡ 𝟘 → y i ≢ 𝟘)
      → Below R (suc w₁ - (τ - total n χ)) f₁ → Below R (suc w₂ - (τ - total n χ)) f₂
      → ((i : ℕ) → i < n → χ i ≤ 1)
      → ((i : ℕ) → i < n → χ i ≡ 1 → ev R (λ x. x) (α i) (suc w₁) f₁ ⊗ y i ≡ ev R (λ x. x) (α i) (suc w₂) f₂ ⊗ z i)
      → form (Poly R) ℓ Q f₂ f₁ ≡ pzero R
  interpolant_root ℓ s n τ w₁ w₂ χ α y z Q f₁ f₂ q le few apart point h₁ h₂ most meet =
      root_of_pair 𝓕 ℓ s n (τ - total n χ) w₁ w₂ χ α y z Q f₁ f₂ le apart point
      (λ t m l u. q.degrees t m l (subst (λ (x : ℕ). s * x ≤ m + (t * w₂ + (ℓ - t) * w₁)) τ_is u)) h₁ h₂
      (λ i l. subst (λ (x : ℕ). Multiplicity R s ℓ (s * x) (α i) (slope 𝓕 (y i) (z i)) Q) (sym τ_is) (λ a b k. q.holds i a b (l, k)))
      most meet
    where
      τ_is : total n χ + (τ - total n χ) ≡ τ
      τ_is = omega arith
