-- What an accepted setting gives: the radius is below the minimum distance, so that k places are left; past half the distance the multiplicity is below ℓ,
-- and there are more coefficients than constraints.
use mathlib.Core.Path.{◌≡◌, ap}
use mathlib.Core.Logic.{inl, inr}
use Prim.Native.Nat.{ℕ, suc, ◌+◌, ◌-◌, ◌*◌, ◌≤◌, ◌<◌}
use native.Mathlib.Nat.{mul-le-mul_left}
use native.Mathlib.Decide.{dec_lt}
use native.Mathlib.Omega.{arith}
use Rattle.algebra.specs.Sums.{total}
use Rattle.decoding.specs.Setting.{minimum_distance, Reach, Accepted}
use Rattle.decoding.proofs.Count.{room}

-- the inequality of the second line fails for τ = d + δ, n = d + m, ℓ = s + t
too_far : (s t d δ m : ℕ)
    → (d + m) * (s * suc s) + (s + t) * suc (s + t) * (d + 2 * δ) < 2 * suc (s + t) * (s * (d + δ)) → ⊥
too_far s t d δ m h = omega arith

-- and for ℓ = s
too_flat : (s n d x τ : ℕ) → d ≤ n → 2 * τ ≡ d + x → n * (s * suc s) + s * suc s * x < 2 * suc s * (s * τ) → ⊥
too_flat s n d x τ l e h =
    let u : suc s * s * (2 * τ) ≡ suc s * s * (d + x) = ap (λ (z : ℕ). suc s * s * z) e in
    let v : s * suc s * d ≤ s * suc s * n = mul-le-mul_left (s * suc s) l in
    omega arith

module _ {n k τ s ℓ : ℕ} (A : Accepted n k τ s ℓ) where
  within : (d : ℕ) → d ≤ n → Reach n d τ s ℓ → τ < d
  within d l (inl h) = omega arith
  within d l (inr (g, h)) = elim (dec_lt τ d) [ yes u ↦ u | no u ↦ absurd (far (ℓ - s) (τ - d) (n - d) (omega arith) (omega arith) (omega arith)) ]
    where
      order : s ≤ ℓ
      order = A.order

      far : (t δ m : ℕ) → ℓ ≡ s + t → τ ≡ d + δ → n ≡ d + m → ⊥
      far t δ m e₁ e₂ e₃ =
          let twice : 2 * τ - d ≡ d + 2 * δ = omega arith in
          too_far s t d δ m (rw (← e₁, ← e₂, ← e₃, ← twice) h)

  -- fewer errors than the minimum distance: what is left of the places fixes the message
  pub below_distance : τ < minimum_distance n k
  below_distance = within (minimum_distance n k) (let u : 1 ≤ k = A.some in let v : k < n = A.fewer in omega arith) A.reach

  pub enough_left : k ≤ n - τ
  enough_left = let u : τ < minimum_distance n k = below_distance in let v : k < n = A.fewer in omega arith

  -- past half the distance
  module _ (past : minimum_distance n k ≤ 2 * τ) where
    pub inequality : n * (s * suc s) + ℓ * suc ℓ * (2 * τ - minimum_distance n k) < 2 * suc ℓ * (s * τ)
    inequality = go A.reach
      where
        go : Reach n (minimum_distance n k) τ s ℓ
            → n * (s * suc s) + ℓ * suc ℓ * (2 * τ - minimum_distance n k) < 2 * suc ℓ * (s * τ)
        go (inl h) = absurd (omega arith)
        go (inr t) = t.1

    pub multiplicity_below : s < ℓ
    multiplicity_below = elim (dec_lt s ℓ) [ yes u ↦ u | no u ↦ absurd (flat (let v : s ≤ ℓ = A.order in omega arith)) ]
      where
        flat : ℓ ≡ s → ⊥
        flat e =
            too_flat s n (minimum_distance n k) (2 * τ - minimum_distance n k) τ
            (let u : 1 ≤ k = A.some in let v : k < n = A.fewer in omega arith) (omega arith) (rw e at inequality)

  -- the weights of an interpolant, and what it needs: more coefficients than constraints
  pub weighted : (w₁ w₂ : ℕ) → w₁ + w₂ + minimum_distance n k ≡ 2 * τ → n * (s * suc s) + ℓ * suc ℓ * (w₁ + w₂) < 2 * suc ℓ * (s * τ)
  weighted w₁ w₂ e =
      let u : 2 * τ - minimum_distance n k ≡ w₁ + w₂ = omega arith in
      rw (← u) (inequality (omega arith))

  pub counting : (E w₁ w₂ : ℕ) → w₁ + w₂ + minimum_distance n k ≡ 2 * τ → 2 * E ≡ n * (s * suc s)
      → E < total (suc ℓ) (λ j. s * τ - (j * w₂ + (ℓ - j) * w₁))
  counting E w₁ w₂ e c =
      room ℓ w₁ w₂ (s * τ) E (let u : n * (s * suc s) + ℓ * suc ℓ * (w₁ + w₂) < 2 * suc ℓ * (s * τ) = weighted w₁ w₂ e in omega arith)
