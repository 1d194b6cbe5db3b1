-- The constraints that three loops have done, over the places, over b and over a, step by step; their number n s (s + 1) / 2; and the number of coefficients
-- below the bounds on the weighted degree, which is larger where a setting is accepted.
use mathlib.Core.Path.{◌≡◌, refl, ap}
use mathlib.Core.Logic.{inl, inr}
use Prim.Native.Nat.{ℕ, zero, suc, ◌+◌, ◌-◌, ◌*◌, ◌≤◌, ◌<◌}
use native.Mathlib.Decide.{ℕ_discrete}
use native.Mathlib.Omega.{arith}
use Rattle.algebra.specs.Sums.{total}
use Rattle.decoding.specs.Koetter.{Closed, Next, Add, Triangle, Upto, steps}

pub upto_none : (s i a b : ℕ) → Upto s 0 0 0 i a b → ⊥
upto_none s i a b (h, inl k) = let u : i < 0 = k in omega arith
upto_none s i a b (h, inr (e, inl k)) = let u : b < 0 = k in omega arith
upto_none s i a b (h, inr (e, inr (f, k))) = let u : a < 0 = k in omega arith

module _ (s i b : ℕ) where
  pub upto_closed : (a : ℕ) → Closed (Upto s i b a)
  upto_closed a i' a' b' (h, inl k) = (omega arith, inl k)
  upto_closed a i' a' b' (h, inr (e, inl k)) = (omega arith, inr (e, inl k))
  upto_closed a i' a' b' (h, inr (e, inr (f, k))) = (omega arith, inr (e, inr (f, omega arith)))

  pub upto_next : (a : ℕ) → a + b < s → Next (Upto s i b a) i a b
  upto_next a h a' e = (omega arith, inr (refl, inr (refl, omega arith)))

  -- one turn of the inner loop
  pub upto_more : (a i' a' b' : ℕ) → Upto s i b (suc a) i' a' b' → Add (Upto s i b a) i a b i' a' b'
  upto_more a i' a' b' (h, inl k) = inl (h, inl k)
  upto_more a i' a' b' (h, inr (e, inl k)) = inl (h, inr (e, inl k))
  upto_more a i' a' b' (h, inr (e, inr (f, k))) = go (ℕ_discrete a' a)
    where
      go : Dec (a' ≡ a) → Add (Upto s i b a) i a b i' a' b'
      go (yes q) = inr (e, q, f)
      go (no q) = inl (h, inr (e, inr (f, omega arith)))

  -- its end
  pub upto_row : (i' a' b' : ℕ) → Upto s i (suc b) 0 i' a' b' → Upto s i b (s - b) i' a' b'
  upto_row i' a' b' (h, inl k) = (h, inl k)
  upto_row i' a' b' (h, inr (e, inr (f, k))) = absurd (let u : a' < 0 = k in omega arith)
  upto_row i' a' b' (h, inr (e, inl k)) = go (ℕ_discrete b' b)
    where
      go : Dec (b' ≡ b) → Upto s i b (s - b) i' a' b'
      go (yes q) = (h, inr (e, inr (q, omega arith)))
      go (no q) = (h, inr (e, inl (omega arith)))

-- the end of the loop over b
pub upto_place : (s i i' a' b' : ℕ) → Upto s (suc i) 0 0 i' a' b' → Upto s i s 0 i' a' b'
upto_place s i i' a' b' (h, inr (e, inl k)) = absurd (let u : b' < 0 = k in omega arith)
upto_place s i i' a' b' (h, inr (e, inr (f, k))) = absurd (let u : a' < 0 = k in omega arith)
upto_place s i i' a' b' (h, inl k) = go (ℕ_discrete i' i)
  where
    go : Dec (i' ≡ i) → Upto s i s 0 i' a' b'
    go (yes q) = (h, inr (q, inl (omega arith)))
    go (no q) = (h, inl (omega arith))

-- the end of all
pub upto_all : (n s i a b : ℕ) → Triangle n s i a b → Upto s n 0 0 i a b
upto_all n s i a b (k, h) = (h, inl k)

-- the number of steps goes along
pub steps_row : (s i b : ℕ) → steps s i b (s - b) ≡ steps s i (suc b) 0
unfolding total
steps_row s i b = omega arith

pub steps_place : (s i : ℕ) → steps s i s 0 ≡ steps s (suc i) 0 0
unfolding total
steps_place s i = omega arith

triangle : (s b : ℕ) → b ≤ s → 2 * total b (λ b'. s - b') + b * b ≡ 2 * b * s + b
unfolding total
triangle s zero l = omega arith
triangle s (suc b) l = let u : 2 * total b (λ b'. s - b') + b * b ≡ 2 * b * s + b = triangle s b (omega arith) in omega arith

-- n s (s + 1) / 2 constraints in all
pub steps_all : (n s : ℕ) → 2 * steps s n 0 0 ≡ n * (s * suc s)
unfolding total
steps_all n s =
    let u : 2 * total s (λ b'. s - b') + s * s ≡ 2 * s * s + s = triangle s s (omega arith) in
    let v : n * (2 * total s (λ b'. s - b') + s * s) ≡ n * (2 * s * s + s) = ap (λ (z : ℕ). n * z) u in
    omega arith

module _ (ℓ w₁ w₂ B : ℕ) where
  weights : (k : ℕ) → k ≤ suc ℓ
      → 2 * total k (λ t. t * w₂ + (ℓ - t) * w₁) + k * k * w₁ + k * w₂ ≡ k * k * w₂ + 2 * k * ℓ * w₁ + k * w₁
  unfolding total
  weights zero l = omega arith
  weights (suc k) l =
      let u : 2 * total k (λ t. t * w₂ + (ℓ - t) * w₁) + k * k * w₁ + k * w₂ ≡ k * k * w₂ + 2 * k * ℓ * w₁ + k * w₁ =
      weights k (omega arith) in
      let v : (ℓ - k + k) * w₁ ≡ ℓ * w₁ = ap (λ (z : ℕ). z * w₁) (omega arith) in
      omega arith

  covered : (W : ℕ → ℕ) (k : ℕ) → k * B ≤ total k (λ t. B - W t) + total k W
  unfolding total
  covered W zero = omega arith
  covered W (suc k) = let u : k * B ≤ total k (λ t. B - W t) + total k W = covered W k in omega arith

  -- the number of coefficients exceeds that of the constraints
  pub room : (n : ℕ) → 2 * n + ℓ * suc ℓ * (w₁ + w₂) < 2 * suc ℓ * B → n < total (suc ℓ) (λ t. B - (t * w₂ + (ℓ - t) * w₁))
  room n h =
      let u : 2 * total (suc ℓ) (λ t. t * w₂ + (ℓ - t) * w₁) + suc ℓ * suc ℓ * w₁ + suc ℓ * w₂ ≡ suc ℓ * suc ℓ * w₂ + 2 * suc ℓ * ℓ * w₁ + suc ℓ * w₁ =
      weights (suc ℓ) (omega arith) in
      let v : suc ℓ * B ≤ total (suc ℓ) (λ t. B - (t * w₂ + (ℓ - t) * w₁)) + total (suc ℓ) (λ t. t * w₂ + (ℓ - t) * w₁) =
      covered (λ t. t * w₂ + (ℓ - t) * w₁) (suc ℓ) in
      omega arith
