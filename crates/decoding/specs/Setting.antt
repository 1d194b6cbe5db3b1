-- The settings (τ, s, ℓ) that a list decoder takes, for a code of n places with the threshold k: the radius τ, the multiplicity s of the interpolant's roots,
-- and its degree ℓ in y and z, which is the longest that a list can be.
use Rattle.std.specs.Prelude.{◌⊎◌, ℕ, suc, ◌+◌, ◌-◌, ◌*◌, ◌≤◌, ◌<◌}

-- the minimum distance of the code
abbrev pub minimum_distance : ℕ → ℕ → ℕ
minimum_distance n k = n - k + 1

-- within half the distance, or past it with room for an interpolant: more coefficients than constraints
abbrev pub Reach : ℕ → ℕ → ℕ → ℕ → ℕ → Type 0
Reach n d τ s ℓ =
    (2 * τ < d) ⊎ ((d ≤ 2 * τ) × (n * (s * suc s) + ℓ * suc ℓ * (2 * τ - d) < 2 * suc ℓ * (s * τ)))

-- what is asked of a code's counts and a setting; the proofs use neither that ℓ is at most 8 nor the bound on the number n s (s + 1) / 2 of
-- constraints, which are what a program can work off in its areas
pub record Accepted (n k τ s ℓ : ℕ) : Type 0 where
  -- the threshold is from 1 to n - 1
  pub some : 1 ≤ k
  pub fewer : k < n
  -- the multiplicity is from 1 to ℓ
  pub multiplicity : 1 ≤ s
  pub order : s ≤ ℓ
  pub short : ℓ ≤ 8
  pub work : n * (s * suc s) ≤ 800
  pub reach : Reach n (minimum_distance n k) τ s ℓ
