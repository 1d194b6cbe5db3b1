-- What it is for a homogeneous Q = Σ_{t ≤ ℓ} Q_t (x) y ^ t z ^ (ℓ - t) to have a root of multiplicity s at x = α, (y : z): the coefficients of its expansion
-- there, up to the order s, are zero. Each is a functional of Q, linear in its coefficients. Q t m is the coefficient of x ^ m in Q_t.
use Rattle.std.specs.Prelude.{◌≡◌, ℕ, suc, ◌+◌, ◌-◌, ◌<◌}
use Rattle.algebra.specs.Ring.{Ring}
use Rattle.algebra.specs.Field.{Field}
use Rattle.algebra.specs.Sums.{sum}
use Rattle.algebra.specs.Taylor.{tay, taylor}

-- a point (y : z) of the projective line, by the ratio y / z
pub data Slope (A : Type 0) : Type 0 where
  finite : A → Slope A
  infinite : Slope A

module _ (R : Ring) where
  infixl 60 ◌⊕◌
  infixl 70 ◌⊗◌
  open R use {El, 𝟘, 𝟙, ◌⊕◌, ◌⊗◌}

  -- of y ^ t z ^ (ℓ - t), the coefficient of u ^ b where u is the distance from the point: y = β z + u, or z = 0 y + u,
  -- and then it is 1 for t = ℓ - b and 0 for any other t
  unfoldable pub expansion : ℕ → Slope El → ℕ → ℕ → El
  expansion ℓ (finite β) b t = tay R β t b
  expansion ℓ infinite b t = tay R 𝟘 (ℓ - t) b

  -- Σ_{t ≤ ℓ} c_t · the coefficient of x ^ a in Q_t (x + α), for polynomials Q_t with n coefficients
  unfoldable pub functional : ℕ → ℕ → El → (ℕ → El) → ℕ → (ℕ → ℕ → El) → El
  functional ℓ n α c a Q = sum R (suc ℓ) (λ t. c t ⊗ taylor R n α (Q t) a)

  -- all coefficients of x ^ a u ^ b with a + b < s of the expansion at (α, σ) are zero
  abbrev pub Multiplicity : ℕ → ℕ → ℕ → El → Slope El → (ℕ → ℕ → El) → Type 0
  Multiplicity s ℓ n α σ Q = (a b : ℕ) → a + b < s → functional ℓ n α (expansion ℓ σ b) a Q ≡ 𝟘

  -- the values v₁, v₂ of a pair are in the ratio: v₂ / v₁ = y / z
  abbrev pub Through : Slope El → El → El → Type 0
  Through (finite β) v₁ v₂ = v₂ ≡ β ⊗ v₁
  Through infinite v₁ v₂ = v₁ ≡ 𝟘

-- the ratio y / z
abbrev pub slope : (𝓕 : Field) → 𝓕.ring.El → 𝓕.ring.El → Slope 𝓕.ring.El
slope 𝓕 y z = elim (𝓕.equal z 𝓕.ring.𝟘) [ yes _ ↦ infinite | no _ ↦ finite (𝓕.ring.◌⊗◌ y (𝓕.inv z)) ]
