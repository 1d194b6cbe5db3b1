-- How a pair (f₁, f₂) is sifted: by the locator f₁ h₁ + f₂ h₂ that it stands for, with the second entries h₁, h₂ of two of Euclid's rows. A word passes
-- where this polynomial has as many roots among the points as its degree, and the word is a codeword within the radius that differs from the shares at
-- those roots only.
use Rattle.std.specs.Prelude.{◌≡◌, Bool, true, false, cond, ◌≢◌, ℕ, suc, ◌<◌}
use Rattle.algebra.specs.Ring.{Ring}
use Rattle.algebra.specs.Field.{Field}
use Rattle.algebra.specs.Sums.{count}
use Rattle.algebra.specs.Poly.{conv, padd, at, Degree}
use Rattle.decoding.specs.Code.{Code}
use Rattle.decoding.specs.Words.{Near}

-- the locator, but for a constant, that the pair (f₁, f₂) stands for
abbrev pub located : (R : Ring) → (ℕ → R.El) → (ℕ → R.El) → (ℕ → R.El) → (ℕ → R.El) → ℕ → R.El
located R h₁ h₂ f₁ f₂ = padd R (conv R f₁ h₁) (conv R f₂ h₂)

module _ (𝓕 : Field) where
  open 𝓕.ring use {El, 𝟘}

  -- the places whose points are roots of a polynomial with m coefficients
  unfoldable pub zeros : (ℕ → El) → ℕ → (ℕ → El) → ℕ → Bool
  zeros α m p j = elim (𝓕.equal (at 𝓕.ring (α j) m p) 𝟘) [ yes z ↦ true | no z ↦ false ]

  -- the other places
  abbrev pub off : (ℕ → El) → ℕ → (ℕ → El) → ℕ → Bool
  off α m p j = cond (zeros α m p j) false true

  -- The word c passes the sift by the polynomial w for the shares r:
  -- w has as many roots among the points as its degree, and c is a codeword within τ that is r off those roots
  pub record Passes (C : Code 𝓕) (k τ : ℕ) (r w c : ℕ → El) : Type 0 where
    pub size : ℕ
    pub degree : Degree 𝓕.ring size w
    pub split : count C.n (zeros C.α (suc size) w) ≡ size
    pub agrees : (j : ℕ) → j < C.n → at 𝓕.ring (C.α j) (suc size) w ≢ 𝟘 → c j ≡ r j
    pub near : Near 𝓕 C k τ r c
