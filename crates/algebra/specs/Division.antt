-- Division of polynomials: by x - a in any ring (quot), and over a field by a polynomial g of the degree m (reduce, quotient, remainder);
-- size, which finds the degree of a polynomial that has n coefficients at most.
use Rattle.std.specs.Prelude.{ℕ, zero, suc, ◌+◌}
use Rattle.algebra.specs.Ring.{Ring}
use Rattle.algebra.specs.Field.{Field}
use Rattle.algebra.specs.Poly.{tail, cons, pzero, const, mono, at}
use Rattle.algebra.specs.PolyRing.{Poly}

-- the quotient of p by x - a, for a p with n coefficients; the remainder is the value at a
unfoldable pub quot : (R : Ring) → ℕ → (ℕ → R.El) → R.El → ℕ → R.El
quot R zero p a = pzero R
quot R (suc n) p a = cons (at R a n (tail p)) (quot R n (tail p) a)

module _ (𝓕 : Field) where
  infixl 60 ◌⊞◌
  infixl 70 ◌⊠◌
  infix 80 ⊟◌
  infixl 72 ◌⊗◌
  open 𝓕.ring use {El, 𝟘, 𝟙, ◌⊗◌}
  open Poly 𝓕.ring use {◌⊕◌ as ◌⊞◌, ⊖◌ as ⊟◌, ◌⊗◌ as ◌⊠◌}

  -- the number of coefficients up to the last of the first n that is not zero: the degree and 1, or 0 for zero
  unfoldable pub size : ℕ → (ℕ → El) → ℕ
  size zero p = 0
  size (suc n) p = elim (𝓕.equal (p n) 𝟘) [ yes z ↦ size n p | no z ↦ suc n ]

  -- division by a polynomial g of the degree m
  module _ (m : ℕ) (g : ℕ → El) where
    -- p without its coefficient of x ^ (k + m): a multiple of x ^ k g is taken away
    unfoldable pub reduce : ℕ → (ℕ → El) → ℕ → El
    reduce k p = p ⊞ ⊟ (const 𝓕.ring (p (k + m) ⊗ 𝓕.inv (g m)) ⊠ mono 𝓕.ring k ⊠ g)

    -- the quotient and the remainder of a p with k + m coefficients
    unfoldable pub quotient : ℕ → (ℕ → El) → ℕ → El
    quotient zero p = pzero 𝓕.ring
    quotient (suc k) p =
        const 𝓕.ring (p (k + m) ⊗ 𝓕.inv (g m)) ⊠ mono 𝓕.ring k ⊞ quotient k (reduce k p)

    unfoldable pub remainder : ℕ → (ℕ → El) → ℕ → El
    remainder zero p = p
    remainder (suc k) p = remainder k (reduce k p)
