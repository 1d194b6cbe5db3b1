-- What is not zero in a field: products, inverses, opposites and powers of what is not zero.
use mathlib.Core.Path.{◌≡◌, sym, ◌∙◌, ap}
use mathlib.Core.Logic.{◌≢◌}
use Prim.Native.Nat.{ℕ, zero, suc}
use Rattle.algebra.specs.RingLaws as L
use Rattle.algebra.specs.Field.{Field}
use Rattle.algebra.specs.Sums.{pow}
use Rattle.algebra.proofs.Roots.{no_divisors}

module _ (𝓕 : Field) where
  infixl 60 ◌⊕◌
  infixl 70 ◌⊗◌
  infix 80 ⊖◌
  open 𝓕.ring use {El, 𝟘, 𝟙, ◌⊕◌, ⊖◌, ◌⊗◌}

  pub mul_nonzero : {a b : El} → a ≢ 𝟘 → b ≢ 𝟘 → a ⊗ b ≢ 𝟘
  mul_nonzero {a} {b} h k e = k (no_divisors 𝓕 a b e h)

  pub unit_nonzero : {a b : El} → a ⊗ b ≡ 𝟙 → b ≢ 𝟘
  unit_nonzero {a} {b} h e = 𝓕.one≢zero (sym h ∙ ap (λ z. a ⊗ z) e ∙ L.mul_zero 𝓕.ring a)

  pub inv_nonzero : {a : El} → a ≢ 𝟘 → 𝓕.inv a ≢ 𝟘
  inv_nonzero {a} h = unit_nonzero (𝓕.mul_inv a h)

  pub neg_nonzero : {a : El} → a ≢ 𝟘 → ⊖ a ≢ 𝟘
  neg_nonzero {a} h e = h (sym (L.neg_neg 𝓕.ring a) ∙ ap ⊖◌ e ∙ L.neg_zero 𝓕.ring)

  pub pow_nonzero : (a : El) (n : ℕ) → a ≢ 𝟘 → pow 𝓕.ring a n ≢ 𝟘
  unfolding pow
  pow_nonzero a zero h = 𝓕.one≢zero
  pow_nonzero a (suc n) h = mul_nonzero h (pow_nonzero a n h)
