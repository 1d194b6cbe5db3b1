-- Polynomials with some bound: their sums and products; over a field, whether one is zero, that a factor other than zero is cancelled, and
-- that the factors of 1 are the constants other than zero.
use mathlib.Core.Path.{◌≡◌, refl, ◌∙◌, ap, fun_ext}
use mathlib.Core.Logic.{◌≢◌, ◌⊎◌, inl, inr}
use Prim.Native.Nat.{ℕ, zero, suc, ◌+◌}
use native.Mathlib.Omega.{arith}
use Rattle.algebra.specs.Ring.{Ring}
use Rattle.algebra.specs.Field.{Field}
use Rattle.algebra.specs.Poly.{conv, padd, pneg, pzero, const, Below, Bounded, Degree, mono}
use Rattle.algebra.specs.PolyRing.{Poly}
use Rattle.algebra.proofs.Eval.{below_add, below_neg, below_const, below_conv}
use Rattle.algebra.proofs.Monomials.{mono_below}
use Rattle.algebra.proofs.PolySums.{zero_coefficient}
use Rattle.algebra.proofs.Degrees.{degree_of, no_divisors_poly, unit_degree}

module _ (R : Ring) where
  infixl 60 ◌⊕◌
  infixl 70 ◌⊗◌
  infix 80 ⊖◌
  open R use {El, 𝟘, 𝟙, ◌⊕◌, ⊖◌, ◌⊗◌}

  pub bounded_zero : Bounded R (pzero R)
  unfolding pzero
  bounded_zero = (0, λ i k. refl)

  pub bounded_const : (a : El) → Bounded R (const R a)
  bounded_const a = (1, below_const R a)

  pub bounded_add : {p q : ℕ → El} → Bounded R p → Bounded R q → Bounded R (padd R p q)
  bounded_add {p} {q} (n, hp) (m, hq) =
      (n + m, below_add R (n + m) p q (λ i k. hp i (omega arith)) (λ i k. hq i (omega arith)))

  pub bounded_neg : {p : ℕ → El} → Bounded R p → Bounded R (pneg R p)
  bounded_neg {p} (n, hp) = (n, below_neg R n p hp)

  pub bounded_conv : {p q : ℕ → El} → Bounded R p → Bounded R q → Bounded R (conv R p q)
  bounded_conv {p} {q} (n, hp) (m, hq) = (n + m, λ i k. below_conv R n m p q hp hq i (omega arith))

  pub bounded_mono : (n : ℕ) → Bounded R (mono R n)
  bounded_mono n = (suc n, mono_below R n)

module _ (𝓕 : Field) where
  infixl 60 ◌⊕◌
  infixl 70 ◌⊗◌
  infix 80 ⊖◌
  abbrev R : Ring
  R = 𝓕.ring

  open 𝓕.ring use {El, 𝟘, 𝟙, ◌⊕◌, ⊖◌, ◌⊗◌}

  -- zero or not
  pub decide_zero : (p : ℕ → El) → Bounded R p → (p ≡ pzero R) ⊎ (p ≢ pzero R)
  decide_zero p (n, h) =
      elim (degree_of 𝓕 n p h) [
        | inl e ↦ inl e
        | inr t ↦ inr (λ e. t.1.lead (ap (λ (f : ℕ → El). f t.0) e ∙ zero_coefficient R t.0))
      ]

  pub cancel : (p q : ℕ → El) → Bounded R p → Bounded R q → conv R p q ≡ pzero R → p ≢ pzero R → q ≡ pzero R
  cancel p q (n, hp) (m, hq) e k = elim (no_divisors_poly 𝓕 n m p q hp hq e) [ inl z ↦ absurd (k z) | inr z ↦ z ]

  below_one : (p : ℕ → El) → Below R 1 p → p ≡ const R (p 0)
  unfolding const
  below_one p h = fun_ext (elim [ zero ↦ refl | suc i ↦ h (suc i) (omega arith) ])

  pub one≢zero_poly : const R 𝟙 ≢ pzero R
  unfolding const pzero
  one≢zero_poly e = 𝓕.one≢zero (ap (λ (f : ℕ → El). f 0) e)

  -- a factor of 1 is a constant other than zero
  pub unit_const : (p q : ℕ → El) → Bounded R p → Bounded R q → conv R p q ≡ const R 𝟙
      → (c : El) × (c ≢ 𝟘) × (p ≡ const R c)
  unit_const p q (n, hp) (m, hq) e =
      let d : Degree R 0 p = unit_degree 𝓕 m n q p hq hp ((Poly R).mul_comm q p ∙ e) in
      (p 0, d.lead, below_one p d.below)
