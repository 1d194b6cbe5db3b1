-- Degrees: of products, sums, opposites and powers of x; size finds the degree, so that a polynomial is zero or has one; there are no zero divisors;
-- the divisors of 1.
use mathlib.Core.Path.{◌≡◌, refl, sym, ◌∙◌, ap, subst}
use mathlib.Core.Logic.{◌≢◌, ◌⊎◌, inl, inr}
use Prim.Native.Nat.{ℕ, zero, suc, ◌+◌, ◌<◌}
use native.Mathlib.Omega.{arith}
use native.Mathlib.Decide.{dec_lt}
use Rattle.algebra.specs.Ring.{Ring}
use Rattle.algebra.specs.RingLaws as L
use Rattle.algebra.specs.Field.{Field}
use Rattle.algebra.specs.Poly.{padd, pneg, pzero, const, Below, Degree, mono}
use Rattle.algebra.specs.PolyRing.{Poly}
use Rattle.algebra.specs.Division.{size}
use Rattle.algebra.proofs.Eval.{below_zero, below_const, below_add, below_neg, below_conv, lead_conv}
use Rattle.algebra.proofs.FieldLaws.{mul_nonzero, neg_nonzero}
use Rattle.algebra.proofs.PolySums.{zero_coefficient, const_coefficient}
use Rattle.algebra.proofs.Monomials.{mono_below, mono_lead}

module _ (𝓕 : Field) where
  infixl 60 ◌⊕◌
  infixl 70 ◌⊗◌
  infix 80 ⊖◌
  infixl 60 ◌⊞◌
  infixl 70 ◌⊠◌
  infix 80 ⊟◌
  abbrev R : Ring
  R = 𝓕.ring

  open 𝓕.ring use {El, 𝟘, 𝟙, ◌⊕◌, ⊖◌, ◌⊗◌}
  open Poly 𝓕.ring use {◌⊕◌ as ◌⊞◌, ⊖◌ as ⊟◌, ◌⊗◌ as ◌⊠◌}

  pub degree_mul : (a b : ℕ) (p q : ℕ → El) → Degree R a p → Degree R b q → Degree R (a + b) (p ⊠ q)
  degree_mul a b p q hp hq =
      record {
        below = λ i k. below_conv R (suc a) (suc b) p q hp.below hq.below i (omega arith);
        lead = λ z. mul_nonzero 𝓕 hp.lead hq.lead (sym (lead_conv R a b p q hp.below hq.below) ∙ z);
      }

  -- a sum with what has a lower degree
  pub degree_add : (a : ℕ) (p q : ℕ → El) → Degree R a p → Below R a q → Degree R a (p ⊞ q)
  unfolding padd
  degree_add a p q hp hq =
      record {
        below = below_add R (suc a) p q hp.below (λ i k. hq i (omega arith));
        lead = λ z. hp.lead (sym (R.add_zero (p a)) ∙ ap (λ y. p a ⊕ y) (sym (hq a (omega arith))) ∙ z);
      }

  pub degree_neg : (a : ℕ) (p : ℕ → El) → Degree R a p → Degree R a (⊟ p)
  unfolding pneg
  degree_neg a p hp = record { below = below_neg R (suc a) p hp.below; lead = neg_nonzero 𝓕 hp.lead }

  pub degree_mono : (a : ℕ) → Degree R a (mono R a)
  degree_mono a = record { below = mono_below R a; lead = λ z. 𝓕.one≢zero (sym (mono_lead R a) ∙ z) }

  -- the degree is below every bound
  pub degree_less : (d n : ℕ) (p : ℕ → El) → Degree R d p → Below R n p → d < n
  degree_less d n p hd h = elim (dec_lt d n) [ yes l ↦ l | no l ↦ absurd (hd.lead (h d (omega arith))) ]

  pub size_below : (n : ℕ) (p : ℕ → El) → Below R n p → Below R (size 𝓕 n p) p
  unfolding size
  size_below zero p h = h
  size_below (suc n) p h = go (𝓕.equal (p n) 𝟘) (size_below n p)
    where
      go : (d : Dec (p n ≡ 𝟘)) → (Below R n p → Below R (size 𝓕 n p) p) → Below R (elim d [ yes z ↦ size 𝓕 n p | no z ↦ suc n ]) p
      go (yes z) ih =
          ih (λ i k. elim (dec_lt n i) [ yes l ↦ h i l | no l ↦ subst (λ j. p j ≡ 𝟘) (let y : n ≡ i = omega arith in y) z ])
      go (no z) ih = h

  pub size_lead : (n d : ℕ) (p : ℕ → El) → size 𝓕 n p ≡ suc d → p d ≢ 𝟘
  unfolding size
  size_lead zero d p e = absurd (let z : 0 ≡ suc d = e in omega arith)
  size_lead (suc n) d p e = go (𝓕.equal (p n) 𝟘) e (size_lead n d p)
    where
      go : (t : Dec (p n ≡ 𝟘)) → elim t [ yes z ↦ size 𝓕 n p | no z ↦ suc n ] ≡ suc d → (size 𝓕 n p ≡ suc d → p d ≢ 𝟘) → p d ≢ 𝟘
      go (yes z) e ih = ih e
      go (no z) e ih = subst (λ j. p j ≢ 𝟘) (let y : n ≡ d = omega arith in y) z

  pub size_degree : (n d : ℕ) (p : ℕ → El) → Below R n p → size 𝓕 n p ≡ suc d → Degree R d p
  size_degree n d p h e =
      record { below = subst (λ j. Below R j p) e (size_below n p h); lead = size_lead n d p e }

  -- a polynomial is zero or has a degree
  pub degree_of : (n : ℕ) (p : ℕ → El) → Below R n p → (p ≡ pzero R) ⊎ ((d : ℕ) × Degree R d p)
  degree_of n p h = go (size 𝓕 n p) refl
    where
      go : (m : ℕ) → size 𝓕 n p ≡ m → (p ≡ pzero R) ⊎ ((d : ℕ) × Degree R d p)
      go zero e = inl (below_zero R p (subst (λ m. Below R m p) e (size_below n p h)))
      go (suc d) e = inr (d, size_degree n d p h e)

  -- no zero divisors
  pub no_divisors_poly : (n m : ℕ) (p q : ℕ → El) → Below R n p → Below R m q → p ⊠ q ≡ pzero R → (p ≡ pzero R) ⊎ (q ≡ pzero R)
  no_divisors_poly n m p q hp hq e = go (degree_of n p hp) (degree_of m q hq)
    where
      go : (p ≡ pzero R) ⊎ ((d : ℕ) × Degree R d p) → (q ≡ pzero R) ⊎ ((d : ℕ) × Degree R d q) → (p ≡ pzero R) ⊎ (q ≡ pzero R)
      go (inl z) s = inl z
      go (inr t) (inl z) = inr z
      go (inr (a, ha)) (inr (b, hb)) =
          absurd ((degree_mul a b p q ha hb).lead (ap (λ (f : ℕ → El). f (a + b)) e ∙ zero_coefficient R (a + b)))

  -- a divisor of 1 is a constant
  pub unit_degree : (n m : ℕ) (p q : ℕ → El) → Below R n p → Below R m q → p ⊠ q ≡ const R 𝟙 → Degree R 0 q
  unit_degree n m p q hp hq product = go (degree_of n p hp) (degree_of m q hq)
    where
      trivial : const R 𝟙 ≡ pzero R → ⊥
      trivial e = 𝓕.one≢zero (sym (const_coefficient R 𝟙) ∙ ap (λ (t : ℕ → El). t 0) e ∙ zero_coefficient R 0)

      go : (p ≡ pzero R) ⊎ ((d : ℕ) × Degree R d p) → (q ≡ pzero R) ⊎ ((d : ℕ) × Degree R d q) → Degree R 0 q
      go (inl z) s = absurd (trivial (sym product ∙ ap (λ t. t ⊠ q) z ∙ L.zero_mul (Poly R) q))
      go (inr t) (inl z) = absurd (trivial (sym product ∙ ap (λ t. p ⊠ t) z ∙ L.mul_zero (Poly R) p))
      go (inr (a, ha)) (inr (b, hb)) =
          let k : a + b < 1 =
          degree_less (a + b) 1 (p ⊠ q) (degree_mul a b p q ha hb) (subst (Below R 1) (sym product) (below_const R 𝟙)) in
          subst (λ d. Degree R d q) (let z : b ≡ 0 = omega arith in z) hb
