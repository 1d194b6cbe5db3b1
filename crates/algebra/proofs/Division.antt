-- Division with remainder over a field: that quotient and remainder are what they are called, their degrees, and that they are unique.
use mathlib.Core.Path.{◌≡◌, refl, sym, ◌∙◌, ap, ap₂}
use mathlib.Core.List.{[], ◌∷◌}
use mathlib.Core.Logic.{◌⊎◌, inl, inr}
use Prim.Native.Nat.{ℕ, zero, suc, ◌+◌, ◌-◌, ◌<◌}
use native.Mathlib.Omega.{arith}
use native.Mathlib.Decide.{dec_lt}
use Rattle.algebra.specs.Ring.{Ring}
use Rattle.algebra.specs.RingLaws as L
use Rattle.algebra.specs.Solve.{ring}
use Rattle.algebra.specs.Field.{Field}
use Rattle.algebra.specs.Poly.{padd, pneg, pzero, const, Below, Degree, mono}
use Rattle.algebra.specs.PolyRing.{Poly, const_conv}
use Rattle.algebra.specs.PolyForms.{forms}
use Rattle.algebra.specs.Division.{reduce, quotient, remainder}
use Rattle.algebra.proofs.Eval.{below_add, below_neg, below_conv, lead_conv}
use Rattle.algebra.proofs.Degrees.{degree_of}
use Rattle.algebra.proofs.FieldLaws.{mul_nonzero, inv_nonzero}
use Rattle.algebra.proofs.PolySums.{times_below}
use Rattle.algebra.proofs.Monomials.{mono_below, mono_lead, mono_conv}

module _ (𝓕 : Field) where
  infixl 60 ◌⊕◌
  infixl 70 ◌⊗◌
  infix 80 ⊖◌
  infixl 60 ◌⊞◌
  infixl 70 ◌⊠◌
  infix 80 ⊟◌
  abbrev R : Ring
  R = 𝓕.ring

  open 𝓕.ring use {El, 𝟘, 𝟙, ◌⊕◌, ⊖◌, ◌⊗◌}
  open Poly 𝓕.ring use {◌⊕◌ as ◌⊞◌, ⊖◌ as ⊟◌, ◌⊗◌ as ◌⊠◌}

  module _ (m : ℕ) (g : ℕ → El) where
    -- the division, for any k
    pub divided : (k : ℕ) (p : ℕ → El) → p ≡ quotient 𝓕 m g k p ⊠ g ⊞ remainder 𝓕 m g k p
    unfolding quotient remainder reduce
    divided zero p = ring (Poly R) (p ∷ g ∷ []) (search forms depth 20) tt
    divided (suc k) p =
        let t : ℕ → El = const R (p (k + m) ⊗ 𝓕.inv (g m)) in
        let p' : ℕ → El = p ⊞ ⊟ (t ⊠ mono R k ⊠ g) in
        ring (Poly R) (p ∷ t ∷ mono R k ∷ g ∷ []) {y = t ⊠ mono R k ⊠ g ⊞ (p ⊞ ⊟ (t ⊠ mono R k ⊠ g))} (search forms depth 20) tt
        ∙ ap (λ z. t ⊠ mono R k ⊠ g ⊞ z) (divided k p')
        ∙ ring (Poly R) (t ∷ mono R k ∷ g ∷ quotient 𝓕 m g k p' ∷ remainder 𝓕 m g k p' ∷ []) (search forms depth 20) tt

    pub quotient_below : (k : ℕ) (p : ℕ → El) → Below R k (quotient 𝓕 m g k p)
    unfolding quotient pzero
    quotient_below zero p i l = refl
    quotient_below (suc k) p i l =
        below_add R (suc k) (const R (p (k + m) ⊗ 𝓕.inv (g m)) ⊠ mono R k) (quotient 𝓕 m g k (reduce 𝓕 m g k p))
        (times_below R (suc k) (p (k + m) ⊗ 𝓕.inv (g m)) (mono R k) (mono_below R k))
        (λ j h. quotient_below k (reduce 𝓕 m g k p) j (omega arith)) i l

    -- the leading coefficient of the quotient
    pub quotient_lead : (k : ℕ) (p : ℕ → El) → quotient 𝓕 m g (suc k) p k ≡ p (k + m) ⊗ 𝓕.inv (g m)
    unfolding quotient padd
    quotient_lead k p =
        ap₂ ◌⊕◌ (const_conv R (p (k + m) ⊗ 𝓕.inv (g m)) (mono R k) k ∙ ap (λ z. p (k + m) ⊗ 𝓕.inv (g m) ⊗ z) (mono_lead R k) ∙ R.mul_one _)
        (quotient_below k (reduce 𝓕 m g k p) k (omega arith))
        ∙ R.add_zero _

    module _ (hg : Degree R m g) where
      reduce_below : (k : ℕ) (p : ℕ → El) → Below R (suc k + m) p → Below R (k + m) (reduce 𝓕 m g k p)
      unfolding reduce padd pneg
      reduce_below k p h i l = go (dec_lt (k + m) i)
        where
          c : El
          c = p (k + m) ⊗ 𝓕.inv (g m)

          times : (j : ℕ) → (const R c ⊠ mono R k ⊠ g) j ≡ c ⊗ (mono R k ⊠ g) j
          times j = ap (λ (f : ℕ → El). f j) ((Poly R).mul_assoc (const R c) (mono R k) g) ∙ const_conv R c (mono R k ⊠ g) j

          go : Dec (k + m < i) → p i ⊕ ⊖ (const R c ⊠ mono R k ⊠ g) i ≡ 𝟘
          go (yes y) =
              ap₂ (λ s t. s ⊕ ⊖ t) (h i (omega arith))
              (times i ∙ ap (λ z. c ⊗ z) (below_conv R (suc k) (suc m) (mono R k) g (mono_below R k) hg.below i (omega arith)) ∙ L.mul_zero R c)
              ∙ R.add_neg 𝟘
          go (no y) =
              ap (λ j. p j ⊕ ⊖ (const R c ⊠ mono R k ⊠ g) j) (let z : i ≡ k + m = omega arith in z)
              ∙ ap (λ z. p (k + m) ⊕ ⊖ z)
              (times (k + m) ∙ ap (λ z. c ⊗ z) (mono_conv R k g m)
              ∙ L.from_eq R (p (k + m)) {y = p (k + m)} (𝓕.mul_inv (g m) hg.lead)
              (ring R (p (k + m) ∷ 𝓕.inv (g m) ∷ g m ∷ []) (search forms depth 20) tt))
              ∙ R.add_neg (p (k + m))

      -- the remainder has a lower degree than g
      pub remainder_below : (k : ℕ) (p : ℕ → El) → Below R (k + m) p → Below R m (remainder 𝓕 m g k p)
      unfolding remainder
      remainder_below zero p h i l = h i (omega arith)
      remainder_below (suc k) p h i l = remainder_below k (reduce 𝓕 m g k p) (reduce_below k p h) i l

      -- the quotient of a p of the degree k + m has the degree k
      pub quotient_degree : (k : ℕ) (p : ℕ → El) → Degree R (k + m) p → Degree R k (quotient 𝓕 m g (suc k) p)
      quotient_degree k p hp =
          record {
            below = quotient_below (suc k) p;
            lead = λ z. mul_nonzero 𝓕 hp.lead (inv_nonzero 𝓕 hg.lead) (sym (quotient_lead k p) ∙ z);
          }

      -- division with remainder of a p with n coefficients
      pub division : (n : ℕ) (p : ℕ → El) → Below R n p
          → (q : ℕ → El) × (r : ℕ → El) × Below R (n - m) q × Below R m r × (p ≡ q ⊠ g ⊞ r)
      division n p hp = (
        quotient 𝓕 m g (n - m) p,
        remainder 𝓕 m g (n - m) p,
        quotient_below (n - m) p,
        remainder_below (n - m) p (λ i k. hp i (omega arith)),
        divided (n - m) p,
      )

      -- quotient and remainder are unique
      pub division_unique : (k : ℕ) (q r q' r' : ℕ → El) → Below R k q → Below R k q' → Below R m r → Below R m r'
          → q ⊠ g ⊞ r ≡ q' ⊠ g ⊞ r' → (q ≡ q') × (r ≡ r')
      division_unique k q r q' r' hq hq' hr hr' e = go (degree_of 𝓕 k (q ⊞ ⊟ q') (below_add R k q (⊟ q') hq (below_neg R k q' hq')))
        where
          product : (q ⊞ ⊟ q') ⊠ g ≡ r' ⊞ ⊟ r
          product =
              ring (Poly R) (q ∷ q' ∷ g ∷ r ∷ []) {y = (q ⊠ g ⊞ r) ⊞ ⊟ (q' ⊠ g) ⊞ ⊟ r} (search forms depth 20) tt
              ∙ ap (λ z. z ⊞ ⊟ (q' ⊠ g) ⊞ ⊟ r) e
              ∙ ring (Poly R) (q' ∷ g ∷ r ∷ r' ∷ []) (search forms depth 20) tt

          go : (q ⊞ ⊟ q' ≡ pzero R) ⊎ ((d : ℕ) × Degree R d (q ⊞ ⊟ q')) → (q ≡ q') × (r ≡ r')
          go (inl z) = (
            L.eq_of_sub (Poly R) q q' z,
            sym (L.eq_of_sub (Poly R) r' r (sym product ∙ ap (λ y. y ⊠ g) z ∙ L.zero_mul (Poly R) g)),
          )
          go (inr (d, c)) =
              absurd
              (mul_nonzero 𝓕 c.lead hg.lead
              (sym (lead_conv R d m (q ⊞ ⊟ q') g c.below hg.below) ∙ ap (λ (f : ℕ → El). f (d + m)) product
              ∙ below_add R m r' (⊟ r) hr' (below_neg R m r hr) (d + m) (omega arith)))
