-- The key equation: the syndrome of a word, times the locator of its errors, is their evaluator modulo x ^ D. In this order: which places are
-- errors; the syndrome of a codeword is zero, so that a syndrome is that of the errors; the equation; locator and evaluator: degrees, values at the
-- points, coprimality; the solution that each codeword gives.
use mathlib.Core.Path.{◌≡◌, refl, sym, ◌∙◌, ap, ap₂, fun_ext, subst}
use mathlib.Core.List.{[], ◌∷◌}
use mathlib.Core.Bool.{true, false}
use mathlib.Core.Logic.{◌≢◌, ◌⊎◌, inl, inr}
use Prim.Native.Nat.{ℕ, zero, suc, ◌+◌, ◌-◌, ◌≤◌, ◌<◌}
use native.Mathlib.Omega.{arith}
use native.Mathlib.Decide.{dec_lt}
use lib.Dec.{T}
use Rattle.algebra.specs.Ring.{Ring}
use Rattle.algebra.specs.RingLaws as Laws
use Rattle.algebra.specs.Solve.{ring}
use Rattle.algebra.specs.Field.{Field}
use Rattle.algebra.specs.Sums.{sum, pow, but, count, prod, Distinct, NonZero}
use Rattle.algebra.specs.Poly.{conv, padd, pneg, pzero, const, lin, Below, Order, at, mono, geo}
use Rattle.algebra.specs.PolyRing.{Poly, const_conv}
use Rattle.algebra.specs.PolyForms.{forms}
use Rattle.algebra.specs.Lagrange.{barycentric}
use Rattle.algebra.specs.Coprime.{Coprime}
use Rattle.algebra.proofs.Sums.{sum_cong, sum_zero, sum_add, sum_scale, sum_neg}
use Rattle.algebra.proofs.Eval.{below_neg, below_conv, order_neg, order_mul, ev_conv}
use Rattle.algebra.proofs.Roots.{id_hom}
use Rattle.algebra.proofs.Shift.{const_hom}
use Rattle.algebra.proofs.FieldLaws.{mul_nonzero, unit_nonzero, inv_nonzero, neg_nonzero, pow_nonzero}
use Rattle.algebra.proofs.Products.{but_other, but_marked, count_but, prod_but, prod_zero, prod_nonzero, locator_below, locator_monic, locator_at}
use Rattle.algebra.proofs.PolySums.{sum_single, sum_coefficient, sum_below, sum_at, times_below, times_at, neg_at}
use Rattle.algebra.proofs.Coprime.{coprime_locator}
use Rattle.algebra.proofs.Lagrange.{apart_sym, weighted_sum_zero, barycentric_inverse}
use Rattle.algebra.proofs.Monomials.{mono_below, mono_order, mono_at, geo_below, geo_at, geo_times}
use Rattle.decoding.specs.Words.{error, Codeword}
use Rattle.decoding.specs.KeyEquation.{Key}
use Rattle.decoding.specs.Code.{errors, Code, codeword, dual, syndrome, ε, Λ, others, Ω}

module _ (𝓕 : Field) where
  infixl 60 ◌⊕◌
  infixl 70 ◌⊗◌
  infix 80 ⊖◌
  infixl 60 ◌⊞◌
  infixl 70 ◌⊠◌
  infix 80 ⊟◌
  abbrev R : Ring
  R = 𝓕.ring

  open 𝓕.ring use {El, 𝟘, 𝟙, ◌⊕◌, ⊖◌, ◌⊗◌}
  open Poly 𝓕.ring use {◌⊕◌ as ◌⊞◌, ⊖◌ as ⊟◌, ◌⊗◌ as ◌⊠◌}

  -- a place is an error or not
  pub error_or_zero : (e : ℕ → El) (j : ℕ) → (e j ≡ 𝟘) ⊎ ((e j ≢ 𝟘) × (errors 𝓕 e j ≡ true))
  unfolding errors
  error_or_zero e j = go (𝓕.equal (e j) 𝟘)
    where
      go : (d : Dec (e j ≡ 𝟘)) → (e j ≡ 𝟘) ⊎ ((e j ≢ 𝟘) × (elim d [ yes z ↦ false | no z ↦ true ] ≡ true))
      go (yes z) = inl z
      go (no z) = inr (z, refl)

  pub error_marked : (e : ℕ → El) (j : ℕ) → e j ≢ 𝟘 → errors 𝓕 e j ≡ true
  error_marked e j h = elim (error_or_zero e j) [ inl z ↦ absurd (h z) | inr t ↦ t.1 ]

  pub marked_error : (e : ℕ → El) (j : ℕ) → errors 𝓕 e j ≡ true → e j ≢ 𝟘
  unfolding errors
  marked_error e j m = go (𝓕.equal (e j) 𝟘) m
    where
      go : (d : Dec (e j ≡ 𝟘)) → elim d [ yes z ↦ false | no z ↦ true ] ≡ true → e j ≢ 𝟘
      go (yes z) m = absurd (subst T (sym m) tt)
      go (no z) m = z

  -- the sums of the powers of the points, with the weights, over the values of a polynomial of too low a degree
  power_sum : (n k m : ℕ) (α : ℕ → El) → Distinct R n α → (η : ℕ → El) → Below R k η → k + m < n
      → sum R n (λ j. at R (α j) k η ⊗ pow R (α j) m ⊗ barycentric 𝓕 n α j) ≡ 𝟘
  power_sum zero k m α apart η h l = absurd (let z : suc (k + m) ≤ 0 = l in omega arith)
  power_sum (suc n) k m α apart η h l =
      sum_cong R (suc n) (λ j. at R (α j) k η ⊗ pow R (α j) m ⊗ barycentric 𝓕 (suc n) α j)
      (λ j. at R (α j) (suc n) (conv R η (mono R m)) ⊗ barycentric 𝓕 (suc n) α j)
      (λ j _.
      ap (λ z. z ⊗ barycentric 𝓕 (suc n) α j)
      (ap (λ z. at R (α j) k η ⊗ z) (sym (mono_at R (α j) m))
      ∙ sym (ev_conv R R (λ x. x) (id_hom R) (α j) k (suc m) (suc n) η (mono R m) h (mono_below R m) (omega arith))))
      ∙ weighted_sum_zero 𝓕 n α apart (conv R η (mono R m))
      (λ i t. below_conv R k (suc m) η (mono R m) h (mono_below R m) i (omega arith))

  module _ (C : Code 𝓕) where
    open C use {n, D, α, v, distinct, α≢zero, v≢zero}

    -- the syndrome of a codeword is zero
    pub syndrome_codeword : (k : ℕ) (η : ℕ → El) → Below R k η → k + D ≡ n → syndrome 𝓕 C (codeword 𝓕 C k η) ≡ pzero R
    unfolding syndrome dual pzero
    syndrome_codeword k η h s = fun_ext (λ i. go i (dec_lt i D))
      where
        go : (i : ℕ) → Dec (i < D) → sum R n (λ j. v j ⊗ at R (α j) k η ⊗ (𝓕.inv (v j) ⊗ barycentric 𝓕 n α j) ⊗ geo R D (α j) i) ≡ 𝟘
        go i (yes l) =
            sum_cong R n (λ j. v j ⊗ at R (α j) k η ⊗ (𝓕.inv (v j) ⊗ barycentric 𝓕 n α j) ⊗ geo R D (α j) i)
            (λ j. at R (α j) k η ⊗ pow R (α j) (D - suc i) ⊗ barycentric 𝓕 n α j)
            (λ j t.
            let a : El = at R (α j) k η in
            let w : El = barycentric 𝓕 n α j in
            ap (λ z. v j ⊗ a ⊗ (𝓕.inv (v j) ⊗ w) ⊗ z) (geo_at R D (α j) i l)
            ∙ Laws.from_eq R (a ⊗ w ⊗ pow R (α j) (D - suc i)) (𝓕.mul_inv (v j) (v≢zero j t))
            (ring R (v j ∷ a ∷ 𝓕.inv (v j) ∷ w ∷ pow R (α j) (D - suc i) ∷ []) (search forms depth 20) tt))
            ∙ power_sum n k (D - suc i) α distinct η h (omega arith)
        go i (no l) =
            sum_zero R n (λ j. v j ⊗ at R (α j) k η ⊗ (𝓕.inv (v j) ⊗ barycentric 𝓕 n α j) ⊗ geo R D (α j) i)
            (λ j t. ap (λ z. v j ⊗ at R (α j) k η ⊗ (𝓕.inv (v j) ⊗ barycentric 𝓕 n α j) ⊗ z) (geo_below R D (α j) i (omega arith)) ∙ Laws.mul_zero R _)

    -- the syndrome depends on the errors only
    pub syndrome_errors : (k : ℕ) (η : ℕ → El) → Below R k η → k + D ≡ n → (r e : ℕ → El)
        → ((j : ℕ) → j < n → r j ≡ codeword 𝓕 C k η j ⊕ e j) → syndrome 𝓕 C r ≡ syndrome 𝓕 C e
    unfolding syndrome
    syndrome_errors k η h s r e split =
        fun_ext (λ i.
        sum_cong R n (λ j. r j ⊗ u j ⊗ g j i) (λ j. c j ⊗ u j ⊗ g j i ⊕ e j ⊗ u j ⊗ g j i)
        (λ j l.
        ap (λ z. z ⊗ u j ⊗ g j i) (split j l)
        ∙ ring R (c j ∷ e j ∷ u j ∷ g j i ∷ []) (search forms depth 20) tt)
        ∙ sum_add R n (λ j. c j ⊗ u j ⊗ g j i) (λ j. e j ⊗ u j ⊗ g j i)
        ∙ ap (λ z. z ⊕ sum R n (λ j. e j ⊗ u j ⊗ g j i)) (ap (λ (f : ℕ → El). f i) (syndrome_codeword k η h s) ∙ none i)
        ∙ Laws.zero_add R _)
      where
        c : ℕ → El
        c = codeword 𝓕 C k η

        u : ℕ → El
        u = dual 𝓕 C

        g : ℕ → ℕ → El
        g j i = geo R D (α j) i

        none : (i : ℕ) → pzero R i ≡ 𝟘
        none i = unfold pzero in refl

    pub syndrome_below : (r : ℕ → El) → Below R D (syndrome 𝓕 C r)
    unfolding syndrome
    syndrome_below r i k =
        sum_zero R n (λ j. r j ⊗ dual 𝓕 C j ⊗ geo R D (α j) i)
        (λ j l. ap (λ z. r j ⊗ dual 𝓕 C j ⊗ z) (geo_below R D (α j) i k) ∙ Laws.mul_zero R _)

    dual_nonzero : NonZero R n (dual 𝓕 C)
    unfolding dual
    dual_nonzero j k = mul_nonzero 𝓕 (inv_nonzero 𝓕 (v≢zero j k)) (unit_nonzero 𝓕 (barycentric_inverse 𝓕 n α distinct j k))

    module _ (e : ℕ → El) where
      -- the cofactor of x ^ D
      pub Θ : ℕ → El
      Θ = sum (Poly R) n (λ j. conv R (const R (e j ⊗ dual 𝓕 C j)) (others 𝓕 C e j))

      syndrome_sum : syndrome 𝓕 C e ≡ sum (Poly R) n (λ j. conv R (const R (e j ⊗ dual 𝓕 C j)) (geo R D (α j)))
      unfolding syndrome
      syndrome_sum =
          fun_ext (λ i.
          sum_cong R n (λ j. e j ⊗ dual 𝓕 C j ⊗ geo R D (α j) i) (λ j. conv R (const R (e j ⊗ dual 𝓕 C j)) (geo R D (α j)) i)
          (λ j l. sym (const_conv R (e j ⊗ dual 𝓕 C j) (geo R D (α j)) i))
          ∙ sym (sum_coefficient R n (λ j. conv R (const R (e j ⊗ dual 𝓕 C j)) (geo R D (α j))) i))

      -- what one place adds to Λ S
      one_place : (j : ℕ) → j < n → (c : El) → (e j ≡ 𝟘 → c ≡ 𝟘)
          → conv R (Λ 𝓕 C e) (conv R (const R c) (geo R D (α j)))
          ≡ padd R (conv R (mono R D) (conv R (const R c) (others 𝓕 C e j)))
          (pneg R (conv R (const R (c ⊗ pow R (α j) D)) (others 𝓕 C e j)))
      one_place j l c z = go (error_or_zero e j)
        where
          O : ℕ → El
          O = others 𝓕 C e j

          G : ℕ → El
          G = geo R D (α j)

          A : ℕ → El
          A = const R (pow R (α j) D)

          go : (e j ≡ 𝟘) ⊎ ((e j ≢ 𝟘) × (errors 𝓕 e j ≡ true))
              → conv R (Λ 𝓕 C e) (conv R (const R c) G) ≡ padd R (conv R (mono R D) (conv R (const R c) O)) (pneg R (conv R (const R (c ⊗ pow R (α j) D)) O))
          go (inl y) =
              ap (λ t. conv R (Λ 𝓕 C e) (conv R t G)) zero
              ∙ ring (Poly R) (Λ 𝓕 C e ∷ G ∷ mono R D ∷ O ∷ []) (search forms depth 20) tt
              ∙ ap₂ (λ s t. padd R (conv R (mono R D) (conv R s O)) (pneg R (conv R t O))) (sym zero)
              (sym (ap (const R) (ap (λ t. t ⊗ pow R (α j) D) (z y) ∙ Laws.zero_mul R _) ∙ (const_hom R).of_zero))
            where
              zero : const R c ≡ pzero R
              zero = ap (const R) (z y) ∙ (const_hom R).of_zero
          go (inr t) =
              ap (λ y. conv R y (conv R (const R c) G)) (prod_but (Poly R) n j (errors 𝓕 e) (λ h. lin R (α h)) l t.1)
              ∙ ring (Poly R) (lin R (α j) ∷ O ∷ const R c ∷ G ∷ []) {y = conv R (conv R (const R c) O) (conv R (lin R (α j)) G)} (search forms depth 20) tt
              ∙ ap (λ y. conv R (conv R (const R c) O) y) (geo_times R D (α j))
              ∙ ring (Poly R) (const R c ∷ O ∷ mono R D ∷ A ∷ []) {y = padd R (conv R (mono R D) (conv R (const R c) O)) (pneg R (conv R (conv R (const R c) A) O))} (search forms depth 20) tt
              ∙ ap (λ y. padd R (conv R (mono R D) (conv R (const R c) O)) (pneg R (conv R y O))) (sym ((const_hom R).of_mul c (pow R (α j) D)))

      -- the key equation
      pub key : Λ 𝓕 C e ⊠ syndrome 𝓕 C e ≡ mono R D ⊠ Θ ⊞ Ω 𝓕 C e
      unfolding Θ Ω
      key =
          ap (conv R (Λ 𝓕 C e)) syndrome_sum
          ∙ sym (sum_scale (Poly R) n (Λ 𝓕 C e) (λ j. conv R (const R (c j)) (geo R D (α j))))
          ∙ sum_cong (Poly R) n (λ j. conv R (Λ 𝓕 C e) (conv R (const R (c j)) (geo R D (α j)))) (λ j. padd R (conv R (mono R D) (F j)) (pneg R (G j)))
          (λ j l. one_place j l (c j) (λ z. ap (λ y. y ⊗ dual 𝓕 C j) z ∙ Laws.zero_mul R _))
          ∙ sum_add (Poly R) n (λ j. conv R (mono R D) (F j)) (λ j. pneg R (G j))
          ∙ ap₂ (padd R) (sum_scale (Poly R) n (mono R D) F) (sum_neg (Poly R) n G)
        where
          c : ℕ → El
          c j = e j ⊗ dual 𝓕 C j

          F : ℕ → ℕ → El
          F j = conv R (const R (c j)) (others 𝓕 C e j)

          G : ℕ → ℕ → El
          G j = conv R (const R (c j ⊗ pow R (α j) D)) (others 𝓕 C e j)

      pub key_order : Order R D (Λ 𝓕 C e ⊠ syndrome 𝓕 C e ⊞ ⊟ Ω 𝓕 C e)
      key_order i k =
          ap (λ (f : ℕ → El). f i)
          (ap (λ z. z ⊞ ⊟ Ω 𝓕 C e) key
          ∙ ring (Poly R) (mono R D ∷ Θ ∷ Ω 𝓕 C e ∷ []) {y = Θ ⊠ mono R D} (search forms depth 20) tt)
          ∙ order_mul R D Θ (mono R D) (mono_order R D) i k

      pub Λ_below : Below R (suc (ε 𝓕 C e)) (Λ 𝓕 C e)
      Λ_below = locator_below R n (errors 𝓕 e) α

      pub Λ_monic : Λ 𝓕 C e (ε 𝓕 C e) ≡ 𝟙
      Λ_monic = locator_monic R n (errors 𝓕 e) α

      -- its roots are the places of the errors
      pub Λ_root : (i : ℕ) → i < n → e i ≢ 𝟘 → at R (α i) (suc (ε 𝓕 C e)) (Λ 𝓕 C e) ≡ 𝟘
      Λ_root i k h =
          locator_at R n (errors 𝓕 e) α (α i) (suc (ε 𝓕 C e)) (omega arith)
          ∙ prod_zero R n i (errors 𝓕 e) (λ h. α i ⊕ ⊖ α h) k (error_marked e i h) (R.add_neg (α i))

      pub Λ_nonzero : (i : ℕ) → i < n → e i ≡ 𝟘 → at R (α i) (suc (ε 𝓕 C e)) (Λ 𝓕 C e) ≢ 𝟘
      Λ_nonzero i k z y =
          prod_nonzero 𝓕 n (errors 𝓕 e) (λ h. α i ⊕ ⊖ α h)
          (λ h l m t.
          apart_sym R n α distinct i h k l (λ q. marked_error e h m (ap e (sym q) ∙ z)) (Laws.eq_of_sub R (α i) (α h) t))
          (sym (locator_at R n (errors 𝓕 e) α (α i) (suc (ε 𝓕 C e)) (omega arith)) ∙ y)

      scaled_others_below : (j : ℕ) → j < n → (c : El) → (e j ≡ 𝟘 → c ≡ 𝟘) → Below R (ε 𝓕 C e) (conv R (const R c) (others 𝓕 C e j))
      scaled_others_below j l c z i k = go (error_or_zero e j)
        where
          go : (e j ≡ 𝟘) ⊎ ((e j ≢ 𝟘) × (errors 𝓕 e j ≡ true)) → conv R (const R c) (others 𝓕 C e j) i ≡ 𝟘
          go (inl y) = const_conv R c (others 𝓕 C e j) i ∙ ap (λ t. t ⊗ others 𝓕 C e j i) (z y) ∙ Laws.zero_mul R _
          go (inr t) =
              times_below R (ε 𝓕 C e) c (others 𝓕 C e j)
              (λ a b.
              locator_below R n (but j (errors 𝓕 e)) α a
              (let y : count n (errors 𝓕 e) ≡ suc (count n (but j (errors 𝓕 e))) = count_but n j (errors 𝓕 e) l t.1 in omega arith)) i k

      pub Ω_below : Below R (ε 𝓕 C e) (Ω 𝓕 C e)
      unfolding Ω
      Ω_below =
          below_neg R (ε 𝓕 C e) _
          (sum_below R n (ε 𝓕 C e) (λ j. conv R (const R (e j ⊗ dual 𝓕 C j ⊗ pow R (α j) D)) (others 𝓕 C e j))
          (λ j l. scaled_others_below j l (e j ⊗ dual 𝓕 C j ⊗ pow R (α j) D)
          (λ z. ap (λ y. y ⊗ dual 𝓕 C j ⊗ pow R (α j) D) z ∙ ring R (dual 𝓕 C j ∷ pow R (α j) D ∷ []) (search forms depth 20) tt)))

      -- the evaluator is not zero at the errors
      pub Ω_nonzero : (i : ℕ) → i < n → e i ≢ 𝟘 → at R (α i) (ε 𝓕 C e) (Ω 𝓕 C e) ≢ 𝟘
      unfolding Ω
      Ω_nonzero i k ei z =
          neg_nonzero 𝓕
          (mul_nonzero 𝓕 (mul_nonzero 𝓕 (mul_nonzero 𝓕 ei (dual_nonzero i k)) (pow_nonzero 𝓕 (α i) D (α≢zero i k)))
          (prod_nonzero 𝓕 n (but i (errors 𝓕 e)) (λ h. α i ⊕ ⊖ α h)
          (λ h l m y. apart_sym R n α distinct i h k l (λ t. (but_marked i (errors 𝓕 e) h m).0 (sym t)) (Laws.eq_of_sub R (α i) (α h) y))))
          (sym (neg_at R (α i) (ε 𝓕 C e) (sum (Poly R) n F) ∙ ap ⊖◌ (sum_at R n (α i) (ε 𝓕 C e) F ∙ sum_single R n i (λ j. at R (α i) (ε 𝓕 C e) (F j)) k other ∙ here)) ∙ z)
        where
          c : ℕ → El
          c j = e j ⊗ dual 𝓕 C j ⊗ pow R (α j) D

          F : ℕ → ℕ → El
          F j = conv R (const R (c j)) (others 𝓕 C e j)

          value : (j : ℕ) → j < n → errors 𝓕 e j ≡ true → at R (α i) (ε 𝓕 C e) (F j) ≡ c j ⊗ prod R n (but j (errors 𝓕 e)) (λ h. α i ⊕ ⊖ α h)
          value j l m =
              times_at R (c j) (α i) (ε 𝓕 C e) (others 𝓕 C e j)
              ∙ ap (λ y. c j ⊗ y)
              (locator_at R n (but j (errors 𝓕 e)) α (α i) (ε 𝓕 C e)
              (let y : count n (errors 𝓕 e) ≡ suc (count n (but j (errors 𝓕 e))) = count_but n j (errors 𝓕 e) l m in omega arith))

          here : at R (α i) (ε 𝓕 C e) (F i) ≡ c i ⊗ prod R n (but i (errors 𝓕 e)) (λ h. α i ⊕ ⊖ α h)
          here = value i k (error_marked e i ei)

          other : (j : ℕ) → j < n → j ≢ i → at R (α i) (ε 𝓕 C e) (F j) ≡ 𝟘
          other j l ne =
              elim (error_or_zero e j) [
                | inl y ↦ times_at R (c j) (α i) (ε 𝓕 C e) (others 𝓕 C e j)
                    ∙ ap (λ t. t ⊗ dual 𝓕 C j ⊗ pow R (α j) D ⊗ at R (α i) (ε 𝓕 C e) (others 𝓕 C e j)) y
                    ∙ ring R (dual 𝓕 C j ∷ pow R (α j) D ∷ at R (α i) (ε 𝓕 C e) (others 𝓕 C e j) ∷ []) (search forms depth 20) tt
                | inr t ↦ value j l t.1
                    ∙ ap (λ y. c j ⊗ y)
                    (prod_zero R n i (but j (errors 𝓕 e)) (λ h. α i ⊕ ⊖ α h) k
                    (but_other j (errors 𝓕 e) i (λ y. ne (sym y)) ∙ error_marked e i ei) (R.add_neg (α i)))
                    ∙ Laws.mul_zero R (c j)
              ]

    -- the evaluator and the locator of the errors are coprime
    pub Ω_Λ_coprime : (e : ℕ → El) → Coprime R (Ω 𝓕 C e) (Λ 𝓕 C e)
    Ω_Λ_coprime e =
        coprime_locator 𝓕 n (ε 𝓕 C e) (errors 𝓕 e) α (Ω 𝓕 C e) (Ω_below e) (λ h k m. Ω_nonzero e h k (marked_error e h m))

    -- so they solve the key equation
    pub solution : (e : ℕ → El) → Key R D (syndrome 𝓕 C e) (ε 𝓕 C e) (Λ 𝓕 C e) (Ω 𝓕 C e)
    solution e =
        record {
          Λ_degree = record { below = Λ_below e; lead = λ z. 𝓕.one≢zero (sym (Λ_monic e) ∙ z) };
          Ω_below = Ω_below e;
          coprime = Ω_Λ_coprime e;
          divides = λ i k.
              ap (λ (f : ℕ → El). f i)
              (ring (Poly R) (Λ 𝓕 C e ∷ Ω 𝓕 C e ∷ syndrome 𝓕 C e ∷ [])
              {x = Ω 𝓕 C e ⊞ (⊟ Λ 𝓕 C e) ⊠ syndrome 𝓕 C e} {y = ⊟ (Λ 𝓕 C e ⊠ syndrome 𝓕 C e ⊞ ⊟ Ω 𝓕 C e)} (search forms depth 20) tt)
              ∙ order_neg R D (Λ 𝓕 C e ⊠ syndrome 𝓕 C e ⊞ ⊟ Ω 𝓕 C e) (key_order e) i k;
        }

    -- and the syndrome of a received word r gives the key equation of its errors against every codeword
    pub word_key : (k : ℕ) → k + D ≡ n → (r c : ℕ → El) → Codeword 𝓕 C k c
        → Key R D (syndrome 𝓕 C r) (ε 𝓕 C (error 𝓕 r c)) (Λ 𝓕 C (error 𝓕 r c)) (Ω 𝓕 C (error 𝓕 r c))
    word_key k s r c w =
        subst (λ S. Key R D S (ε 𝓕 C e) (Λ 𝓕 C e) (Ω 𝓕 C e)) (sym (syndrome_errors k w.message w.short s r e sent)) (solution e)
      where
        e : ℕ → El
        e = error 𝓕 r c

        sent : (j : ℕ) → j < n → r j ≡ codeword 𝓕 C k w.message j ⊕ e j
        sent j u =
            ring R (r j ∷ c j ∷ []) {y = c j ⊕ (r j ⊕ ⊖ c j)} (search forms depth 20) tt ∙ ap (λ z. z ⊕ (r j ⊕ ⊖ c j)) (w.word j u)
