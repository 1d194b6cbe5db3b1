-- Lagrange's interpolation: the polynomial of given values, and that a polynomial with n coefficients is that of its values at n points; so the
-- values times the barycentric weights sum to the coefficient of x ^ (n - 1).
use mathlib.Core.Path.{◌≡◌, refl, sym, ◌∙◌, ap, subst}
use mathlib.Core.List.{[], ◌∷◌}
use mathlib.Core.Logic.{◌≢◌}
use Prim.Native.Nat.{ℕ, zero, suc, ◌<◌}
use native.Mathlib.Omega.{arith}
use native.Mathlib.Decide.{dec_lt}
use Rattle.algebra.specs.Ring.{Ring}
use Rattle.algebra.specs.RingLaws as L
use Rattle.algebra.specs.Solve.{ring}
use Rattle.algebra.specs.Field.{Field}
use Rattle.algebra.specs.Sums.{sum, all, but, count, prod, Distinct}
use Rattle.algebra.specs.Poly.{conv, padd, pneg, const, Below, at}
use Rattle.algebra.specs.PolyRing.{Poly, const_conv}
use Rattle.algebra.specs.PolyForms.{forms}
use Rattle.algebra.specs.Lagrange.{locator, barycentric}
use Rattle.algebra.proofs.Sums.{sum_cong}
use Rattle.algebra.proofs.Eval.{below_add, below_neg, below_weaken, ev_add}
use Rattle.algebra.proofs.Roots.{id_hom, roots}
use Rattle.algebra.proofs.Products.{but_other, but_marked, count_but, prod_zero, prod_nonzero, locator_below, locator_monic, locator_at}
use Rattle.algebra.proofs.PolySums.{sum_single, sum_coefficient, sum_below, sum_at, times_below, times_at, neg_at}

pub count_all : (n : ℕ) → count n all ≡ n
unfolding count
count_all zero = refl
count_all (suc n) = let z : count n all ≡ n = count_all n in omega arith

pub count_others : (n j : ℕ) → j < n → suc (count n (but j all)) ≡ n
count_others n j k = sym (count_but n j all k refl) ∙ count_all n

pub apart_sym : (R : Ring) (n : ℕ) (α : ℕ → R.El) → Distinct R n α → (i j : ℕ) → i < n → j < n → i ≢ j → α i ≢ α j
apart_sym R n α apart i j k l ne e =
    elim (dec_lt i j) [ yes h ↦ apart i j h l e | no h ↦ apart j i (omega arith) k (sym e) ]

module _ (𝓕 : Field) where
  infixl 60 ◌⊕◌
  infixl 70 ◌⊗◌
  infix 80 ⊖◌
  abbrev R : Ring
  R = 𝓕.ring

  open 𝓕.ring use {El, 𝟘, 𝟙, ◌⊕◌, ⊖◌, ◌⊗◌}

  module _ (n : ℕ) (α : ℕ → El) (apart : Distinct R n α) where
    pub barycentric_inverse : (j : ℕ) → j < n
        → prod R n (but j all) (λ h. α j ⊕ ⊖ α h) ⊗ barycentric 𝓕 n α j ≡ 𝟙
    unfolding barycentric
    barycentric_inverse j k =
        𝓕.mul_inv _ (prod_nonzero 𝓕 n (but j all) (λ h. α j ⊕ ⊖ α h)
        (λ h l m z. apart_sym R n α apart j h k l (λ e. (but_marked j all h m).0 (sym e)) (L.eq_of_sub R (α j) (α h) z)))

    -- the polynomial that is 1 / weight at α j and 0 at the other points
    basis_below : (j : ℕ) → j < n → Below R n (locator R n (but j all) α)
    basis_below j k =
        subst (λ m. Below R m (locator R n (but j all) α)) (count_others n j k) (locator_below R n (but j all) α)

    basis_at : (j i : ℕ) → j < n → at R (α i) n (locator R n (but j all) α) ≡ prod R n (but j all) (λ h. α i ⊕ ⊖ α h)
    basis_at j i k = locator_at R n (but j all) α (α i) n (let z : suc (count n (but j all)) ≡ n = count_others n j k in omega arith)

    pub term : (ℕ → El) → ℕ → ℕ → El
    term c j = conv R (const R (c j ⊗ barycentric 𝓕 n α j)) (locator R n (but j all) α)

    interpolant_below : (c : ℕ → El) → Below R n (sum (Poly R) n (term c))
    unfolding term
    interpolant_below c =
        sum_below R n n (term c) (λ j k. times_below R n (c j ⊗ barycentric 𝓕 n α j) (locator R n (but j all) α) (basis_below j k))

    -- the interpolant of any values
    pub interpolant_at : (c : ℕ → El) (i : ℕ) → i < n → at R (α i) n (sum (Poly R) n (term c)) ≡ c i
    unfolding term
    interpolant_at c i k =
        sum_at R n (α i) n (term c)
        ∙ sum_single R n i (λ j. at R (α i) n (term c j)) k
        (λ j l ne.
        times_at R (c j ⊗ barycentric 𝓕 n α j) (α i) n (locator R n (but j all) α)
        ∙ ap (λ z. c j ⊗ barycentric 𝓕 n α j ⊗ z)
        (basis_at j i l ∙ prod_zero R n i (but j all) (λ h. α i ⊕ ⊖ α h) k (but_other j all i (λ e. ne (sym e))) (R.add_neg (α i)))
        ∙ L.mul_zero R _)
        ∙ times_at R (c i ⊗ barycentric 𝓕 n α i) (α i) n (locator R n (but i all) α)
        ∙ ap (λ z. c i ⊗ barycentric 𝓕 n α i ⊗ z) (basis_at i i k)
        ∙ ring R (c i ∷ barycentric 𝓕 n α i ∷ prod R n (but i all) (λ h. α i ⊕ ⊖ α h) ∷ []) {x = c i ⊗ barycentric 𝓕 n α i ⊗ prod R n (but i all) (λ h. α i ⊕ ⊖ α h)} {y = c i ⊗ (prod R n (but i all) (λ h. α i ⊕ ⊖ α h) ⊗ barycentric 𝓕 n α i)} (search forms depth 20) tt
        ∙ ap (λ z. c i ⊗ z) (barycentric_inverse i k) ∙ R.mul_one (c i)

    pub lagrange : (p : ℕ → El) → Below R n p
        → p ≡ sum (Poly R) n (λ j. conv R (const R (at R (α j) n p ⊗ barycentric 𝓕 n α j)) (locator R n (but j all) α))
    unfolding term
    lagrange p h =
        L.eq_of_sub (Poly R) p q
        (roots 𝓕 n (padd R p (pneg R q)) α (below_add R n p (pneg R q) h (below_neg R n q (interpolant_below c))) apart
        (λ i k.
        ev_add R R (λ x. x) (id_hom R) (α i) n p (pneg R q)
        ∙ ap (λ z. c i ⊕ z) (neg_at R (α i) n q ∙ ap ⊖◌ (interpolant_at c i k)) ∙ R.add_neg (c i)))
      where
        c : ℕ → El
        c j = at R (α j) n p

        q : ℕ → El
        q = sum (Poly R) n (term c)

  -- the values times their weights sum to the coefficient of x ^ n, of a polynomial with suc n coefficients
  pub weighted_sum : (n : ℕ) (α : ℕ → El) → Distinct R (suc n) α → (p : ℕ → El) → Below R (suc n) p
      → sum R (suc n) (λ j. at R (α j) (suc n) p ⊗ barycentric 𝓕 (suc n) α j) ≡ p n
  weighted_sum n α apart p h =
      sum_cong R (suc n) (λ j. at R (α j) (suc n) p ⊗ barycentric 𝓕 (suc n) α j) (λ j. F j n)
      (λ j k.
      sym (R.mul_one _)
      ∙ ap (λ z. at R (α j) (suc n) p ⊗ barycentric 𝓕 (suc n) α j ⊗ z) (sym (monic j k))
      ∙ sym (const_conv R (at R (α j) (suc n) p ⊗ barycentric 𝓕 (suc n) α j) (locator R (suc n) (but j all) α) n))
      ∙ sym (sum_coefficient R (suc n) F n)
      ∙ ap (λ (f : ℕ → El). f n) (sym (lagrange (suc n) α apart p h))
    where
      F : ℕ → ℕ → El
      F j = conv R (const R (at R (α j) (suc n) p ⊗ barycentric 𝓕 (suc n) α j)) (locator R (suc n) (but j all) α)

      monic : (j : ℕ) → j < suc n → locator R (suc n) (but j all) α n ≡ 𝟙
      monic j k =
          ap (locator R (suc n) (but j all) α)
          (let z : suc (count (suc n) (but j all)) ≡ suc n = count_others (suc n) j k in
          let y : n ≡ count (suc n) (but j all) = omega arith in y)
          ∙ locator_monic R (suc n) (but j all) α

  -- so to zero where the degree is too low
  pub weighted_sum_zero : (n : ℕ) (α : ℕ → El) → Distinct R (suc n) α → (p : ℕ → El) → Below R n p
      → sum R (suc n) (λ j. at R (α j) (suc n) p ⊗ barycentric 𝓕 (suc n) α j) ≡ 𝟘
  weighted_sum_zero n α apart p h =
      weighted_sum n α apart p (below_weaken R n (suc n) p (omega arith) h) ∙ h n (omega arith)
