-- Finite sums of polynomials, and multiples by a constant: their coefficients, bounds and values.
use mathlib.Core.Path.{◌≡◌, refl, sym, ◌∙◌, ap, ap₂, fun_ext}
use mathlib.Core.Logic.{◌≢◌}
use Prim.Native.Nat.{ℕ, zero, suc, ◌≤◌, ◌<◌}
use native.Mathlib.Omega.{arith}
use native.Mathlib.Decide.{ℕ_discrete}
use Rattle.algebra.specs.Ring.{Ring}
use Rattle.algebra.specs.RingLaws as L
use Rattle.algebra.specs.Sums.{sum}
use Rattle.algebra.specs.Poly.{conv, padd, pneg, pzero, const, scale, Below, at}
use Rattle.algebra.specs.PolyRing.{Poly, const_conv}
use Rattle.algebra.proofs.Sums.{sum_zero}
use Rattle.algebra.proofs.Eval.{ev_add, ev_zero, ev_scale}
use Rattle.algebra.proofs.Roots.{id_hom}

module _ (R : Ring) where
  infixl 60 ◌⊕◌
  infixl 70 ◌⊗◌
  infix 80 ⊖◌
  open R use {El, 𝟘, 𝟙, ◌⊕◌, ⊖◌, ◌⊗◌}

  pub zero_coefficient : (i : ℕ) → pzero R i ≡ 𝟘
  unfolding pzero
  zero_coefficient i = refl

  pub const_coefficient : (a : El) → const R a 0 ≡ a
  unfolding const
  const_coefficient a = refl

  -- a sum with one value that is not zero
  pub sum_single : (n i : ℕ) (f : ℕ → El) → i < n → ((j : ℕ) → j < n → j ≢ i → f j ≡ 𝟘) → sum R n f ≡ f i
  unfolding sum
  sum_single zero i f k z = absurd (let y : suc i ≤ 0 = k in omega arith)
  sum_single (suc n) i f k z = go (ℕ_discrete n i) (sum_single n i f)
    where
      go : Dec (n ≡ i) → (i < n → ((j : ℕ) → j < n → j ≢ i → f j ≡ 𝟘) → sum R n f ≡ f i) → sum R n f ⊕ f n ≡ f i
      go (yes e) ih =
          ap₂ ◌⊕◌ (sum_zero R n f (λ j l. z j (omega arith) (omega arith))) (ap f e) ∙ L.zero_add R (f i)
      go (no e) ih =
          ap₂ ◌⊕◌ (ih (omega arith) (λ j l. z j (omega arith))) (z n (omega arith) e) ∙ R.add_zero (f i)

  -- the coefficients of a sum of polynomials
  pub sum_coefficient : (n : ℕ) (F : ℕ → ℕ → El) (i : ℕ) → sum (Poly R) n F i ≡ sum R n (λ j. F j i)
  unfolding sum padd pzero
  sum_coefficient zero F i = refl
  sum_coefficient (suc n) F i = ap (λ z. z ⊕ F n i) (sum_coefficient n F i)

  pub sum_below : (n m : ℕ) (F : ℕ → ℕ → El) → ((j : ℕ) → j < n → Below R m (F j)) → Below R m (sum (Poly R) n F)
  sum_below n m F h i k = sum_coefficient n F i ∙ sum_zero R n (λ j. F j i) (λ j l. h j l i k)

  pub sum_at : (n : ℕ) (c : El) (m : ℕ) (F : ℕ → ℕ → El) → at R c m (sum (Poly R) n F) ≡ sum R n (λ j. at R c m (F j))
  unfolding sum
  sum_at zero c m F = ev_zero R R (λ x. x) (id_hom R) c m
  sum_at (suc n) c m F =
      ev_add R R (λ x. x) (id_hom R) c m (sum (Poly R) n F) (F n) ∙ ap (λ z. z ⊕ at R c m (F n)) (sum_at n c m F)

  times_scale : (a : El) (p : ℕ → El) → conv R (const R a) p ≡ scale R a p
  unfolding scale
  times_scale a p = fun_ext (λ i. const_conv R a p i)

  -- a polynomial times a constant
  pub times_below : (m : ℕ) (a : El) (p : ℕ → El) → Below R m p → Below R m (conv R (const R a) p)
  times_below m a p h i k = const_conv R a p i ∙ ap (λ z. a ⊗ z) (h i k) ∙ L.mul_zero R a

  pub times_at : (a c : El) (m : ℕ) (p : ℕ → El) → at R c m (conv R (const R a) p) ≡ a ⊗ at R c m p
  times_at a c m p = ap (at R c m) (times_scale a p) ∙ ev_scale R R (λ x. x) (id_hom R) c m a p

  pub neg_at : (c : El) (m : ℕ) (p : ℕ → El) → at R c m (pneg R p) ≡ ⊖ at R c m p
  neg_at c m p =
      L.neg_unique R (at R c m p) (at R c m (pneg R p))
      (sym (ev_add R R (λ x. x) (id_hom R) c m p (pneg R p)) ∙ ap (at R c m) ((Poly R).add_neg p)
      ∙ ev_zero R R (λ x. x) (id_hom R) c m)
