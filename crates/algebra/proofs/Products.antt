-- Counts and products over marked places: one place apart, what is zero and what is not; and the polynomials ∏ (x - α h): monic, their degree,
-- their values.
use mathlib.Core.Path.{◌≡◌, refl, sym, ◌∙◌, ap, ap₂, subst}
use mathlib.Core.List.{[], ◌∷◌}
use mathlib.Core.Bool.{Bool, true, false, cond}
use mathlib.Core.Logic.{◌≢◌}
use Prim.Native.Nat.{ℕ, zero, suc, ◌+◌, ◌≤◌, ◌<◌}
use native.Mathlib.Omega.{arith}
use native.Mathlib.Decide.{ℕ_discrete}
use lib.Dec.{T, eqb, eqb→eq, eqb_refl}
use Rattle.algebra.specs.Ring.{Ring}
use Rattle.algebra.specs.RingLaws as L
use Rattle.algebra.specs.Solve.{ring}
use Rattle.algebra.specs.Field.{Field}
use Rattle.algebra.specs.Sums.{but, count, prod}
use Rattle.algebra.specs.Poly.{const, lin, Below, at}
use Rattle.algebra.specs.PolyForms.{forms}
use Rattle.algebra.specs.Lagrange.{locator}
use Rattle.algebra.proofs.Eval.{below_const, below_conv, lead_conv, ev_more, ev_conv}
use Rattle.algebra.proofs.Roots.{id_hom, lin_below, ev_lin, no_divisors}
use Rattle.algebra.proofs.Shift.{ev_const}

pub but_same : (j : ℕ) (b : ℕ → Bool) → but j b j ≡ false
but_same j b = go (eqb j j) (eqb_refl j)
  where
    go : (t : Bool) → T t → cond t false (b j) ≡ false
    go true k = refl
    go false k = absurd k

pub but_other : (j : ℕ) (b : ℕ → Bool) (h : ℕ) → h ≢ j → but j b h ≡ b h
but_other j b h ne = go (eqb h j) refl
  where
    go : (t : Bool) → eqb h j ≡ t → cond t false (b h) ≡ b h
    go true e = absurd (ne (eqb→eq h j (subst T (sym e) tt)))
    go false e = refl

pub but_marked : (j : ℕ) (b : ℕ → Bool) (h : ℕ) → but j b h ≡ true → (h ≢ j) × (b h ≡ true)
but_marked j b h m = (apart, sym (but_other j b h apart) ∙ m)
  where
    apart : h ≢ j
    apart e = subst T (sym m ∙ ap (but j b) e ∙ but_same j b) tt

pub count_cong : (n : ℕ) (b c : ℕ → Bool) → ((h : ℕ) → h < n → b h ≡ c h) → count n b ≡ count n c
unfolding count
count_cong zero b c e = refl
count_cong (suc n) b c e =
    ap₂ (λ x t. x + cond t 1 0) (count_cong n b c (λ h k. e h (omega arith))) (e n (omega arith))

count_step : (n : ℕ) (b : ℕ → Bool) (t : Bool) → b n ≡ t → count (suc n) b ≡ count n b + cond t 1 0
unfolding count
count_step n b t e = ap (λ z. count n b + cond z 1 0) e

-- one marked place less
pub count_but : (n j : ℕ) (b : ℕ → Bool) → j < n → b j ≡ true → count n b ≡ suc (count n (but j b))
count_but zero j b k m = absurd (let z : suc j ≤ 0 = k in omega arith)
count_but (suc n) j b k m = go (ℕ_discrete n j) (count_but n j b)
  where
    go : Dec (n ≡ j) → (j < n → b j ≡ true → count n b ≡ suc (count n (but j b))) → count (suc n) b ≡ suc (count (suc n) (but j b))
    go (yes e) ih =
        let s : count (suc n) b ≡ count n b + 1 = count_step n b true (ap b e ∙ m) in
        let t : count (suc n) (but j b) ≡ count n (but j b) + 0 =
        count_step n (but j b) false (ap (but j b) e ∙ but_same j b) in
        let u : count n (but j b) ≡ count n b =
        count_cong n (but j b) b (λ h l. but_other j b h (omega arith)) in
        omega arith
    go (no e) ih =
        let s : count (suc n) (but j b) ≡ count n (but j b) + cond (b n) 1 0 = count_step n (but j b) (b n) (but_other j b n e) in
        let t : count (suc n) b ≡ count n b + cond (b n) 1 0 = count_step n b (b n) refl in
        let u : count n b ≡ suc (count n (but j b)) = ih (omega arith) m in
        omega arith

module _ (R : Ring) where
  infixl 60 ◌⊕◌
  infixl 70 ◌⊗◌
  infix 80 ⊖◌
  open R use {El, 𝟘, 𝟙, ◌⊕◌, ⊖◌, ◌⊗◌}

  prod_cong : (n : ℕ) (b c : ℕ → Bool) (f : ℕ → El) → ((h : ℕ) → h < n → b h ≡ c h) → prod R n b f ≡ prod R n c f
  unfolding prod
  prod_cong zero b c f e = refl
  prod_cong (suc n) b c f e =
      ap₂ (λ x t. x ⊗ cond t (f n) 𝟙) (prod_cong n b c f (λ h k. e h (omega arith))) (e n (omega arith))

  prod_step : (n : ℕ) (b : ℕ → Bool) (f : ℕ → El) (t : Bool) → b n ≡ t → prod R (suc n) b f ≡ prod R n b f ⊗ cond t (f n) 𝟙
  unfolding prod
  prod_step n b f t e = ap (λ z. prod R n b f ⊗ cond z (f n) 𝟙) e

  -- one factor apart
  pub prod_but : (n j : ℕ) (b : ℕ → Bool) (f : ℕ → El) → j < n → b j ≡ true → prod R n b f ≡ f j ⊗ prod R n (but j b) f
  prod_but zero j b f k m = absurd (let z : suc j ≤ 0 = k in omega arith)
  prod_but (suc n) j b f k m = go (ℕ_discrete n j) (prod_but n j b f)
    where
      go : Dec (n ≡ j) → (j < n → b j ≡ true → prod R n b f ≡ f j ⊗ prod R n (but j b) f)
          → prod R (suc n) b f ≡ f j ⊗ prod R (suc n) (but j b) f
      go (yes e) ih =
          prod_step n b f true (ap b e ∙ m)
          ∙ ap₂ ◌⊗◌ (sym (prod_cong n (but j b) b f (λ h l. but_other j b h (omega arith)))) (ap f e)
          ∙ ring R (prod R n (but j b) f ∷ f j ∷ []) (search forms depth 20) tt
          ∙ ap (λ z. f j ⊗ z) (sym (prod_step n (but j b) f false (ap (but j b) e ∙ but_same j b)))
      go (no e) ih =
          prod_step n b f (b n) refl
          ∙ ap (λ z. z ⊗ cond (b n) (f n) 𝟙) (ih (omega arith) m)
          ∙ R.mul_assoc _ _ _
          ∙ ap (λ z. f j ⊗ z) (sym (prod_step n (but j b) f (b n) (but_other j b n e)))

  pub prod_zero : (n j : ℕ) (b : ℕ → Bool) (f : ℕ → El) → j < n → b j ≡ true → f j ≡ 𝟘 → prod R n b f ≡ 𝟘
  prod_zero n j b f k m e =
      prod_but n j b f k m ∙ ap (λ z. z ⊗ prod R n (but j b) f) e ∙ L.zero_mul R _

  factor_below : (t : Bool) (a : El) → Below R (suc (cond t 1 0)) (cond t (lin R a) (const R 𝟙))
  factor_below true a = lin_below R a
  factor_below false a = below_const R 𝟙

  factor_monic : (t : Bool) (a : El) → cond t (lin R a) (const R 𝟙) (cond t 1 0) ≡ 𝟙
  unfolding lin const
  factor_monic true a = refl
  factor_monic false a = refl

  factor_at : (t : Bool) (a c : El) → at R c (suc (cond t 1 0)) (cond t (lin R a) (const R 𝟙)) ≡ cond t (c ⊕ ⊖ a) 𝟙
  factor_at true a c = ev_lin R a c
  factor_at false a c = ev_const R R (λ x. x) (id_hom R) 𝟙 c 0

  -- ∏ (x - α h) is monic, of as high a degree as there are factors
  pub locator_below : (n : ℕ) (b : ℕ → Bool) (α : ℕ → El) → Below R (suc (count n b)) (locator R n b α)
  unfolding prod count
  locator_below zero b α i k = below_const R 𝟙 i k
  locator_below (suc n) b α i k =
      below_conv R (suc (count n b)) (suc (cond (b n) 1 0)) (locator R n b α) (cond (b n) (lin R (α n)) (const R 𝟙))
      (locator_below n b α) (factor_below (b n) (α n)) i (omega arith)

  pub locator_monic : (n : ℕ) (b : ℕ → Bool) (α : ℕ → El) → locator R n b α (count n b) ≡ 𝟙
  unfolding prod count
  locator_monic zero b α = unfold const in refl
  locator_monic (suc n) b α =
      lead_conv R (count n b) (cond (b n) 1 0) (locator R n b α) (cond (b n) (lin R (α n)) (const R 𝟙))
      (locator_below n b α) (factor_below (b n) (α n))
      ∙ ap₂ ◌⊗◌ (locator_monic n b α) (factor_monic (b n) (α n)) ∙ R.mul_one 𝟙

  -- its value
  pub locator_at : (n : ℕ) (b : ℕ → Bool) (α : ℕ → El) (c : El) (m : ℕ) → suc (count n b) ≤ m
      → at R c m (locator R n b α) ≡ prod R n b (λ h. c ⊕ ⊖ α h)
  unfolding prod count
  locator_at zero b α c m l =
      ev_more R R (λ x. x) (id_hom R) c 1 m (const R 𝟙) (below_const R 𝟙) (omega arith)
      ∙ ev_const R R (λ x. x) (id_hom R) 𝟙 c 0
  locator_at (suc n) b α c m l =
      let k : ℕ = suc (count n b) in
      let t : ℕ = suc (cond (b n) 1 0) in
      ev_more R R (λ x. x) (id_hom R) c (suc (count n b + cond (b n) 1 0)) m (locator R (suc n) b α)
      (locator_below (suc n) b α) (omega arith)
      ∙ sym (ev_more R R (λ x. x) (id_hom R) c (suc (count n b + cond (b n) 1 0)) (k + t) (locator R (suc n) b α)
      (locator_below (suc n) b α) (omega arith))
      ∙ ev_conv R R (λ x. x) (id_hom R) c k t (k + t) (locator R n b α) (cond (b n) (lin R (α n)) (const R 𝟙))
      (locator_below n b α) (factor_below (b n) (α n)) (omega arith)
      ∙ ap₂ ◌⊗◌ (locator_at n b α c k (omega arith)) (factor_at (b n) (α n) c)

module _ (𝓕 : Field) where
  infixl 60 ◌⊕◌
  infixl 70 ◌⊗◌
  infix 80 ⊖◌
  abbrev R : Ring
  R = 𝓕.ring

  open 𝓕.ring use {El, 𝟘, 𝟙, ◌⊕◌, ⊖◌, ◌⊗◌}

  pub prod_nonzero : (n : ℕ) (b : ℕ → Bool) (f : ℕ → El) → ((h : ℕ) → h < n → b h ≡ true → f h ≢ 𝟘) → prod R n b f ≢ 𝟘
  unfolding prod
  prod_nonzero zero b f nz e = 𝓕.one≢zero e
  prod_nonzero (suc n) b f nz e =
      last (b n) refl (no_divisors 𝓕 (prod R n b f) (cond (b n) (f n) 𝟙) e (prod_nonzero n b f (λ h k. nz h (omega arith))))
    where
      last : (t : Bool) → b n ≡ t → cond t (f n) 𝟙 ≢ 𝟘
      last true m z = nz n (omega arith) m z
      last false m z = 𝓕.one≢zero z
