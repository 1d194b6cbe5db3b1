-- The coefficients tay of (u + φ) ^ j: where they are zero; the binomial lemma for homogeneous forms (star); they are the coefficients of a shifted
-- polynomial, so that a shift after a shift is one shift; they go through homomorphisms.
use mathlib.Core.Path.{◌≡◌, refl, sym, ◌∙◌, ap, ap₂, fun_ext}
use mathlib.Core.List.{[], ◌∷◌}
use mathlib.Core.Logic.{◌≢◌}
use Prim.Native.Nat.{ℕ, zero, suc, ◌-◌, ◌≤◌, ◌<◌}
use native.Mathlib.Omega.{arith}
use Rattle.algebra.specs.Ring.{Ring, Hom}
use Rattle.algebra.specs.RingLaws as L
use Rattle.algebra.specs.Solve.{ring}
use Rattle.algebra.specs.Sums.{sum, pow}
use Rattle.algebra.specs.Poly.{conv, padd, const, lin, ev}
use Rattle.algebra.specs.PolyRing.{Poly, const_conv}
use Rattle.algebra.specs.PolyForms.{forms}
use Rattle.algebra.specs.Taylor.{shift, tay, taylor, form}
use Rattle.algebra.proofs.Sums.{sum_cong, sum_zero, sum_add, sum_scale, sum_swap, sum_head}
use Rattle.algebra.proofs.Eval.{ev_sum}
use Rattle.algebra.proofs.PolySums.{sum_coefficient}
use Rattle.algebra.proofs.Roots.{lin_conv}
use Rattle.algebra.proofs.Shift.{const_hom, ev_shift}

module _ (R : Ring) where
  infixl 60 ◌⊕◌
  infixl 70 ◌⊗◌
  infix 80 ⊖◌
  open R use {El, 𝟘, 𝟙, ◌⊕◌, ⊖◌, ◌⊗◌}

  pub tay_beyond : (φ : El) (j b : ℕ) → j < b → tay R φ j b ≡ 𝟘
  unfolding tay
  tay_beyond φ zero zero h = absurd (let z : 0 < 0 = h in omega arith)
  tay_beyond φ zero (suc b) h = refl
  tay_beyond φ (suc j) zero h = absurd (let z : suc j < 0 = h in omega arith)
  tay_beyond φ (suc j) (suc b) h =
      ap₂ (λ y z. y ⊕ φ ⊗ z) (tay_beyond φ j b (omega arith)) (tay_beyond φ j (suc b) (omega arith))
      ∙ ring R (φ ∷ []) (search forms depth 20) tt

  -- at 0 the power is that of u alone
  pub tay_same : (j : ℕ) → tay R 𝟘 j j ≡ 𝟙
  unfolding tay
  tay_same zero = refl
  tay_same (suc j) = ap₂ (λ y z. y ⊕ z) (tay_same j) (L.zero_mul R _) ∙ R.add_zero 𝟙

  pub tay_other : (j b : ℕ) → j ≢ b → tay R 𝟘 j b ≡ 𝟘
  unfolding tay
  tay_other zero zero h = absurd (h refl)
  tay_other zero (suc b) h = refl
  tay_other (suc j) zero h = L.zero_mul R _
  tay_other (suc j) (suc b) h = ap₂ (λ y z. y ⊕ z) (tay_other j b (λ e. h (ap suc e))) (L.zero_mul R _) ∙ R.add_zero 𝟘

  pub pow_to : (z : El) (n m : ℕ) → n ≡ suc m → pow R z n ≡ z ⊗ pow R z m
  unfolding pow
  pow_to z n m e = ap (pow R z) e

  -- one power, by the terms w ^ b v ^ (ℓ - b)
  power : (φ v w : El) (ℓ t : ℕ) → t ≤ ℓ
      → pow R (φ ⊗ v ⊕ w) t ⊗ pow R v (ℓ - t) ≡ sum R (suc ℓ) (λ b. tay R φ t b ⊗ (pow R w b ⊗ pow R v (ℓ - b)))
  unfolding pow tay
  power φ v w ℓ zero h =
      sym
      (sum_head R ℓ (λ b. tay R φ 0 b ⊗ (pow R w b ⊗ pow R v (ℓ - b)))
      ∙ ap (λ z. 𝟙 ⊗ (𝟙 ⊗ pow R v (ℓ - 0)) ⊕ z) (sum_zero R ℓ (λ b. 𝟘 ⊗ (pow R w (suc b) ⊗ pow R v (ℓ - suc b))) (λ b _. L.zero_mul R _))
      ∙ ring R (pow R v (ℓ - 0) ∷ []) (search forms depth 20) tt)
  power φ v w zero (suc t) h = absurd (let z : suc t ≤ 0 = h in omega arith)
  power φ v w (suc ℓ) (suc t) h =
      ap (λ z. (φ ⊗ v ⊕ w) ⊗ pow R (φ ⊗ v ⊕ w) t ⊗ pow R v z) (let e : suc ℓ - suc t ≡ ℓ - t = omega arith in e)
      ∙ R.mul_assoc _ _ _
      ∙ ap (λ z. (φ ⊗ v ⊕ w) ⊗ z) (power φ v w ℓ t (omega arith))
      ∙ L.add_mul R (φ ⊗ v) w (sum R (suc ℓ) term)
      ∙ ap₂ ◌⊕◌ left right
      ∙ R.add_assoc _ _ _
      ∙ ap₂ ◌⊕◌ (sym (R.mul_assoc _ _ _))
      (sym (sum_add R (suc ℓ) (λ b. more (suc b)) next)
      ∙ sum_cong R (suc ℓ) (λ b. more (suc b) ⊕ next b) (λ b. tay R φ (suc t) (suc b) ⊗ (pow R w (suc b) ⊗ pow R v (suc ℓ - suc b))) joined)
      ∙ sym (sum_head R (suc ℓ) (λ b. tay R φ (suc t) b ⊗ (pow R w b ⊗ pow R v (suc ℓ - b))))
    where
      term : ℕ → El
      term b = tay R φ t b ⊗ (pow R w b ⊗ pow R v (ℓ - b))

      more : ℕ → El
      more b = φ ⊗ (tay R φ t b ⊗ (pow R w b ⊗ pow R v (suc ℓ - b)))

      next : ℕ → El
      next b = tay R φ t b ⊗ (pow R w (suc b) ⊗ pow R v (ℓ - b))

      left : φ ⊗ v ⊗ sum R (suc ℓ) term ≡ more 0 ⊕ sum R (suc ℓ) (λ b. more (suc b))
      left =
          sym (sum_scale R (suc ℓ) (φ ⊗ v) term)
          ∙ sum_cong R (suc ℓ) (λ b. φ ⊗ v ⊗ term b) more (λ b k.
          ring R (φ ∷ v ∷ tay R φ t b ∷ pow R w b ∷ pow R v (ℓ - b) ∷ []) (search forms depth 20) tt
          ∙ ap (λ z. φ ⊗ (tay R φ t b ⊗ (pow R w b ⊗ z))) (sym (pow_to v (suc ℓ - b) (ℓ - b) (omega arith))))
          ∙ sym (R.add_zero _)
          ∙ ap (λ z. sum R (suc ℓ) more ⊕ z)
          (sym (ap (λ z. φ ⊗ (z ⊗ (pow R w (suc ℓ) ⊗ pow R v (suc ℓ - suc ℓ)))) (tay_beyond φ t (suc ℓ) (omega arith))
          ∙ ring R (φ ∷ pow R w (suc ℓ) ∷ pow R v (suc ℓ - suc ℓ) ∷ []) (search forms depth 20) tt))
          ∙ unfold sum in sum_head R (suc ℓ) more

      right : w ⊗ sum R (suc ℓ) term ≡ sum R (suc ℓ) next
      right =
          sym (sum_scale R (suc ℓ) w term)
          ∙ sum_cong R (suc ℓ) (λ b. w ⊗ term b) next (λ b k.
          ring R (w ∷ tay R φ t b ∷ pow R w b ∷ pow R v (ℓ - b) ∷ []) (search forms depth 20) tt)

      joined : (b : ℕ) → b < suc ℓ
          → more (suc b) ⊕ next b ≡ tay R φ (suc t) (suc b) ⊗ (pow R w (suc b) ⊗ pow R v (suc ℓ - suc b))
      joined b k =
          ap (λ z. more (suc b) ⊕ tay R φ t b ⊗ (pow R w (suc b) ⊗ pow R v z)) (let e : ℓ - b ≡ suc ℓ - suc b = omega arith in e)
          ∙ ring R (φ ∷ tay R φ t b ∷ tay R φ t (suc b) ∷ pow R w (suc b) ∷ pow R v (suc ℓ - suc b) ∷ []) (search forms depth 20) tt

  -- (★) what is put in as φ v + w: the terms of Q at u + φ
  pub star : (φ v w : El) (ℓ : ℕ) (Q : ℕ → El) → form R ℓ Q (φ ⊗ v ⊕ w) v ≡ form R ℓ (taylor R (suc ℓ) φ Q) w v
  unfolding form taylor
  star φ v w ℓ Q =
      sum_cong R (suc ℓ) (λ t. Q t ⊗ (pow R (φ ⊗ v ⊕ w) t ⊗ pow R v (ℓ - t))) (λ t. sum R (suc ℓ) (λ b. tay R φ t b ⊗ Q t ⊗ mono b))
      (λ t k.
      ap (λ z. Q t ⊗ z) (power φ v w ℓ t (omega arith))
      ∙ sym (sum_scale R (suc ℓ) (Q t) (λ b. tay R φ t b ⊗ mono b))
      ∙ sum_cong R (suc ℓ) (λ b. Q t ⊗ (tay R φ t b ⊗ mono b)) (λ b. tay R φ t b ⊗ Q t ⊗ mono b)
      (λ b _. ring R (Q t ∷ tay R φ t b ∷ mono b ∷ []) (search forms depth 20) tt))
      ∙ sum_swap R (suc ℓ) (suc ℓ) (λ t b. tay R φ t b ⊗ Q t ⊗ mono b)
      ∙ sum_cong R (suc ℓ) (λ b. sum R (suc ℓ) (λ t. tay R φ t b ⊗ Q t ⊗ mono b)) (λ b. sum R (suc ℓ) (λ t. tay R φ t b ⊗ Q t) ⊗ mono b)
      (λ b _. sum_right (suc ℓ) (mono b) (λ t. tay R φ t b ⊗ Q t))
    where
      mono : ℕ → El
      mono b = pow R w b ⊗ pow R v (ℓ - b)

      sum_right : (n : ℕ) (a : El) (f : ℕ → El) → sum R n (λ i. f i ⊗ a) ≡ sum R n f ⊗ a
      sum_right n a f =
          sum_cong R n (λ i. f i ⊗ a) (λ i. a ⊗ f i) (λ i _. R.mul_comm _ _) ∙ sum_scale R n a f ∙ R.mul_comm _ _

  -- the powers of x + a
  pow_lin : (a : El) (m i : ℕ) → pow (Poly R) (lin R (⊖ a)) m i ≡ tay R a m i
  unfolding pow const conv lin tay
  pow_lin a zero zero = refl
  pow_lin a zero (suc i) = refl
  pow_lin a (suc m) zero =
      ap (λ z. ⊖ (⊖ a) ⊗ z) (pow_lin a m zero) ∙ ap (λ z. z ⊗ tay R a m zero) (L.neg_neg R a)
  pow_lin a (suc m) (suc i) =
      lin_conv R (⊖ a) (pow (Poly R) (lin R (⊖ a)) m) i
      ∙ ap₂ (λ y z. ⊖ (⊖ a) ⊗ y ⊕ z) (pow_lin a m (suc i)) (pow_lin a m i)
      ∙ ring R (a ∷ tay R a m i ∷ tay R a m (suc i) ∷ []) (search forms depth 20) tt

  -- the coefficients of p (x + a)
  pub shift_taylor : (a : El) (n : ℕ) (p : ℕ → El) (i : ℕ) → shift R a n p i ≡ taylor R n a p i
  unfolding taylor
  shift_taylor a n p i =
      ap (λ (f : ℕ → El). f i) (ev_sum R (Poly R) (const R) (const_hom R) (lin R (⊖ a)) n p)
      ∙ sum_coefficient R n (λ m. conv R (const R (p m)) (pow (Poly R) (lin R (⊖ a)) m)) i
      ∙ sum_cong R n (λ m. conv R (const R (p m)) (pow (Poly R) (lin R (⊖ a)) m) i) (λ m. tay R a m i ⊗ p m)
      (λ m _.
      const_conv R (p m) (pow (Poly R) (lin R (⊖ a)) m) i
      ∙ ap (λ z. p m ⊗ z) (pow_lin a m i) ∙ R.mul_comm _ _)

  pub is_shift : (n : ℕ) (φ : El) (Q : ℕ → El) → taylor R n φ Q ≡ shift R φ n Q
  is_shift n φ Q = fun_ext (λ i. sym (shift_taylor φ n Q i))

  lin_sum : (φ ψ : El) → padd R (lin R (⊖ ψ)) (const R φ) ≡ lin R (⊖ (φ ⊕ ψ))
  unfolding padd lin const
  lin_sum φ ψ =
      fun_ext (elim [ zero ↦ ring R (φ ∷ ψ ∷ []) (search forms depth 20) tt | suc i ↦ R.add_zero _ ])

  -- a shift after a shift
  pub taylor_add : (n : ℕ) (φ ψ : El) (Q : ℕ → El) → taylor R n ψ (taylor R n φ Q) ≡ taylor R n (φ ⊕ ψ) Q
  taylor_add n φ ψ Q =
      ap (taylor R n ψ) (is_shift n φ Q) ∙ is_shift n ψ (shift R φ n Q)
      ∙ ev_shift R (Poly R) (const R) (const_hom R) φ (lin R (⊖ ψ)) n Q
      ∙ ap (λ z. ev (Poly R) (const R) z n Q) (lin_sum φ ψ)
      ∙ sym (is_shift n (φ ⊕ ψ) Q)

-- tay goes through a homomorphism
pub tay_hom : (R S : Ring) (f : R.El → S.El) → Hom R S f → (φ : R.El) (j b : ℕ) → tay S (f φ) j b ≡ f (tay R φ j b)
unfolding tay
tay_hom R S f hom φ zero zero = sym hom.of_one
tay_hom R S f hom φ zero (suc b) = sym hom.of_zero
tay_hom R S f hom φ (suc j) zero = ap (λ z. S.◌⊗◌ (f φ) z) (tay_hom R S f hom φ j zero) ∙ sym (hom.of_mul φ (tay R φ j zero))
tay_hom R S f hom φ (suc j) (suc b) =
    ap₂ (λ y z. S.◌⊕◌ y (S.◌⊗◌ (f φ) z)) (tay_hom R S f hom φ j b) (tay_hom R S f hom φ j (suc b))
    ∙ ap (λ z. S.◌⊕◌ (f (tay R φ j b)) z) (sym (hom.of_mul φ (tay R φ j (suc b))))
    ∙ sym (hom.of_add (tay R φ j b) (R.◌⊗◌ φ (tay R φ j (suc b))))
