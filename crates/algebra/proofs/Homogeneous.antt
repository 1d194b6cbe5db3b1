-- Homogeneous forms Q (y, z) = Σ_t Q_t y ^ t z ^ (ℓ - t): y and z change places, a common factor, Horner's rule; division by a y - b z; and
-- that a form of degree ℓ other than zero has ℓ roots at most, no two of them in the same proportion.
use mathlib.Core.Path.{◌≡◌, sym, ◌∙◌, ap, ap₂}
use mathlib.Core.List.{[], ◌∷◌}
use mathlib.Core.Logic.{◌≢◌, ◌⊎◌, inl, inr}
use Prim.Native.Nat.{ℕ, zero, suc, ◌-◌, ◌≤◌, ◌<◌}
use native.Mathlib.Decide.{dec_lt}
use native.Mathlib.Omega.{arith}
use Rattle.algebra.specs.Ring.{Ring}
use Rattle.algebra.specs.RingLaws as L
use Rattle.algebra.specs.Solve.{ring}
use Rattle.algebra.specs.Field.{Field}
use Rattle.algebra.specs.Sums.{sum, pow}
use Rattle.algebra.specs.Poly.{conv, pzero, ev, tail, cons, Bounded}
use Rattle.algebra.specs.PolyRing.{Poly}
use Rattle.algebra.specs.PolyForms.{forms}
use Rattle.algebra.specs.Taylor.{form, hom}
use Rattle.algebra.proofs.Sums.{sum_cong, sum_head, sum_scale, sum_reverse}
use Rattle.algebra.proofs.Taylor.{pow_to}
use Rattle.algebra.proofs.Eval.{ev_sum}
use Rattle.algebra.proofs.Roots.{id_hom}
use Rattle.algebra.proofs.Bounded.{bounded_zero, bounded_const, bounded_add, bounded_neg, bounded_conv, decide_zero, cancel, one≢zero_poly}

module _ (S : Ring) where
  infixl 60 ◌⊕◌
  infixl 70 ◌⊗◌
  infix 80 ⊖◌
  open S use {El, 𝟘, 𝟙, ◌⊕◌, ⊖◌, ◌⊗◌}

  -- powers of products, and products of powers
  pub pow_mul : (a b : El) (n : ℕ) → pow S (a ⊗ b) n ≡ pow S a n ⊗ pow S b n
  unfolding pow
  pow_mul a b zero = sym (S.mul_one 𝟙)
  pow_mul a b (suc n) =
      ap (λ z. a ⊗ b ⊗ z) (pow_mul a b n) ∙ ring S (a ∷ b ∷ pow S a n ∷ pow S b n ∷ []) (search forms depth 20) tt

  pub pow_split : (f : El) (b ℓ : ℕ) → b ≤ ℓ → pow S f b ⊗ pow S f (ℓ - b) ≡ pow S f ℓ
  unfolding pow
  pow_split f zero ℓ h = L.one_mul S (pow S f (ℓ - 0)) ∙ ap (pow S f) (omega arith)
  pow_split f (suc b) ℓ h =
      ring S (f ∷ pow S f b ∷ pow S f (ℓ - suc b) ∷ []) (search forms depth 20) tt
      ∙ ap (λ z. pow S f b ⊗ z) (sym (pow_to S f (ℓ - b) (ℓ - suc b) (omega arith)))
      ∙ pow_split f b ℓ (omega arith)

  -- the two variables change places
  pub form_swap : (ℓ : ℕ) (Q : ℕ → El) (y z : El) → form S ℓ (λ t. Q (ℓ - t)) z y ≡ form S ℓ Q y z
  unfolding form
  form_swap ℓ Q y z =
      sum_cong S (suc ℓ) (λ t. Q (ℓ - t) ⊗ (pow S z t ⊗ pow S y (ℓ - t))) (λ t. term (suc ℓ - suc t))
      (λ t k.
      let e : suc ℓ - suc t ≡ ℓ - t = omega arith in
      let f : ℓ - (ℓ - t) ≡ t = omega arith in
      ap (λ x. Q (ℓ - t) ⊗ x) (S.mul_comm _ _)
      ∙ ap (λ j. Q (ℓ - t) ⊗ (pow S y (ℓ - t) ⊗ pow S z j)) (sym f)
      ∙ ap term (sym e))
      ∙ sum_reverse S (suc ℓ) term
    where
      term : ℕ → El
      term t = Q t ⊗ (pow S y t ⊗ pow S z (ℓ - t))

  -- a common factor of y and z
  regroup : (Q a b c d : El) → Q ⊗ (a ⊗ b ⊗ (c ⊗ d)) ≡ a ⊗ c ⊗ (Q ⊗ (b ⊗ d))
  regroup Q a b c d = ring S (Q ∷ a ∷ b ∷ c ∷ d ∷ []) (search forms depth 20) tt

  pub form_scale : (ℓ : ℕ) (Q : ℕ → El) (c y z : El) → form S ℓ Q (c ⊗ y) (c ⊗ z) ≡ pow S c ℓ ⊗ form S ℓ Q y z
  unfolding form
  form_scale ℓ Q c y z =
      sum_cong S (suc ℓ) (λ t. Q t ⊗ (pow S (c ⊗ y) t ⊗ pow S (c ⊗ z) (ℓ - t))) (λ t. pow S c ℓ ⊗ (Q t ⊗ (pow S y t ⊗ pow S z (ℓ - t))))
      (λ t k.
      ap₂ (λ u v. Q t ⊗ (u ⊗ v)) (pow_mul c y t) (pow_mul c z (ℓ - t))
      ∙ regroup (Q t) (pow S c t) (pow S y t) (pow S c (ℓ - t)) (pow S z (ℓ - t))
      ∙ ap (λ u. u ⊗ (Q t ⊗ (pow S y t ⊗ pow S z (ℓ - t)))) (pow_split c t ℓ (omega arith)))
      ∙ sum_scale S (suc ℓ) (pow S c ℓ) (λ t. Q t ⊗ (pow S y t ⊗ pow S z (ℓ - t)))

  collect : (T a b c : El) → T ⊗ (a ⊗ b ⊗ c) ≡ b ⊗ c ⊗ (T ⊗ a)
  collect T a b c = ring S (T ∷ a ∷ b ∷ c ∷ []) (search forms depth 20) tt

  -- at (e f, f) a homogeneous polynomial is f ^ ℓ times the value at e
  pub form_scaled : (ℓ : ℕ) (τ : ℕ → El) (e f : El) → form S ℓ τ (e ⊗ f) f ≡ pow S f ℓ ⊗ ev S (λ x. x) e (suc ℓ) τ
  unfolding form
  form_scaled ℓ τ e f =
      sum_cong S (suc ℓ) (λ b. τ b ⊗ (pow S (e ⊗ f) b ⊗ pow S f (ℓ - b))) (λ b. pow S f ℓ ⊗ (τ b ⊗ pow S e b))
      (λ b k.
      ap (λ z. τ b ⊗ (z ⊗ pow S f (ℓ - b))) (pow_mul e f b)
      ∙ collect (τ b) (pow S e b) (pow S f b) (pow S f (ℓ - b))
      ∙ ap (λ z. z ⊗ (τ b ⊗ pow S e b)) (pow_split f b ℓ (omega arith)))
      ∙ sum_scale S (suc ℓ) (pow S f ℓ) (λ b. τ b ⊗ pow S e b)
      ∙ ap (λ z. pow S f ℓ ⊗ z) (sym (ev_sum S S (λ x. x) (id_hom S) e (suc ℓ) τ))

  pub hom_form : (ℓ : ℕ) (Q : ℕ → El) (y z : El) → form S ℓ Q y z ≡ hom S (suc ℓ) Q y z
  unfolding form hom pow sum
  hom_form zero Q y z = ring S (Q 0 ∷ y ∷ []) (search forms depth 20) tt
  hom_form (suc ℓ) Q y z =
      sum_head S (suc ℓ) (λ t. Q t ⊗ (pow S y t ⊗ pow S z (suc ℓ - t)))
      ∙ ap₂ ◌⊕◌ (ap (λ k. Q 0 ⊗ k) (L.one_mul S _ ∙ ap (pow S z) (let e : suc ℓ - 0 ≡ suc ℓ = omega arith in e)))
      (sum_cong S (suc ℓ) (λ t. Q (suc t) ⊗ (y ⊗ pow S y t ⊗ pow S z (suc ℓ - suc t)))
      (λ t. y ⊗ (Q (suc t) ⊗ (pow S y t ⊗ pow S z (ℓ - t))))
      (λ t k.
      ap (λ j. Q (suc t) ⊗ (y ⊗ pow S y t ⊗ pow S z j)) (let e : suc ℓ - suc t ≡ ℓ - t = omega arith in e)
      ∙ ring S (Q (suc t) ∷ y ∷ pow S y t ∷ pow S z (ℓ - t) ∷ []) (search forms depth 20) tt)
      ∙ sum_scale S (suc ℓ) y (λ t. Q (suc t) ⊗ (pow S y t ⊗ pow S z (ℓ - t)))
      ∙ ap (λ k. y ⊗ k) (hom_form ℓ (tail Q) y z))

  hom_scale : (n : ℕ) (a : El) (Q : ℕ → El) (y z : El) → hom S n (λ t. a ⊗ Q t) y z ≡ a ⊗ hom S n Q y z
  unfolding hom
  hom_scale zero a Q y z = sym (L.mul_zero S a)
  hom_scale (suc n) a Q y z =
      ap (λ k. a ⊗ Q 0 ⊗ pow S z n ⊕ y ⊗ k) (hom_scale n a (tail Q) y z)
      ∙ ring S (a ∷ Q 0 ∷ pow S z n ∷ y ∷ hom S n (tail Q) y z ∷ []) (search forms depth 20) tt

  -- the last coefficient apart
  hom_last : (n : ℕ) (Q : ℕ → El) (y z : El) → hom S (suc n) Q y z ≡ z ⊗ hom S n Q y z ⊕ Q n ⊗ pow S y n
  unfolding hom pow
  hom_last zero Q y z = ring S (Q 0 ∷ y ∷ z ∷ []) (search forms depth 20) tt
  hom_last (suc n) Q y z =
      ap (λ k. Q 0 ⊗ (z ⊗ pow S z n) ⊕ y ⊗ k) (hom_last n (tail Q) y z)
      ∙ ring S (Q 0 ∷ Q (suc n) ∷ y ∷ z ∷ pow S z n ∷ pow S y n ∷ hom S n (tail Q) y z ∷ []) (search forms depth 20) tt

  -- the quotient of a ^ n Q by a y - b z
  unfoldable quo : El → El → ℕ → (ℕ → El) → ℕ → El
  quo a b zero Q t = 𝟘
  quo a b (suc n) Q t = cons (hom S (suc n) (tail Q) b a) (λ j. a ⊗ quo a b n (tail Q) j) t

  divide_step : (a b q A Z F V G y z : El) → A ⊗ F ≡ (a ⊗ y ⊕ ⊖ (b ⊗ z)) ⊗ G ⊕ Z ⊗ V
      → a ⊗ A ⊗ (q ⊗ (z ⊗ Z) ⊕ y ⊗ F) ≡ (a ⊗ y ⊕ ⊖ (b ⊗ z)) ⊗ (V ⊗ Z ⊕ y ⊗ (a ⊗ G)) ⊕ z ⊗ Z ⊗ (q ⊗ (a ⊗ A) ⊕ b ⊗ V)
  divide_step a b q A Z F V G y z e =
      L.from_eq S (a ⊗ y) e (ring S (a ∷ b ∷ q ∷ A ∷ Z ∷ F ∷ V ∷ G ∷ y ∷ z ∷ []) (search forms depth 20) tt)

  divide : (a b : El) (n : ℕ) (Q : ℕ → El) (y z : El)
      → pow S a n ⊗ hom S (suc n) Q y z
      ≡ (a ⊗ y ⊕ ⊖ (b ⊗ z)) ⊗ hom S n (quo a b n Q) y z ⊕ pow S z n ⊗ hom S (suc n) Q b a
  unfolding hom pow quo
  divide a b zero Q y z = ring S (Q 0 ∷ y ∷ z ∷ a ∷ b ∷ []) (search forms depth 20) tt
  divide a b (suc n) Q y z =
      let A : El = pow S a n in
      let Z : El = pow S z n in
      let F : El = hom S (suc n) (tail Q) y z in
      let V : El = hom S (suc n) (tail Q) b a in
      let G : El = hom S n (quo a b n (tail Q)) y z in
      divide_step a b (Q 0) A Z F V G y z (divide a b n (tail Q) y z)
      ∙ ap (λ k. (a ⊗ y ⊕ ⊖ (b ⊗ z)) ⊗ (V ⊗ Z ⊕ y ⊗ k) ⊕ z ⊗ Z ⊗ (Q 0 ⊗ (a ⊗ A) ⊕ b ⊗ V))
      (sym (hom_scale n a (quo a b n (tail Q)) y z))

-- elements of a ring among which no product is zero unless a factor is
pub record Domain (S : Ring) (B : S.El → Type 0) : Type 0 where
  pub has_zero : B S.𝟘
  pub has_one : B S.𝟙
  pub has_add : {a b : S.El} → B a → B b → B (S.◌⊕◌ a b)
  pub has_neg : {a : S.El} → B a → B (S.⊖◌ a)
  pub has_mul : {a b : S.El} → B a → B b → B (S.◌⊗◌ a b)
  pub one_nonzero : S.𝟙 ≢ S.𝟘
  pub cancels : (a b : S.El) → B a → B b → S.◌⊗◌ a b ≡ S.𝟘 → a ≢ S.𝟘 → b ≡ S.𝟘
  pub decides : (a : S.El) → B a → (a ≡ S.𝟘) ⊎ (a ≢ S.𝟘)

module _ (S : Ring) (B : S.El → Type 0) (dom : Domain S B) where
  infixl 60 ◌⊕◌
  infixl 70 ◌⊗◌
  infix 80 ⊖◌
  open S use {El, 𝟘, 𝟙, ◌⊕◌, ⊖◌, ◌⊗◌}

  has_pow : {a : El} → B a → (n : ℕ) → B (pow S a n)
  unfolding pow
  has_pow h zero = dom.has_one
  has_pow h (suc n) = dom.has_mul h (has_pow h n)

  has_hom : (n : ℕ) (Q : ℕ → El) {y z : El} → ((t : ℕ) → t < n → B (Q t)) → B y → B z → B (hom S n Q y z)
  unfolding hom
  has_hom zero Q hQ hy hz = dom.has_zero
  has_hom (suc n) Q hQ hy hz =
      dom.has_add (dom.has_mul (hQ 0 (omega arith)) (has_pow hz n))
      (dom.has_mul hy (has_hom n (tail Q) (λ t k. hQ (suc t) (omega arith)) hy hz))

  has_quo : (n : ℕ) (Q : ℕ → El) {a b : El} → ((t : ℕ) → t < suc n → B (Q t)) → B a → B b → (t : ℕ) → B (quo S a b n Q t)
  unfolding quo
  has_quo zero Q hQ ha hb t = dom.has_zero
  has_quo (suc n) Q hQ ha hb zero = has_hom (suc n) (tail Q) (λ t k. hQ (suc t) (omega arith)) hb ha
  has_quo (suc n) Q hQ ha hb (suc t) = dom.has_mul ha (has_quo n (tail Q) (λ j k. hQ (suc j) (omega arith)) ha hb t)

  pow_nonzero : (a : El) → B a → a ≢ 𝟘 → (n : ℕ) → pow S a n ≢ 𝟘
  unfolding pow
  pow_nonzero a h k zero e = dom.one_nonzero e
  pow_nonzero a h k (suc n) e = pow_nonzero a h k n (dom.cancels a (pow S a n) h (has_pow h n) e k)

  hom_one : (Q : ℕ → El) (y z : El) → hom S 1 Q y z ≡ Q 0
  unfolding hom pow
  hom_one Q y z = ring S (Q 0 ∷ y ∷ []) (search forms depth 20) tt

  -- where the quotient and the value at the root are zero, all is
  recover : (a b : El) → B a → B b → a ≢ 𝟘 → (n : ℕ) (Q : ℕ → El) → ((t : ℕ) → t < suc n → B (Q t))
      → ((t : ℕ) → t < n → quo S a b n Q t ≡ 𝟘) → hom S (suc n) Q b a ≡ 𝟘 → (t : ℕ) → t < suc n → Q t ≡ 𝟘
  recover a b ha hb k zero Q hQ q v zero l = sym (hom_one Q b a) ∙ v
  recover a b ha hb k zero Q hQ q v (suc t) l = absurd (let z : suc t < 1 = l in omega arith)
  recover a b ha hb k (suc n) Q hQ q v zero l =
      let V : El = hom S (suc n) (tail Q) b a in
      let z : V ≡ 𝟘 = unfold quo in q 0 (omega arith) in
      dom.cancels (pow S a (suc n)) (Q 0) (has_pow ha (suc n)) (hQ 0 l)
      (S.mul_comm (pow S a (suc n)) (Q 0) ∙ sym (S.add_zero _)
      ∙ ap (λ y. Q 0 ⊗ pow S a (suc n) ⊕ y) (sym (L.mul_zero S b) ∙ ap (λ y. b ⊗ y) (sym z)) ∙ (unfold hom in v))
      (pow_nonzero a ha k (suc n))
  recover a b ha hb k (suc n) Q hQ q v (suc t) l =
      recover a b ha hb k n (tail Q) (λ j i. hQ (suc j) (omega arith))
      (λ j i.
      dom.cancels a (quo S a b n (tail Q) j) ha (has_quo n (tail Q) (λ c d. hQ (suc c) (omega arith)) ha hb j)
      (unfold quo in q (suc j) (omega arith)) k)
      (unfold quo in q 0 (omega arith)) t (omega arith)

  -- n coefficients, and n roots: zero
  pub few : (n : ℕ) (Q f1 f2 : ℕ → El) → ((t : ℕ) → t < n → B (Q t)) → ((i : ℕ) → i < n → B (f1 i)) → ((i : ℕ) → i < n → B (f2 i))
      → ((i j : ℕ) → i < j → j < n → f1 i ⊗ f2 j ≢ f2 i ⊗ f1 j)
      → ((i : ℕ) → i < n → hom S n Q (f2 i) (f1 i) ≡ 𝟘) → (t : ℕ) → t < n → Q t ≡ 𝟘
  few zero Q f1 f2 hQ h1 h2 apart root t l = absurd (let z : t < 0 = l in omega arith)
  few (suc zero) Q f1 f2 hQ h1 h2 apart root zero l = sym (hom_one Q (f2 0) (f1 0)) ∙ root 0 l
  few (suc zero) Q f1 f2 hQ h1 h2 apart root (suc t) l = absurd (let z : suc t < 1 = l in omega arith)
  few (suc (suc n)) Q f1 f2 hQ h1 h2 apart root t l =
      go (dom.decides a ha)
      (λ R hR v. few (suc n) R f1 f2 hR (λ i u. h1 i (omega arith)) (λ i u. h2 i (omega arith)) (λ i j u u'. apart i j u (omega arith)) v)
    where
      m : ℕ
      m = suc n

      a : El
      a = f1 (suc n)

      b : El
      b = f2 (suc n)

      ha : B a
      ha = h1 (suc n) (omega arith)

      hb : B b
      hb = h2 (suc n) (omega arith)

      -- a = 0: the last coefficient is zero, and z is a factor
      nonzero : a ≡ 𝟘 → b ≢ 𝟘
      nonzero z e =
          apart 0 (suc n) (omega arith) (omega arith)
          (ap (λ y. f1 0 ⊗ y) e ∙ L.mul_zero S (f1 0) ∙ sym (L.mul_zero S (f2 0)) ∙ ap (λ y. f2 0 ⊗ y) (sym z))

      last : a ≡ 𝟘 → Q (suc n) ≡ 𝟘
      last z =
          dom.cancels (pow S b (suc n)) (Q (suc n)) (has_pow hb (suc n)) (hQ (suc n) (omega arith))
          (S.mul_comm (pow S b (suc n)) (Q (suc n)) ∙ sym (L.zero_add S _)
          ∙ ap (λ y. y ⊕ Q (suc n) ⊗ pow S b (suc n)) (sym (L.zero_mul S (hom S (suc n) Q b a)) ∙ ap (λ y. y ⊗ hom S (suc n) Q b a) (sym z))
          ∙ sym (hom_last S (suc n) Q b a) ∙ root (suc n) (omega arith))
          (pow_nonzero b hb (nonzero z) (suc n))

      first_nonzero : a ≡ 𝟘 → (i : ℕ) → i < suc n → f1 i ≢ 𝟘
      first_nonzero z i u e =
          apart i (suc n) u (omega arith)
          (ap (λ y. y ⊗ b) e ∙ L.zero_mul S b ∙ sym (L.mul_zero S (f2 i)) ∙ ap (λ y. f2 i ⊗ y) (sym z))

      shorter : a ≡ 𝟘 → (i : ℕ) → i < suc n → hom S (suc n) Q (f2 i) (f1 i) ≡ 𝟘
      shorter z i u =
          dom.cancels (f1 i) (hom S (suc n) Q (f2 i) (f1 i)) (h1 i (omega arith))
          (has_hom (suc n) Q (λ j v. hQ j (omega arith)) (h2 i (omega arith)) (h1 i (omega arith)))
          (sym (S.add_zero _)
          ∙ ap (λ y. f1 i ⊗ hom S (suc n) Q (f2 i) (f1 i) ⊕ y) (sym (L.zero_mul S (pow S (f2 i) (suc n))) ∙ ap (λ y. y ⊗ pow S (f2 i) (suc n)) (sym (last z)))
          ∙ sym (hom_last S (suc n) Q (f2 i) (f1 i)) ∙ root i (omega arith))
          (first_nonzero z i u)

      -- a is not zero: the quotient has the other roots
      X : ℕ → El
      X i = a ⊗ f2 i ⊕ ⊖ (b ⊗ f1 i)

      X_nonzero : (i : ℕ) → i < suc n → X i ≢ 𝟘
      X_nonzero i u e =
          apart i (suc n) u (omega arith)
          (S.mul_comm (f1 i) b ∙ sym (L.eq_of_sub S (a ⊗ f2 i) (b ⊗ f1 i) e) ∙ S.mul_comm a (f2 i))

      quotient : (i : ℕ) → i < suc n → hom S (suc n) (quo S a b (suc n) Q) (f2 i) (f1 i) ≡ 𝟘
      quotient i u =
          let H : El = hom S (suc n) (quo S a b (suc n) Q) (f2 i) (f1 i) in
          dom.cancels (X i) H
          (dom.has_add (dom.has_mul ha (h2 i (omega arith))) (dom.has_neg (dom.has_mul hb (h1 i (omega arith)))))
          (has_hom (suc n) (quo S a b (suc n) Q) (λ j v. has_quo (suc n) Q hQ ha hb j) (h2 i (omega arith)) (h1 i (omega arith)))
          (sym (S.add_zero _)
          ∙ ap (λ y. X i ⊗ H ⊕ y) (sym (L.mul_zero S (pow S (f1 i) (suc n))) ∙ ap (λ y. pow S (f1 i) (suc n) ⊗ y) (sym (root (suc n) (omega arith))))
          ∙ sym (divide S a b (suc n) Q (f2 i) (f1 i))
          ∙ ap (λ y. pow S a (suc n) ⊗ y) (root i (omega arith)) ∙ L.mul_zero S _)
          (X_nonzero i u)

      go : (a ≡ 𝟘) ⊎ (a ≢ 𝟘)
          → ((R : ℕ → El) → ((j : ℕ) → j < suc n → B (R j)) → ((i : ℕ) → i < suc n → hom S (suc n) R (f2 i) (f1 i) ≡ 𝟘)
          → (j : ℕ) → j < suc n → R j ≡ 𝟘)
          → Q t ≡ 𝟘
      go (inl z) ih =
          elim (dec_lt t (suc n)) [
            | yes u ↦ ih Q (λ j v. hQ j (omega arith)) (shorter z) t u
            | no u ↦ ap Q (let e : t ≡ suc n = omega arith in e) ∙ last z
          ]
      go (inr k) ih =
          recover a b ha hb k (suc n) Q hQ (ih (quo S a b (suc n) Q) (λ j v. has_quo (suc n) Q hQ ha hb j) quotient) (root (suc n) (omega arith)) t l

module _ (𝓕 : Field) where
  abbrev R : Ring
  R = 𝓕.ring

  open 𝓕.ring use {El}

  -- the polynomials over a field
  pub polynomials : Domain (Poly 𝓕.ring) (Bounded 𝓕.ring)
  polynomials =
      record {
        has_zero = bounded_zero R;
        has_one = bounded_const R R.𝟙;
        has_add = λ h k. bounded_add R h k;
        has_neg = λ h. bounded_neg R h;
        has_mul = λ h k. bounded_conv R h k;
        one_nonzero = one≢zero_poly 𝓕;
        cancels = cancel 𝓕;
        decides = decide_zero 𝓕;
      }

  -- a homogeneous polynomial of degree ℓ with m roots, no two of them in the same proportion, and m > ℓ, is zero
  pub few_roots : (ℓ m : ℕ) (Q f1 f2 : ℕ → ℕ → El) → ℓ < m
      → ((t : ℕ) → t ≤ ℓ → Bounded R (Q t)) → ((i : ℕ) → i < m → Bounded R (f1 i)) → ((i : ℕ) → i < m → Bounded R (f2 i))
      → ((i j : ℕ) → i < j → j < m → conv R (f1 i) (f2 j) ≢ conv R (f2 i) (f1 j))
      → ((i : ℕ) → i < m → form (Poly R) ℓ Q (f2 i) (f1 i) ≡ pzero R)
      → (t : ℕ) → t ≤ ℓ → Q t ≡ pzero R
  few_roots ℓ m Q f1 f2 l hQ h1 h2 apart root t u =
      few (Poly R) (Bounded R) polynomials (suc ℓ) Q f1 f2 (λ j v. hQ j (omega arith)) (λ i v. h1 i (omega arith))
      (λ i v. h2 i (omega arith)) (λ i j v w. apart i j v (omega arith))
      (λ i v. sym (hom_form (Poly R) ℓ Q (f2 i) (f1 i)) ∙ root i (omega arith)) t (omega arith)
