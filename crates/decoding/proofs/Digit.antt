-- The digits of the series f₂ / f₁, where f₁ (0) is not zero: they exist one after the other (prefix), and where (f₁, f₂) is a root of a
-- homogeneous polynomial each is allowed after those before it.
use mathlib.Core.Path.{◌≡◌, refl, sym, ◌∙◌, ap, ap₂}
use mathlib.Core.List.{[], ◌∷◌}
use mathlib.Core.Logic.{◌≢◌}
use Prim.Native.Nat.{ℕ, zero, suc, ◌-◌, ◌*◌, ◌≤◌, ◌<◌}
use native.Mathlib.Nat.{add-zero}
use native.Mathlib.Omega.{arith}
use Rattle.algebra.specs.Ring.{Ring}
use Rattle.algebra.specs.RingLaws as L
use Rattle.algebra.specs.Solve.{ring}
use Rattle.algebra.specs.Field.{Field}
use Rattle.algebra.specs.Sums.{pow}
use Rattle.algebra.specs.Poly.{conv, padd, pneg, pzero, const, mono, up, drop, at, Order}
use Rattle.algebra.specs.PolyRing.{Poly, const_conv}
use Rattle.algebra.specs.PolyForms.{forms}
use Rattle.algebra.specs.Taylor.{taylor, form}
use Rattle.algebra.proofs.FieldLaws.{pow_nonzero}
use Rattle.algebra.proofs.Sums.{sum_cong}
use Rattle.algebra.proofs.Eval.{order_conv, first_conv}
use Rattle.algebra.proofs.PolySums.{sum_coefficient}
use Rattle.algebra.proofs.Roots.{no_divisors}
use Rattle.algebra.proofs.Monomials.{mono_order, mono_up, mono_drop, pow_mono}
use Rattle.algebra.proofs.Taylor.{star}
use Rattle.algebra.proofs.Homogeneous.{pow_mul, form_scaled}
use Rattle.decoding.specs.Walk.{Allowed}

module _ (R : Ring) where
  infixl 60 ◌⊕◌
  infixl 70 ◌⊗◌
  infix 80 ⊖◌
  open R use {El, 𝟘, 𝟙, ◌⊕◌, ⊖◌, ◌⊗◌}

  -- r = X s, where r = f₂ - (φ + E X) f
  with_digit : (φ f f₂ E X s : El) → f₂ ⊕ ⊖ ((φ ⊕ E ⊗ X) ⊗ f) ≡ X ⊗ s → f₂ ≡ φ ⊗ f ⊕ X ⊗ (E ⊗ f ⊕ s)
  with_digit φ f f₂ E X s e = L.from_eq R 𝟙 e (ring R (φ ∷ f ∷ f₂ ∷ E ∷ X ∷ s ∷ []) (search forms depth 20) tt)

  next_digit : (φ f f₂ E X g : El) → f₂ ⊕ ⊖ (φ ⊗ f) ≡ X ⊗ g → f₂ ⊕ ⊖ ((φ ⊕ E ⊗ X) ⊗ f) ≡ X ⊗ (g ⊕ ⊖ (E ⊗ f))
  next_digit φ f f₂ E X g e = L.from_eq R 𝟙 e (ring R (φ ∷ f ∷ f₂ ∷ E ∷ X ∷ g ∷ []) (search forms depth 20) tt)

  around : (T Y G F : El) → T ⊗ (Y ⊗ G ⊗ F) ≡ Y ⊗ T ⊗ (G ⊗ F)
  around T Y G F = ring R (T ∷ Y ∷ G ∷ F ∷ []) (search forms depth 20) tt

-- series
module _ (R : Ring) where
  infixl 60 ◌⊕◌
  infixl 70 ◌⊗◌
  infix 80 ⊖◌
  open R use {El, 𝟘, 𝟙, ◌⊕◌, ⊖◌, ◌⊗◌}

  pow_zero : (p : ℕ → El) (n : ℕ) → pow (Poly R) p n 0 ≡ pow R (p 0) n
  unfolding pow conv const
  pow_zero p zero = refl
  pow_zero p (suc n) = ap (λ z. p 0 ⊗ z) (pow_zero p n)

  -- the coefficient of x ^ m, where the term of each b has order m
  form_at : (ℓ t m : ℕ) (T : ℕ → ℕ → El) (g f : ℕ → El) → ((b : ℕ) → b ≤ ℓ → Order R m (up R (b * t) (T b)))
      → form (Poly R) ℓ T (conv R (mono R t) g) f m ≡ form R ℓ (λ b. up R (b * t) (T b) m) (g 0) (f 0)
  unfolding form
  form_at ℓ t m T g f h =
      sum_coefficient R (suc ℓ) (λ b. conv R (T b) (conv R (pow (Poly R) (conv R (mono R t) g) b) (pow (Poly R) f (ℓ - b)))) m
      ∙ sum_cong R (suc ℓ) (λ b. conv R (T b) (conv R (pow (Poly R) (conv R (mono R t) g) b) (pow (Poly R) f (ℓ - b))) m)
      (λ b. up R (b * t) (T b) m ⊗ (pow R (g 0) b ⊗ pow R (f 0) (ℓ - b))) term
    where
      zeroth : (p q : ℕ → El) → conv R p q 0 ≡ p 0 ⊗ q 0
      zeroth p q = unfold conv in refl

      term : (b : ℕ) → b < suc ℓ
          → conv R (T b) (conv R (pow (Poly R) (conv R (mono R t) g) b) (pow (Poly R) f (ℓ - b))) m
          ≡ up R (b * t) (T b) m ⊗ (pow R (g 0) b ⊗ pow R (f 0) (ℓ - b))
      term b k =
          let G : ℕ → El = pow (Poly R) g b in
          let F : ℕ → El = pow (Poly R) f (ℓ - b) in
          ap (λ (z : ℕ → El). z m)
          (ap (λ z. conv R (T b) (conv R z F)) (pow_mul (Poly R) (mono R t) g b ∙ ap (λ z. conv R z G) (pow_mono R t b))
          ∙ around (Poly R) (T b) (mono R (b * t)) G F
          ∙ ap (λ z. conv R z (conv R G F)) (mono_up R (b * t) (T b)))
          ∙ first_conv R m (up R (b * t) (T b)) (conv R G F) (h b (omega arith))
          ∙ ap (λ z. up R (b * t) (T b) m ⊗ z) (zeroth G F ∙ ap₂ ◌⊗◌ (pow_zero g b) (pow_zero f (ℓ - b)))

module _ (𝓕 : Field) where
  abbrev R : Ring
  R = 𝓕.ring

  abbrev P : Ring
  P = Poly 𝓕.ring

  open 𝓕.ring use {El, 𝟘, 𝟙, ◌⊕◌, ◌⊗◌, ⊖◌}

  infixl 60 ◌⊕◌
  infixl 70 ◌⊗◌
  infix 80 ⊖◌
  infixl 60 ◌⊞◌
  infixl 70 ◌⊠◌
  infix 80 ⊟◌
  open Poly 𝓕.ring use {◌⊕◌ as ◌⊞◌, ◌⊗◌ as ◌⊠◌, ⊖◌ as ⊟◌}

  add_at : (p q : ℕ → El) (i : ℕ) → (p ⊞ q) i ≡ p i ⊕ q i
  unfolding padd
  add_at p q i = refl

  neg_at : (p : ℕ → El) (i : ℕ) → (⊟ p) i ≡ ⊖ p i
  unfolding pneg
  neg_at p i = refl

  -- the first coefficient past t of a series
  drop_zero : (t : ℕ) (p : ℕ → El) → drop t p 0 ≡ p t
  drop_zero t p = ap p (add-zero t)

  -- f₂ agrees with φ f₁ before x ^ t: the next digit of φ
  abbrev pub next : ℕ → (ℕ → El) → (ℕ → El) → (ℕ → El) → El
  next t φ f₁ f₂ = (f₂ ⊞ ⊟ (φ ⊠ f₁)) t ⊗ 𝓕.inv (f₁ 0)

  pub digit_next : (t : ℕ) (φ f₁ f₂ : ℕ → El) → f₁ 0 ≢ 𝟘 → Order R t (f₂ ⊞ ⊟ (φ ⊠ f₁))
      → Order R (suc t) (f₂ ⊞ ⊟ ((φ ⊞ const R (next t φ f₁ f₂) ⊠ mono R t) ⊠ f₁))
  digit_next t φ f₁ f₂ k o i l =
      let e : El = next t φ f₁ f₂ in
      let r : ℕ → El = f₂ ⊞ ⊟ (φ ⊠ f₁) in
      let g : ℕ → El = drop t r in
      let p : ℕ → El = g ⊞ ⊟ (const R e ⊠ f₁) in
      let q : r ≡ mono R t ⊠ g = sym (mono_drop R t r o) in
      let z : p 0 ≡ 𝟘 =
      add_at g (⊟ (const R e ⊠ f₁)) 0
      ∙ ap₂ ◌⊕◌ (drop_zero t r)
      (neg_at (const R e ⊠ f₁) 0
      ∙ ap ⊖◌
      (const_conv R e f₁ 0 ∙ R.mul_assoc (r t) (𝓕.inv (f₁ 0)) (f₁ 0)
      ∙ ap (λ y. r t ⊗ y) (R.mul_comm (𝓕.inv (f₁ 0)) (f₁ 0) ∙ 𝓕.mul_inv (f₁ 0) k) ∙ R.mul_one (r t)))
      ∙ R.add_neg (r t) in
      let first : Order R 1 p = λ j u. ap p (let w : j ≡ 0 = omega arith in w) ∙ z in
      ap (λ (f : ℕ → El). f i) (next_digit P φ f₁ f₂ (const R e) (mono R t) g q)
      ∙ order_conv R t 1 (mono R t) p (mono_order R t) first i (omega arith)

  -- the digit is a root of the polynomial of the coefficients of x ^ m in x ^ (t b) T_b, for an m before which all of these are zero
  pub digit_root : (ℓ t m : ℕ) (Q : ℕ → ℕ → El) (φ f₁ f₂ : ℕ → El) (e : El) → f₁ 0 ≢ 𝟘
      → Order R (suc t) (f₂ ⊞ ⊟ ((φ ⊞ const R e ⊠ mono R t) ⊠ f₁)) → form P ℓ Q f₂ f₁ ≡ pzero R
      → ((b : ℕ) → b ≤ ℓ → Order R m (up R (b * t) (taylor P (suc ℓ) φ Q b)))
      → at R e (suc ℓ) (λ b. up R (b * t) (taylor P (suc ℓ) φ Q b) m) ≡ 𝟘
  digit_root ℓ t m Q φ f₁ f₂ e k o root h =
      let T : ℕ → ℕ → El = taylor P (suc ℓ) φ Q in
      let τ : ℕ → El = λ b. up R (b * t) (T b) m in
      let r : ℕ → El = f₂ ⊞ ⊟ ((φ ⊞ const R e ⊠ mono R t) ⊠ f₁) in
      let ot : Order R t r = λ i l. o i (omega arith) in
      let s : ℕ → El = drop t r in
      let g : ℕ → El = const R e ⊠ f₁ ⊞ s in
      let rs : r ≡ mono R t ⊠ s = sym (mono_drop R t r ot) in
      let f₂g : f₂ ≡ φ ⊠ f₁ ⊞ mono R t ⊠ g = with_digit P φ f₁ f₂ (const R e) (mono R t) s rs in
      let g0 : g 0 ≡ e ⊗ f₁ 0 =
      add_at (const R e ⊠ f₁) s 0 ∙ ap₂ ◌⊕◌ (const_conv R e f₁ 0) (drop_zero t r ∙ o t (omega arith)) ∙ R.add_zero _ in
      no_divisors 𝓕 (pow R (f₁ 0) ℓ) (at R e (suc ℓ) τ)
      (sym (form_scaled R ℓ τ e (f₁ 0)) ∙ ap (λ z. form R ℓ τ z (f₁ 0)) (sym g0) ∙ sym (form_at R ℓ t m T g f₁ h)
      ∙ ap (λ (f : ℕ → El). f m) (sym (star P φ f₁ (mono R t ⊠ g) ℓ Q) ∙ ap (λ z. form P ℓ Q z f₁) (sym f₂g) ∙ root)
      ∙ (unfold pzero in refl))
      (pow_nonzero 𝓕 (f₁ 0) ℓ k)

  -- the first t digits
  unfoldable pub prefix : (ℕ → El) → (ℕ → El) → ℕ → ℕ → El
  prefix f₁ f₂ zero = pzero R
  prefix f₁ f₂ (suc t) = prefix f₁ f₂ t ⊞ const R (next t (prefix f₁ f₂ t) f₁ f₂) ⊠ mono R t

  pub prefix_order : (f₁ f₂ : ℕ → El) → f₁ 0 ≢ 𝟘 → (t : ℕ) → Order R t (f₂ ⊞ ⊟ (prefix f₁ f₂ t ⊠ f₁))
  unfolding prefix
  prefix_order f₁ f₂ k zero i l = absurd (let z : i < 0 = l in omega arith)
  prefix_order f₁ f₂ k (suc t) i l = digit_next t (prefix f₁ f₂ t) f₁ f₂ k (prefix_order f₁ f₂ k t) i l

  -- each digit of a root is allowed
  pub prefix_allowed : (ℓ : ℕ) (Q : ℕ → ℕ → El) (f₁ f₂ : ℕ → El) → f₁ 0 ≢ 𝟘 → form P ℓ Q f₂ f₁ ≡ pzero R → (t : ℕ)
      → Allowed R ℓ Q t (prefix f₁ f₂ t) (next t (prefix f₁ f₂ t) f₁ f₂)
  prefix_allowed ℓ Q f₁ f₂ k root t m h =
      digit_root ℓ t m Q (prefix f₁ f₂ t) f₁ f₂ (next t (prefix f₁ f₂ t) f₁ f₂) k
      (digit_next t (prefix f₁ f₂ t) f₁ f₂ k (prefix_order f₁ f₂ k t)) root h
