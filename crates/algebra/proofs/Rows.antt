-- Euclid's rows: the first two and each next one have the properties of Rows; and every pair (g, h) with g + h S divisible by x ^ D is a
-- combination of two rows that follow one another (Cramer's rule), with bounds on the two factors.
use mathlib.Core.Path.{◌≡◌, refl, sym, ◌∙◌, ap, ap₂, subst}
use mathlib.Core.List.{[], ◌∷◌}
use Prim.Native.Nat.{ℕ, suc, ◌+◌, ◌-◌, ◌≤◌, ◌<◌}
use native.Mathlib.Omega.{arith}
use Rattle.algebra.specs.Ring.{Ring}
use Rattle.algebra.specs.RingLaws as Laws
use Rattle.algebra.specs.Solve.{ring}
use Rattle.algebra.specs.Field.{Field}
use Rattle.algebra.specs.Poly.{pneg, pzero, const, Below, Order, drop, mono, Degree}
use Rattle.algebra.specs.PolyRing.{Poly}
use Rattle.algebra.specs.PolyForms.{forms}
use Rattle.algebra.specs.Division.{remainder}
use Rattle.algebra.specs.Euclid.{Row, Rows, top, second, ratio, next, part_before, part_last, Combination}
use Rattle.algebra.proofs.Eval.{below_add, below_neg, below_const, below_conv, order_add, order_neg, order_mul}
use Rattle.algebra.proofs.Shift.{const_hom, hom_neg}
use Rattle.algebra.proofs.FieldLaws.{neg_nonzero}
use Rattle.algebra.proofs.PolySums.{times_below}
use Rattle.algebra.proofs.Monomials.{mono_order, mono_cancel, mono_drop, drop_below}
use Rattle.algebra.proofs.Degrees.{degree_mul, degree_add, degree_neg, degree_mono, degree_less}
use Rattle.algebra.proofs.Division.{divided, quotient_degree, remainder_below}

module _ (R : Ring) where
  infixl 60 ◌⊕◌
  infixl 70 ◌⊗◌
  infix 80 ⊖◌
  open R use {El, 𝟘, 𝟙, ◌⊕◌, ⊖◌, ◌⊗◌}

  pub const_neg : (c : El) → pneg R (const R c) ≡ const R (⊖ c)
  const_neg c = sym (hom_neg R (Poly R) (const R) (const_hom R) c)

module _ (𝓕 : Field) where
  infixl 60 ◌⊕◌
  infixl 70 ◌⊗◌
  infix 80 ⊖◌
  infixl 60 ◌⊞◌
  infixl 70 ◌⊠◌
  infix 80 ⊟◌
  abbrev R : Ring
  R = 𝓕.ring

  open 𝓕.ring use {El, 𝟘, 𝟙, ◌⊕◌, ⊖◌, ◌⊗◌}
  open Poly 𝓕.ring use {◌⊕◌ as ◌⊞◌, ⊖◌ as ⊟◌, ◌⊗◌ as ◌⊠◌}

  -- the first two rows
  pub start : (D : ℕ) (S : ℕ → El) → Below R D S → Rows R D S (top 𝓕 D) (second 𝓕 S) D 0
  start D S h =
      record {
        before = λ i k. ap (λ (f : ℕ → El). f i) (ring (Poly R) (mono R D ∷ S ∷ []) {x = mono R D ⊞ pzero R ⊠ S} {y = mono R D} (search forms depth 20) tt) ∙ mono_order R D i k;
        last = λ i k. ap (λ (f : ℕ → El). f i) (ring (Poly R) (S ∷ []) {x = S ⊞ (⊟ const R 𝟙) ⊠ S} {y = pzero R} (search forms depth 20) tt) ∙ unfold pzero in refl;
        sign = ⊖ 𝟙;
        sign≢zero = neg_nonzero 𝓕 𝓕.one≢zero;
        determinant =
            ring (Poly R) (mono R D ∷ S ∷ []) {x = mono R D ⊠ ⊟ const R 𝟙 ⊞ ⊟ (S ⊠ pzero R)} {y = (⊟ const R 𝟙) ⊠ mono R D} (search forms depth 20) tt
            ∙ ap (λ z. z ⊠ mono R D) (const_neg R 𝟙);
        a_degree = degree_mono 𝓕 D;
        a_falls = h;
        b_degree = degree_neg 𝓕 0 (const R 𝟙) (record { below = below_const R 𝟙; lead = λ z. 𝓕.one≢zero (unfold const in z) });
        b_rises = λ i k. unfold pzero in refl;
        sum = omega arith;
      }

  module _ {D : ℕ} {S : ℕ → El} {P L : Row R} {p l : ℕ} (I : Rows R D S P L p l) where
    -- one step, where L.a has the degree m
    module _ (m : ℕ) (hm : Degree R m L.a) where
      q : ℕ → El
      q = ratio 𝓕 p m P L

      falls : m < p
      falls = degree_less 𝓕 m p L.a hm I.a_falls

      q_degree : Degree R (p - m) q
      unfolding q
      q_degree =
          quotient_degree 𝓕 m L.a hm (p - m) P.a
          (subst (λ d. Degree R d P.a) (let k : m < p = falls in let z : p ≡ p - m + m = omega arith in z) I.a_degree)

      -- the new a is a remainder
      pub next_remainder : (next 𝓕 p m P L).a ≡ remainder 𝓕 m L.a (suc (p - m)) P.a
      next_remainder =
          ap (λ z. z ⊞ ⊟ (ratio 𝓕 p m P L ⊠ L.a)) (divided 𝓕 m L.a (suc (p - m)) P.a)
          ∙ ring (Poly R) (ratio 𝓕 p m P L ∷ L.a ∷ remainder 𝓕 m L.a (suc (p - m)) P.a ∷ []) (search forms depth 20) tt

      pub step : Rows R D S L (next 𝓕 p m P L) m (p - m + l)
      unfolding q
      step =
          record {
            before = I.last;
            last = λ i k.
                ap (λ (f : ℕ → El). f i)
                (ring (Poly R) (P.a ∷ P.b ∷ L.a ∷ L.b ∷ q ∷ S ∷ [])
                {x = (P.a ⊞ ⊟ (q ⊠ L.a)) ⊞ (P.b ⊞ ⊟ (q ⊠ L.b)) ⊠ S}
                {y = (P.a ⊞ P.b ⊠ S) ⊞ ⊟ (q ⊠ (L.a ⊞ L.b ⊠ S))} (search forms depth 20) tt)
                ∙ order_add R D (P.a ⊞ P.b ⊠ S) (⊟ (q ⊠ (L.a ⊞ L.b ⊠ S))) I.before
                (order_neg R D (q ⊠ (L.a ⊞ L.b ⊠ S)) (order_mul R D q (L.a ⊞ L.b ⊠ S) I.last)) i k;
            sign = ⊖ I.sign;
            sign≢zero = neg_nonzero 𝓕 I.sign≢zero;
            determinant =
                ring (Poly R) (P.a ∷ P.b ∷ L.a ∷ L.b ∷ q ∷ [])
                {x = L.a ⊠ (P.b ⊞ ⊟ (q ⊠ L.b)) ⊞ ⊟ ((P.a ⊞ ⊟ (q ⊠ L.a)) ⊠ L.b)}
                {y = ⊟ (P.a ⊠ L.b ⊞ ⊟ (L.a ⊠ P.b))} (search forms depth 20) tt
                ∙ ap ⊟◌ I.determinant ∙ sym (Laws.neg_mul (Poly R) (const R I.sign) (mono R D)) ∙ ap (λ z. z ⊠ mono R D) (const_neg R I.sign);
            a_degree = hm;
            a_falls = subst (Below R m) (sym next_remainder)
                (remainder_below 𝓕 m L.a hm (suc (p - m)) P.a
                (λ i k. I.a_degree.below i (let t : m < p = falls in omega arith)));
            b_degree = subst (Degree R (p - m + l)) ((Poly R).add_comm (⊟ (q ⊠ L.b)) P.b)
                (degree_add 𝓕 (p - m + l) (⊟ (q ⊠ L.b)) P.b
                (degree_neg 𝓕 (p - m + l) (q ⊠ L.b) (degree_mul 𝓕 (p - m) l q L.b q_degree I.b_degree))
                (λ i k. I.b_rises i (omega arith)));
            b_rises = λ i k. I.b_degree.below i (let t : m < p = falls in omega arith);
            sum = let t : m < p = falls in let s : p + l ≡ D = I.sum in omega arith;
          }

    -- the factors of P and L in a combination (g, h)
    abbrev pub f₁ : (ℕ → El) → (ℕ → El) → ℕ → El
    f₁ g h = part_before 𝓕 D I.sign L g h

    abbrev pub f₂ : (ℕ → El) → (ℕ → El) → ℕ → El
    f₂ g h = part_last 𝓕 D I.sign P g h

    -- the determinant
    X : ℕ → El
    X = const R I.sign ⊠ mono R D

    unit : (t : ℕ → El) → t ≡ const R (𝓕.inv I.sign) ⊠ (const R I.sign ⊠ t)
    unit t =
        sym (Laws.one_mul (Poly R) t)
        ∙ ap (λ z. z ⊠ t) (ap (const R) (sym (𝓕.mul_inv I.sign I.sign≢zero)) ∙ (const_hom R).of_mul I.sign (𝓕.inv I.sign))
        ∙ ring (Poly R) (const R I.sign ∷ const R (𝓕.inv I.sign) ∷ t ∷ []) (search forms depth 20) tt

    scaled : (H : ℕ → El) → Order R D H → X ⊠ (const R (𝓕.inv I.sign) ⊠ drop D H) ≡ H
    unfolding X
    scaled H o =
        ring (Poly R) (const R I.sign ∷ const R (𝓕.inv I.sign) ∷ mono R D ∷ drop D H ∷ [])
        {y = const R (𝓕.inv I.sign) ⊠ (const R I.sign ⊠ (mono R D ⊠ drop D H))} (search forms depth 20) tt
        ∙ sym (unit (mono R D ⊠ drop D H)) ∙ mono_drop R D H o

    cancel : (s t : ℕ → El) → X ⊠ s ≡ X ⊠ t → s ≡ t
    unfolding X
    cancel s t e =
        mono_cancel R D s t
        (unit (mono R D ⊠ s) ∙ ap (λ z. const R (𝓕.inv I.sign) ⊠ z) (sym ((Poly R).mul_assoc _ _ _) ∙ e ∙ (Poly R).mul_assoc _ _ _)
        ∙ sym (unit (mono R D ⊠ t)))

    -- a pair (g, h) with g + h S divisible by x ^ D: Cramer's rule
    module _ (g h : ℕ → El) (divides : Order R D (g ⊞ h ⊠ S)) where
      cramer_before : X ⊠ f₁ g h ≡ g ⊠ L.b ⊞ ⊟ (h ⊠ L.a)
      unfolding part_before
      cramer_before =
          scaled (g ⊠ L.b ⊞ ⊟ (h ⊠ L.a)) (λ i k.
          ap (λ (f : ℕ → El). f i)
          (ring (Poly R) (g ∷ h ∷ L.a ∷ L.b ∷ S ∷ [])
          {x = g ⊠ L.b ⊞ ⊟ (h ⊠ L.a)} {y = L.b ⊠ (g ⊞ h ⊠ S) ⊞ ⊟ (h ⊠ (L.a ⊞ L.b ⊠ S))} (search forms depth 20) tt)
          ∙ order_add R D (L.b ⊠ (g ⊞ h ⊠ S)) (⊟ (h ⊠ (L.a ⊞ L.b ⊠ S))) (order_mul R D L.b (g ⊞ h ⊠ S) divides)
          (order_neg R D (h ⊠ (L.a ⊞ L.b ⊠ S)) (order_mul R D h (L.a ⊞ L.b ⊠ S) I.last)) i k)

      cramer_last : X ⊠ f₂ g h ≡ P.a ⊠ h ⊞ ⊟ (P.b ⊠ g)
      unfolding part_last
      cramer_last =
          scaled (P.a ⊠ h ⊞ ⊟ (P.b ⊠ g)) (λ i k.
          ap (λ (f : ℕ → El). f i)
          (ring (Poly R) (g ∷ h ∷ P.a ∷ P.b ∷ S ∷ [])
          {x = P.a ⊠ h ⊞ ⊟ (P.b ⊠ g)} {y = h ⊠ (P.a ⊞ P.b ⊠ S) ⊞ ⊟ (P.b ⊠ (g ⊞ h ⊠ S))} (search forms depth 20) tt)
          ∙ order_add R D (h ⊠ (P.a ⊞ P.b ⊠ S)) (⊟ (P.b ⊠ (g ⊞ h ⊠ S))) (order_mul R D h (P.a ⊞ P.b ⊠ S) I.before)
          (order_neg R D (P.b ⊠ (g ⊞ h ⊠ S)) (order_mul R D P.b (g ⊞ h ⊠ S) divides)) i k)

      -- one entry of (g, h) = f₁ P + f₂ L
      entry : (v c d : ℕ → El)
          → (P.a ⊠ L.b ⊞ ⊟ (L.a ⊠ P.b)) ⊠ v ≡ (g ⊠ L.b ⊞ ⊟ (h ⊠ L.a)) ⊠ c ⊞ (P.a ⊠ h ⊞ ⊟ (P.b ⊠ g)) ⊠ d
          → v ≡ f₁ g h ⊠ c ⊞ f₂ g h ⊠ d
      unfolding X
      entry v c d e =
          cancel v (f₁ g h ⊠ c ⊞ f₂ g h ⊠ d)
          (ap (λ z. z ⊠ v) (sym I.determinant) ∙ e
          ∙ ap₂ (λ y z. y ⊠ c ⊞ z ⊠ d) (sym cramer_before) (sym cramer_last)
          ∙ ring (Poly R) (X ∷ f₁ g h ∷ f₂ g h ∷ c ∷ d ∷ []) {y = X ⊠ (f₁ g h ⊠ c ⊞ f₂ g h ⊠ d)} (search forms depth 20) tt)

      pub cramer : Combination R P L g h (f₁ g h) (f₂ g h)
      cramer =
          record {
            first = entry g P.a L.a (ring (Poly R) (g ∷ h ∷ P.a ∷ P.b ∷ L.a ∷ L.b ∷ []) (search forms depth 20) tt);
            second = entry h P.b L.b (ring (Poly R) (g ∷ h ∷ P.a ∷ P.b ∷ L.a ∷ L.b ∷ []) (search forms depth 20) tt);
          }

    -- the degrees of f₁ and f₂, where g has A coefficients and h has B
    module _ (g h : ℕ → El) (A B y t : ℕ) (hg : Below R A g) (hh : Below R B h) where
      pub f₁_below : Below R y L.a → A ≤ p + t → B + y ≤ suc (D + t) → Below R t (f₁ g h)
      unfolding part_before
      f₁_below hy u w =
          times_below R t (𝓕.inv I.sign) (drop D (g ⊠ L.b ⊞ ⊟ (h ⊠ L.a)))
          (drop_below R D t (g ⊠ L.b ⊞ ⊟ (h ⊠ L.a))
          (below_add R (D + t) (g ⊠ L.b) (⊟ (h ⊠ L.a))
          (λ i k. below_conv R A (suc l) g L.b hg I.b_degree.below i (let s : p + l ≡ D = I.sum in omega arith))
          (below_neg R (D + t) (h ⊠ L.a) (λ i k. below_conv R B y h L.a hh hy i (omega arith)))))

      pub f₂_below : Below R y P.b → B ≤ l + t → A + y ≤ suc (D + t) → Below R t (f₂ g h)
      unfolding part_last
      f₂_below hy u w =
          times_below R t (𝓕.inv I.sign) (drop D (P.a ⊠ h ⊞ ⊟ (P.b ⊠ g)))
          (drop_below R D t (P.a ⊠ h ⊞ ⊟ (P.b ⊠ g))
          (below_add R (D + t) (P.a ⊠ h) (⊟ (P.b ⊠ g))
          (λ i k. below_conv R (suc p) B P.a h I.a_degree.below hh i (let s : p + l ≡ D = I.sum in omega arith))
          (below_neg R (D + t) (P.b ⊠ g) (λ i k. below_conv R y A P.b g hy hg i (omega arith)))))
