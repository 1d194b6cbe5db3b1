-- Rational reconstruction: the pairs within bounds whose quotient is a given series, modulo a power of x, are multiples of one row of Euclid's
-- algorithm on that power and the series; and the entries of that row are coprime.
use mathlib.Core.Path.{◌≡◌, sym, ◌∙◌, ap, subst, subst₂}
use mathlib.Core.List.{[], ◌∷◌}
use mathlib.Core.Logic.{◌≢◌}
use Prim.Native.Nat.{ℕ, suc, ◌+◌, ◌-◌, ◌≤◌}
use native.Mathlib.Omega.{arith}
use Rattle.algebra.specs.Ring.{Ring}
use Rattle.algebra.specs.RingLaws as Laws
use Rattle.algebra.specs.Solve.{ring}
use Rattle.algebra.specs.Field.{Field}
use Rattle.algebra.specs.Poly.{pzero, const, mono, Below, Order, Bounded}
use Rattle.algebra.specs.PolyRing.{Poly}
use Rattle.algebra.specs.PolyForms.{forms}
use Rattle.algebra.specs.Coprime.{Coprime}
use Rattle.algebra.specs.Euclid.{Row, Rows, Combination, Stopped}
use Rattle.algebra.proofs.Eval.{below_zero, below_neg}
use Rattle.algebra.proofs.Bounded.{bounded_const, bounded_add, bounded_neg, bounded_conv}
use Rattle.algebra.proofs.Coprime.{const_inverse, coprime_mono, coprime_multiple}
use Rattle.algebra.proofs.Rows.{f₁, f₂, cramer, f₁_below, f₂_below}

module _ (𝓕 : Field) where
  infixl 60 ◌⊕◌
  infixl 70 ◌⊗◌
  infix 80 ⊖◌
  infixl 60 ◌⊞◌
  infixl 70 ◌⊠◌
  infix 80 ⊟◌
  abbrev R : Ring
  R = 𝓕.ring

  open 𝓕.ring use {El, 𝟘, 𝟙, ◌⊕◌, ⊖◌, ◌⊗◌}
  open Poly 𝓕.ring use {◌⊕◌ as ◌⊞◌, ⊖◌ as ⊟◌, ◌⊗◌ as ◌⊠◌}

  -- the entries of a row are coprime, where b has a constant coefficient
  pub row_coprime : {D : ℕ} {S : ℕ → El} {P L : Row R} {p l : ℕ} → Rows R D S P L p l → L.b 0 ≢ 𝟘 → Coprime R L.b L.a
  row_coprime {D} {S} {P} {L} {p} {l} I z =
      record {
        u = c.u ⊞ c.v ⊠ i ⊠ P.a;
        v = ⊟ (c.v ⊠ i ⊠ P.b);
        u_bounded = bounded_add R c.u_bounded (bounded_conv R short (suc p, I.a_degree.below));
        v_bounded = bounded_neg R (bounded_conv R short (l, I.b_rises));
        one =
            ring (Poly R) (c.u ∷ c.v ∷ i ∷ P.a ∷ P.b ∷ L.a ∷ L.b ∷ [])
            {y = c.u ⊠ L.b ⊞ c.v ⊠ i ⊠ (P.a ⊠ L.b ⊞ ⊟ (L.a ⊠ P.b))} (search forms depth 20) tt
            ∙ ap (λ t. c.u ⊠ L.b ⊞ c.v ⊠ i ⊠ t) I.determinant
            ∙ ring (Poly R) (c.u ∷ c.v ∷ i ∷ L.b ∷ const R I.sign ∷ mono R D ∷ [])
            {y = c.u ⊠ L.b ⊞ c.v ⊠ ((const R I.sign ⊠ i) ⊠ mono R D)} (search forms depth 20) tt
            ∙ ap (λ t. c.u ⊠ L.b ⊞ c.v ⊠ (t ⊠ mono R D)) (const_inverse 𝓕 I.sign I.sign≢zero)
            ∙ ring (Poly R) (c.u ∷ c.v ∷ L.b ∷ mono R D ∷ []) {y = c.u ⊠ L.b ⊞ c.v ⊠ mono R D} (search forms depth 20) tt
            ∙ c.one;
      }
    where
      c : Coprime R L.b (mono R D)
      c = coprime_mono 𝓕 D (suc l) L.b I.b_degree.below z

      i : ℕ → El
      i = const R (𝓕.inv I.sign)

      short : Bounded R (c.v ⊠ i)
      short = bounded_conv R c.v_bounded (bounded_const R (𝓕.inv I.sign))

  -- the run that stops at the first row with a degree of w₂ at most
  module _ (w₁ w₂ : ℕ) {S : ℕ → El} (T : Stopped R (λ _. suc w₂) (suc (w₁ + w₂)) S) where
    pub row_a : Below R (suc w₂) T.L.a
    row_a = T.low

    pub row_b : T.l ≤ w₁
    row_b =
        let h : suc w₂ ≤ T.p = T.high in
        let s : T.p + T.l ≡ suc (w₁ + w₂) = T.rows.sum in
        omega arith

    -- every pair within the bounds is a multiple of the row
    pub multiple : (g h : ℕ → El) → Below R (suc w₂) g → Below R (suc w₁) h → Order R (suc (w₁ + w₂)) (g ⊞ h ⊠ S)
        → (f : ℕ → El) × Below R (suc w₁ - T.l) f × (g ≡ f ⊠ T.L.a) × (h ≡ f ⊠ T.L.b)
    multiple g h hg hh divides = (
      f,
      f₂_below 𝓕 T.rows g h (suc w₂) (suc w₁) T.l (suc w₁ - T.l) hg hh T.rows.b_rises (omega arith)
          (let b : T.l ≤ w₁ = row_b in omega arith),
      sum.first ∙ only T.P.a T.L.a,
      sum.second ∙ only T.P.b T.L.b,
    )
      where
        f : ℕ → El
        f = f₂ 𝓕 T.rows g h

        sum : Combination R T.P T.L g h (f₁ 𝓕 T.rows g h) f
        sum = cramer 𝓕 T.rows g h divides

        none : f₁ 𝓕 T.rows g h ≡ pzero R
        none =
            below_zero R (f₁ 𝓕 T.rows g h)
            (f₁_below 𝓕 T.rows g h (suc w₂) (suc w₁) (suc w₂) 0 hg hh T.low
            (let k : suc w₂ ≤ T.p = T.high in omega arith) (omega arith))

        only : (a c : ℕ → El) → f₁ 𝓕 T.rows g h ⊠ a ⊞ f ⊠ c ≡ f ⊠ c
        only a c =
            ap (λ z. z ⊠ a ⊞ f ⊠ c) none
            ∙ ring (Poly R) (f ∷ a ∷ c ∷ []) {x = pzero R ⊠ a ⊞ f ⊠ c} {y = f ⊠ c} (search forms depth 20) tt

    -- in the words of a quotient: every pair (g₁, g₂) within the bounds with g₂ = S g₁ modulo x ^ (w₁ + w₂ + 1) is a multiple of (- b, a)
    pub reconstruct : (g₁ g₂ : ℕ → El) → Below R (suc w₁) g₁ → Below R (suc w₂) g₂ → Order R (suc (w₁ + w₂)) (g₂ ⊞ ⊟ (S ⊠ g₁))
        → (f : ℕ → El) × Bounded R f × (g₁ ≡ f ⊠ ⊟ T.L.b) × (g₂ ≡ f ⊠ T.L.a)
    reconstruct g₁ g₂ h₁ h₂ order =
        let m = multiple g₂ (⊟ g₁) h₂ (below_neg R (suc w₁) g₁ h₁)
        (subst (Order R (suc (w₁ + w₂)))
        (ring (Poly R) (g₁ ∷ g₂ ∷ S ∷ []) {x = g₂ ⊞ ⊟ (S ⊠ g₁)} {y = g₂ ⊞ (⊟ g₁) ⊠ S} (search forms depth 20) tt) order) in (
          m.0,
          (suc w₁ - T.l, m.1),
          sym (Laws.neg_neg (Poly R) g₁) ∙ ap ⊟◌ m.3 ∙ sym (Laws.mul_neg (Poly R) m.0 T.L.b),
          m.2,
        )

    -- and a coprime pair is a constant multiple
    pub reconstruct_coprime : (g₁ g₂ : ℕ → El) → Below R (suc w₁) g₁ → Below R (suc w₂) g₂ → Order R (suc (w₁ + w₂)) (g₂ ⊞ ⊟ (S ⊠ g₁))
        → Coprime R g₁ g₂ → (c : El) × (c ≢ 𝟘) × (g₁ ≡ const R c ⊠ ⊟ T.L.b) × (g₂ ≡ const R c ⊠ T.L.a)
    reconstruct_coprime g₁ g₂ h₁ h₂ order coprime =
        let (f, bf, e₁, e₂) = reconstruct g₁ g₂ h₁ h₂ order in
        let (c, nz, e) = coprime_multiple 𝓕 f (⊟ T.L.b) T.L.a bf (bounded_neg R (suc T.l, T.rows.b_degree.below)) (suc w₂, row_a)
        (subst₂ (Coprime R) e₁ e₂ coprime) in
        (c, nz, e₁ ∙ ap (λ z. z ⊠ ⊟ T.L.b) e, e₂ ∙ ap (λ z. z ⊠ T.L.a) e)
