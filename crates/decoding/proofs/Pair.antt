-- The pair (f₁, f₂) of a solution of the key equation, by the rows at which Euclid's algorithm stops: its bounds, that f₂ is not zero and the two are
-- coprime; the locator's value at a point from the pair's; with few errors the pair is (0, a constant).
use mathlib.Core.Path.{◌≡◌, sym, ◌∙◌, ap, ap₂, subst}
use mathlib.Core.List.{[], ◌∷◌}
use mathlib.Core.Logic.{◌≢◌, ◌⊎◌, inl, inr}
use Prim.Native.Nat.{ℕ, suc, ◌+◌, ◌-◌, ◌≤◌, ◌<◌}
use native.Mathlib.Omega.{arith}
use native.Mathlib.Decide.{dec_le}
use Rattle.algebra.specs.Ring.{Ring}
use Rattle.algebra.specs.RingLaws as Laws
use Rattle.algebra.specs.Solve.{ring}
use Rattle.algebra.specs.Field.{Field}
use Rattle.algebra.specs.Poly.{pzero, Below, at, mono, Degree}
use Rattle.algebra.specs.PolyRing.{Poly}
use Rattle.algebra.specs.PolyForms.{forms}
use Rattle.algebra.specs.Coprime.{Coprime}
use Rattle.algebra.specs.Euclid.{Row, Rows, Combination}
use Rattle.algebra.proofs.Eval.{below_zero, below_neg, below_conv, ev_add, ev_conv, ev_more}
use Rattle.algebra.proofs.Roots.{id_hom}
use Rattle.algebra.proofs.FieldLaws.{mul_nonzero, pow_nonzero}
use Rattle.algebra.proofs.PolySums.{zero_coefficient, times_at, neg_at}
use Rattle.algebra.proofs.Monomials.{mono_below, mono_at}
use Rattle.algebra.proofs.Coprime.{coprime_zero}
use Rattle.algebra.proofs.Bounded.{bounded_add, bounded_neg, bounded_conv}
use Rattle.algebra.proofs.Degrees.{degree_of, degree_mul, degree_neg, degree_less}
use Rattle.algebra.proofs.Rows.{f₁, f₂, cramer, f₁_below, f₂_below}
use Rattle.decoding.specs.KeyEquation.{Key, IsPair}

module _ (𝓕 : Field) where
  infixl 60 ◌⊕◌
  infixl 70 ◌⊗◌
  infix 80 ⊖◌
  infixl 60 ◌⊞◌
  infixl 70 ◌⊠◌
  infix 80 ⊟◌
  abbrev R : Ring
  R = 𝓕.ring

  open 𝓕.ring use {El, 𝟘, 𝟙, ◌⊕◌, ⊖◌, ◌⊗◌}
  open Poly 𝓕.ring use {◌⊕◌ as ◌⊞◌, ⊖◌ as ⊟◌, ◌⊗◌ as ◌⊠◌}

  module _ {D : ℕ} {S : ℕ → El} {P L : Row R} {p l : ℕ} (I : Rows R D S P L p l) where
    -- at a point other than 0 the second entries of two rows are not both zero
    pub not_both : (c : El) → c ≢ 𝟘 → at R c (suc l) P.b ≡ 𝟘 → at R c (suc l) L.b ≢ 𝟘
    not_both c nz zP zL =
        mul_nonzero 𝓕 I.sign≢zero (pow_nonzero 𝓕 c D nz)
        (ap (λ z. I.sign ⊗ z)
        (sym (mono_at R c D) ∙ sym (ev_more R R (λ x. x) (id_hom R) c (suc D) N (mono R D) (mono_below R D) (let s : p + l ≡ D = I.sum in omega arith)))
        ∙ sym (times_at R I.sign c N (mono R D))
        ∙ ap (at R c N) (sym I.determinant)
        ∙ ev_add R R (λ x. x) (id_hom R) c N (P.a ⊠ L.b) (⊟ (L.a ⊠ P.b))
        ∙ ap₂ ◌⊕◌
        (ev_conv R R (λ x. x) (id_hom R) c (suc p) (suc l) N P.a L.b I.a_degree.below I.b_degree.below (omega arith)
        ∙ ap (λ z. at R c (suc p) P.a ⊗ z) zL ∙ Laws.mul_zero R _)
        (neg_at R c N (L.a ⊠ P.b)
        ∙ ap ⊖◌ (ev_conv R R (λ x. x) (id_hom R) c p (suc l) N L.a P.b I.a_falls (λ i k. I.b_rises i (omega arith)) (omega arith)
        ∙ ap (λ z. at R c p L.a ⊗ z) zP ∙ Laws.mul_zero R _)
        ∙ Laws.neg_zero R)
        ∙ R.add_zero 𝟘)
      where
        N : ℕ
        N = suc p + suc l

    -- a solution of the key equation, where L.a has a lower degree than L.b, and P.b no higher one than P.a
    module _ {ε : ℕ} {Λ Ω : ℕ → El} (K : Key R D S ε Λ Ω) (low : Below R l L.a) (high : Below R (suc p) P.b) where
      abbrev pub g₁ : ℕ → El
      g₁ = f₁ 𝓕 I Ω (⊟ Λ)

      abbrev pub g₂ : ℕ → El
      g₂ = f₂ 𝓕 I Ω (⊟ Λ)

      split : Combination R P L Ω (⊟ Λ) g₁ g₂
      split = cramer 𝓕 I Ω (⊟ Λ) K.divides

      g₁_below : Below R (ε - p) g₁
      g₁_below =
          f₁_below 𝓕 I Ω (⊟ Λ) ε (suc ε) l (ε - p) K.Ω_below (below_neg R (suc ε) Λ K.Λ_degree.below) low
          (omega arith) (let s : p + l ≡ D = I.sum in omega arith)

      g₂_below : Below R (suc ε - l) g₂
      g₂_below =
          f₂_below 𝓕 I Ω (⊟ Λ) ε (suc ε) (suc p) (suc ε - l) K.Ω_below (below_neg R (suc ε) Λ K.Λ_degree.below) high
          (omega arith) (let s : p + l ≡ D = I.sum in omega arith)

      g₂_nonzero : g₂ ≢ pzero R
      g₂_nonzero e = go (degree_of 𝓕 (ε - p) g₁ g₁_below)
        where
          only : (a c : ℕ → El) → g₁ ⊠ a ⊞ g₂ ⊠ c ≡ g₁ ⊠ a
          only a c =
              ap (λ z. g₁ ⊠ a ⊞ z ⊠ c) e
              ∙ ring (Poly R) (g₁ ∷ a ∷ c ∷ []) {x = g₁ ⊠ a ⊞ pzero R ⊠ c} {y = g₁ ⊠ a} (search forms depth 20) tt

          neg_Λ : ⊟ Λ ≡ g₁ ⊠ P.b
          neg_Λ = split.second ∙ only P.b L.b

          go : (g₁ ≡ pzero R) ⊎ ((d : ℕ) × Degree R d g₁) → ⊥
          go (inl z) =
              (degree_neg 𝓕 ε Λ K.Λ_degree).lead
              (ap (λ (f : ℕ → El). f ε) (neg_Λ ∙ ap (λ y. y ⊠ P.b) z ∙ Laws.zero_mul (Poly R) P.b) ∙ zero_coefficient R ε)
          go (inr (d, hd)) =
              let k : d + p < ε =
              degree_less 𝓕 (d + p) ε (g₁ ⊠ P.a) (degree_mul 𝓕 d p g₁ P.a hd I.a_degree)
              (subst (Below R ε) (split.first ∙ only P.a L.a) K.Ω_below) in
              (degree_neg 𝓕 ε Λ K.Λ_degree).lead
              (ap (λ (f : ℕ → El). f ε) neg_Λ
              ∙ below_conv R (suc d) (suc p) g₁ P.b hd.below high ε (omega arith))

      -- as many errors as the degree of L.b, at least
      enough : l ≤ ε
      enough =
          elim (dec_le l ε) [
            | yes k ↦ k
            | no k ↦ absurd (g₂_nonzero (below_zero R g₂ (λ i t. g₂_below i (omega arith))))
          ]

      pair_coprime : Coprime R g₁ g₂
      pair_coprime =
          record {
            u = c.u ⊠ P.a ⊞ ⊟ (c.v ⊠ P.b);
            v = c.u ⊠ L.a ⊞ ⊟ (c.v ⊠ L.b);
            u_bounded =
                bounded_add R (bounded_conv R c.u_bounded (suc p, I.a_degree.below))
                (bounded_neg R (bounded_conv R c.v_bounded (l, I.b_rises)));
            v_bounded =
                bounded_add R (bounded_conv R c.u_bounded (p, I.a_falls))
                (bounded_neg R (bounded_conv R c.v_bounded (suc l, I.b_degree.below)));
            one =
                ring (Poly R) (c.u ∷ c.v ∷ P.a ∷ P.b ∷ L.a ∷ L.b ∷ g₁ ∷ g₂ ∷ [])
                {y = c.u ⊠ (g₁ ⊠ P.a ⊞ g₂ ⊠ L.a) ⊞ ⊟ (c.v ⊠ (g₁ ⊠ P.b ⊞ g₂ ⊠ L.b))} (search forms depth 20) tt
                ∙ ap₂ (λ y z. c.u ⊠ y ⊞ ⊟ (c.v ⊠ z)) (sym split.first) (sym split.second)
                ∙ ring (Poly R) (c.u ∷ c.v ∷ Λ ∷ Ω ∷ []) {y = c.u ⊠ Ω ⊞ c.v ⊠ Λ} (search forms depth 20) tt
                ∙ c.one;
          }
        where
          c : Coprime R Ω Λ
          c = K.coprime

      pub pair : IsPair R P L p l ε Λ Ω g₁ g₂
      pair =
          record {
            combination = split;
            f₁_below = g₁_below;
            f₂_below = g₂_below;
            f₂≢zero = g₂_nonzero;
            enough = enough;
            coprime = pair_coprime;
          }

  -- the locator at a point, from the values of the pair and of the rows
  pub pair_at : {D : ℕ} {S : ℕ → El} {P L : Row R} {p l ε : ℕ} {Λ Ω f₁ f₂ : ℕ → El} → Rows R D S P L p l → Below R (suc ε) Λ
      → IsPair R P L p l ε Λ Ω f₁ f₂ → (c : El)
      → at R c (ε - p) f₁ ⊗ at R c (suc l) P.b ⊕ at R c (suc ε - l) f₂ ⊗ at R c (suc l) L.b ≡ ⊖ at R c (suc ε) Λ
  pair_at {P = P} {L = L} {p = p} {l = l} {ε = ε} {Λ = Λ} {f₁ = f₁} {f₂ = f₂} I h T c =
      sym
      (ap₂ ◌⊕◌
      (ev_conv R R (λ x. x) (id_hom R) c (ε - p) (suc l) N f₁ P.b T.f₁_below (λ i k. I.b_rises i (omega arith)) (omega arith))
      (ev_conv R R (λ x. x) (id_hom R) c (suc ε - l) (suc l) N f₂ L.b T.f₂_below I.b_degree.below (omega arith)))
      ∙ sym (ev_add R R (λ x. x) (id_hom R) c N (f₁ ⊠ P.b) (f₂ ⊠ L.b))
      ∙ ap (at R c N) (sym T.combination.second)
      ∙ neg_at R c N Λ
      ∙ ap ⊖◌ (ev_more R R (λ x. x) (id_hom R) c (suc ε) N Λ h (omega arith))
    where
      N : ℕ
      N = suc ε + suc ε + suc l

  -- few errors: the pair is (0, a constant)
  pub few : {P L : Row R} {p l ε : ℕ} {Λ Ω f₁ f₂ : ℕ → El} → IsPair R P L p l ε Λ Ω f₁ f₂ → ε ≤ p
      → (f₁ ≡ pzero R) × Degree R 0 f₂
  few {p = p} {l = l} {ε = ε} {f₁ = f₁} {f₂ = f₂} T k =
      let z : f₁ ≡ pzero R = below_zero R f₁ (λ i t. T.f₁_below i (omega arith)) in
      (z, coprime_zero 𝓕 (suc ε - l) f₂ T.f₂_below (subst (λ f. Coprime R f f₂) z T.coprime))
