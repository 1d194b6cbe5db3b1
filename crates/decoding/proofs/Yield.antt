-- What a codeword within τ yields: w₂ is not negative; where w₁ is, the codeword passes by the pair (0, 1); and else its pair, normalised, is a root of every
-- interpolant, within the bounds, by which it passes.
use mathlib.Core.Path.{◌≡◌, refl, sym, ◌∙◌, ap, subst, subst₂, fun_ext}
use mathlib.Core.List.{[], ◌∷◌}
use mathlib.Core.Bool.{Bool, true, false, cond}
use mathlib.Core.Logic.{◌≢◌, ◌⊎◌, inl, inr}
use Prim.Native.Nat.{ℕ, zero, suc, ◌+◌, ◌-◌, ◌≤◌, ◌<◌}
use native.Mathlib.Omega.{arith}
use Rattle.algebra.specs.Ring.{Ring}
use Rattle.algebra.specs.RingLaws as Laws
use Rattle.algebra.specs.Solve.{ring}
use Rattle.algebra.specs.Field.{Field}
use Rattle.algebra.specs.Sums.{total}
use Rattle.algebra.specs.Poly.{pzero, const, Below, at, Degree}
use Rattle.algebra.specs.PolyRing.{Poly, const_conv}
use Rattle.algebra.specs.PolyForms.{forms}
use Rattle.algebra.specs.Taylor.{form}
use Rattle.algebra.specs.Euclid.{Stopped}
use Rattle.algebra.proofs.Eval.{below_add, below_conv, ev_more}
use Rattle.algebra.proofs.Roots.{id_hom}
use Rattle.algebra.proofs.Coprime.{coprime_scale}
use Rattle.algebra.proofs.FieldLaws.{inv_nonzero, neg_nonzero}
use Rattle.algebra.proofs.PolySums.{times_below, times_at}
use Rattle.algebra.proofs.Degrees.{degree_of}
use Rattle.algebra.proofs.Rows.{f₁, f₂}
use Rattle.decoding.specs.Code.{errors, Code, syndrome, ε, Λ, Ω}
use Rattle.decoding.specs.KeyEquation.{Key, IsPair}
use Rattle.decoding.specs.Rational.{Root}
use Rattle.decoding.specs.Words.{error, Near}
use Rattle.decoding.specs.Sift.{located, Passes}
use Rattle.decoding.specs.Pairs.{w₁, w₂, y_at, z_at, Interpolates}
use Rattle.decoding.proofs.KeyEquation.{word_key, marked_error, Λ_below, Λ_root}
use Rattle.decoding.proofs.Pair.{pair, pair_at, few, not_both}
use Rattle.decoding.proofs.Interpolant.{interpolant_root}
use Rattle.decoding.proofs.Words.{total_count}
use Rattle.decoding.proofs.Sift.{few_errors, pair_passes}

module _ (𝓕 : Field) (C : Code 𝓕) (k τ : ℕ) (sum : k + C.D ≡ C.n) (r : ℕ → 𝓕.ring.El)
    (T : Stopped 𝓕.ring (λ l. l) C.D (syndrome 𝓕 C r)) where
  infixl 60 ◌⊕◌
  infixl 70 ◌⊗◌
  infix 80 ⊖◌
  infixl 60 ◌⊞◌
  infixl 70 ◌⊠◌
  infix 80 ⊟◌
  abbrev R : Ring
  R = 𝓕.ring

  open 𝓕.ring use {El, 𝟘, 𝟙, ◌⊕◌, ⊖◌, ◌⊗◌}
  open Poly 𝓕.ring use {◌⊕◌ as ◌⊞◌, ⊖◌ as ⊟◌, ◌⊗◌ as ◌⊠◌}

  -- the locator of a pair within the bounds has the degree τ at most
  pub located_below : T.l ≤ τ → T.p < τ → (g₁ g₂ : ℕ → El) → Below R (suc (τ - suc T.p)) g₁ → Below R (suc (τ - T.l)) g₂
      → Below R (suc τ) (located R T.P.b T.L.b g₁ g₂)
  located_below hl hp g₁ g₂ h₁ h₂ =
      below_add R (suc τ) (g₁ ⊠ T.P.b) (g₂ ⊠ T.L.b)
      (λ i u. below_conv R (suc (τ - suc T.p)) (suc T.l') g₁ T.P.b h₁ T.b_below i (let q : T.l' ≤ T.p = T.high in omega arith))
      (λ i u. below_conv R (suc (τ - T.l)) (suc T.l) g₂ T.L.b h₂ T.rows.b_degree.below i (omega arith))

  -- and so has that of (0, 1)
  pub single_below : T.l ≤ τ → Below R (suc τ) (located R T.P.b T.L.b (pzero R) (const R 𝟙))
  single_below hl =
      subst (Below R (suc τ))
      (ring (Poly R) (T.P.b ∷ T.L.b ∷ []) {x = T.L.b} {y = pzero R ⊠ T.P.b ⊞ const R 𝟙 ⊠ T.L.b} (search forms depth 20) tt)
      (λ i u. T.rows.b_degree.below i (omega arith))

  module _ (c : ℕ → El) (near : Near 𝓕 C k τ r c) where
    abbrev e : ℕ → El
    e = error 𝓕 r c

    abbrev g₁ : ℕ → El
    g₁ = f₁ 𝓕 T.rows (Ω 𝓕 C e) (⊟ Λ 𝓕 C e)

    abbrev g₂ : ℕ → El
    g₂ = f₂ 𝓕 T.rows (Ω 𝓕 C e) (⊟ Λ 𝓕 C e)

    key : Key R C.D (syndrome 𝓕 C r) (ε 𝓕 C e) (Λ 𝓕 C e) (Ω 𝓕 C e)
    key = word_key 𝓕 C k sum r c near.codeword

    -- the pair of c
    pair_of : IsPair R T.P T.L T.p T.l (ε 𝓕 C e) (Λ 𝓕 C e) (Ω 𝓕 C e) g₁ g₂
    pair_of =
        pair 𝓕 T.rows key T.low (λ i t. T.b_below i (let q : T.l' ≤ T.p = T.high in omega arith))

    -- a negative w₂: there is no codeword
    pub yield_some : T.l ≤ τ
    yield_some = let u : T.l ≤ ε 𝓕 C e = pair_of.enough in let v : ε 𝓕 C e ≤ τ = few_errors 𝓕 C k τ r c near in omega arith

    -- a negative w₁: the pair is (0, 1)
    pub yield_single : τ ≤ T.p → Passes 𝓕 C k τ r (located R T.P.b T.L.b (pzero R) (const R 𝟙)) c
    yield_single h =
        subst₂ (λ (x y : ℕ → El). Passes 𝓕 C k τ r (located R T.P.b T.L.b x y) c)
        (ap (λ z. const R a ⊠ z) zero_first ∙ Laws.mul_zero (Poly R) (const R a)) (fun_ext second)
        (pair_passes 𝓕 C k τ r c near pair_of a (inv_nonzero 𝓕 constant.lead))
      where
        both : (g₁ ≡ pzero R) × Degree R 0 g₂
        both = few 𝓕 pair_of (let v : ε 𝓕 C e ≤ τ = few_errors 𝓕 C k τ r c near in omega arith)

        zero_first : g₁ ≡ pzero R
        zero_first = both.0

        constant : Degree R 0 g₂
        constant = both.1

        a : El
        a = 𝓕.inv (g₂ 0)

        second : (i : ℕ) → (const R a ⊠ g₂) i ≡ const R 𝟙 i
        second zero = const_conv R a g₂ 0 ∙ R.mul_comm a (g₂ 0) ∙ 𝓕.mul_inv (g₂ 0) constant.lead ∙ unfold const in refl
        second (suc i) =
            const_conv R a g₂ (suc i) ∙ ap (λ z. a ⊗ z) (constant.below (suc i) (omega arith)) ∙ Laws.mul_zero R a ∙ unfold const in refl

    module _ (hp : T.p < τ) (s ℓ : ℕ) (order : s ≤ ℓ) (Q : ℕ → ℕ → El) (q : Interpolates 𝓕 C T τ s ℓ Q) where
      -- the pair is a root of the interpolant
      multiple_vanishes : (a : El) → form (Poly R) ℓ Q (const R a ⊠ g₂) (const R a ⊠ g₁) ≡ pzero R
      multiple_vanishes a =
          interpolant_root 𝓕 ℓ s C.n τ (τ - suc T.p) (τ - T.l) χ C.α (y_at 𝓕 C T) (z_at 𝓕 C T) Q
          (const R a ⊠ g₁) (const R a ⊠ g₂) q order (omega (arith, few_of, errors_count, l_low)) C.distinct point
          (λ i u. times_below R (ε 𝓕 C e - T.p) a g₁ pair_of.f₁_below i (omega (arith, few_of, errors_count, l_low)))
          (λ i u. times_below R (suc (ε 𝓕 C e) - T.l) a g₂ pair_of.f₂_below i (omega (arith, few_of, errors_count, l_low)))
          (λ i u. most (errors 𝓕 e i)) meet
        where
          χ : ℕ → ℕ
          χ i = cond (errors 𝓕 e i) 1 0

          errors_count : total C.n χ ≡ ε 𝓕 C e
          errors_count = total_count C.n (errors 𝓕 e)

          few_of : ε 𝓕 C e ≤ τ
          few_of = few_errors 𝓕 C k τ r c near

          l_low : T.l ≤ τ
          l_low = yield_some

          most : (t : Bool) → cond t 1 0 ≤ 1
          most true = omega arith
          most false = omega arith

          marked : (t : Bool) → ◌≡◌ {A = ℕ} (cond t 1 0) 1 → t ≡ true
          marked true z = refl
          marked false z = absurd (let y : ◌≡◌ {A = ℕ} 0 1 = z in omega arith)

          point : (i : ℕ) → i < C.n → z_at 𝓕 C T i ≡ 𝟘 → y_at 𝓕 C T i ≢ 𝟘
          point i u z y = neg_nonzero 𝓕 (not_both 𝓕 T.rows (C.α i) (C.α≢zero i u) y) z

          meet : (i : ℕ) → i < C.n → χ i ≡ 1
              → at R (C.α i) (suc (τ - suc T.p)) (const R a ⊠ g₁) ⊗ y_at 𝓕 C T i
              ≡ at R (C.α i) (suc (τ - T.l)) (const R a ⊠ g₂) ⊗ z_at 𝓕 C T i
          meet i u m =
              ap (λ z. z ⊗ y_at 𝓕 C T i)
              (times_at R a (C.α i) (suc (τ - suc T.p)) g₁
              ∙ ap (λ z. a ⊗ z) (ev_more R R (λ x. x) (id_hom R) (C.α i) (ε 𝓕 C e - T.p) (suc (τ - suc T.p)) g₁ pair_of.f₁_below (omega (arith, few_of, errors_count, l_low))))
              ∙ Laws.from_eq R a (pair_at 𝓕 T.rows (Λ_below 𝓕 C e) pair_of (C.α i) ∙ ap ⊖◌ (Λ_root 𝓕 C e i u (marked_error 𝓕 e i (marked (errors 𝓕 e i) m))) ∙ Laws.neg_zero R)
              (ring R (a ∷ A ∷ B ∷ y_at 𝓕 C T i ∷ at R (C.α i) (suc T.l) T.L.b ∷ [])
              {x = a ⊗ A ⊗ y_at 𝓕 C T i ⊕ a ⊗ 𝟘}
              {y = a ⊗ B ⊗ z_at 𝓕 C T i ⊕ a ⊗ (A ⊗ y_at 𝓕 C T i ⊕ B ⊗ at R (C.α i) (suc T.l) T.L.b)} (search forms depth 20) tt)
              ∙ sym
              (ap (λ z. z ⊗ z_at 𝓕 C T i)
              (times_at R a (C.α i) (suc (τ - T.l)) g₂
              ∙ ap (λ z. a ⊗ z) (ev_more R R (λ x. x) (id_hom R) (C.α i) (suc (ε 𝓕 C e) - T.l) (suc (τ - T.l)) g₂ pair_of.f₂_below (omega (arith, few_of, errors_count, l_low)))))
            where
              A : El
              A = at R (C.α i) (ε 𝓕 C e - T.p) g₁

              B : El
              B = at R (C.α i) (suc (ε 𝓕 C e) - T.l) g₂

      -- made normal, it is among the roots that the decoder looks for, and c passes by it
      pub yield_root : (F₁ : ℕ → El) × (F₂ : ℕ → El) × Root R ℓ (w₁ τ T) (w₂ τ T) Q F₁ F₂
          × Passes 𝓕 C k τ r (located R T.P.b T.L.b F₁ F₂) c
      yield_root = go (degree_of 𝓕 (suc (ε 𝓕 C e) - T.l) g₂ pair_of.f₂_below)
        where
          go : (g₂ ≡ pzero R) ⊎ ((d : ℕ) × Degree R d g₂)
              → (F₁ : ℕ → El) × (F₂ : ℕ → El) × Root R ℓ (w₁ τ T) (w₂ τ T) Q F₁ F₂
              × Passes 𝓕 C k τ r (located R T.P.b T.L.b F₁ F₂) c
          go (inl z) = absurd (pair_of.f₂≢zero z)
          go (inr (d, h)) = (
            const R a ⊠ g₁,
            const R a ⊠ g₂,
            record {
              f₁_below = λ i u. times_below R (ε 𝓕 C e - T.p) a g₁ pair_of.f₁_below i (let v : ε 𝓕 C e ≤ τ = few_errors 𝓕 C k τ r c near in omega arith);
              f₂_below = λ i u. times_below R (suc (ε 𝓕 C e) - T.l) a g₂ pair_of.f₂_below i (let v : ε 𝓕 C e ≤ τ = few_errors 𝓕 C k τ r c near in let x : T.l ≤ τ = yield_some in omega arith);
              coprime = coprime_scale 𝓕 a (inv_nonzero 𝓕 h.lead) g₁ g₂ pair_of.coprime;
              normal = inl (d, times_below R (suc d) a g₂ h.below, const_conv R a g₂ d ∙ R.mul_comm a (g₂ d) ∙ 𝓕.mul_inv (g₂ d) h.lead);
              vanishes = multiple_vanishes a;
            },
            pair_passes 𝓕 C k τ r c near pair_of a (inv_nonzero 𝓕 h.lead),
          )
            where
              a : El
              a = 𝓕.inv (g₂ d)
