-- The walks of two charts come to all roots of Q within the bounds, and to no other pair. In this order: the pair of a leaf is a root; the
-- digits of a root are taken, and its leaf gives the root; the chart of the roots with f₁ (0) ≠ 0, that of the others, and both together.
use mathlib.Core.Path.{◌≡◌, sym, ◌∙◌, ap, ap₂, subst₂}
use mathlib.Core.List.{[], ◌∷◌}
use mathlib.Core.Logic.{◌≢◌, ◌⊎◌, inl, inr, ◌↔◌}
use Prim.Native.Nat.{ℕ, zero, suc, ◌+◌, ◌≤◌}
use native.Mathlib.Omega.{arith}
use Rattle.algebra.specs.Ring.{Ring}
use Rattle.algebra.specs.RingLaws as Laws
use Rattle.algebra.specs.Solve.{ring}
use Rattle.algebra.specs.Field.{Field}
use Rattle.algebra.specs.Sums.{pow}
use Rattle.algebra.specs.Poly.{conv, padd, pneg, pzero, const, Below}
use Rattle.algebra.specs.PolyRing.{Poly, const_conv}
use Rattle.algebra.specs.PolyForms.{forms}
use Rattle.algebra.specs.Taylor.{form}
use Rattle.algebra.specs.Coprime.{Normal}
use Rattle.algebra.proofs.FieldLaws.{mul_nonzero}
use Rattle.algebra.proofs.Eval.{below_neg}
use Rattle.algebra.proofs.Roots.{no_divisors}
use Rattle.algebra.proofs.PolySums.{times_below}
use Rattle.algebra.proofs.Homogeneous.{form_swap, form_scale}
use Rattle.algebra.proofs.Coprime.{const_inverse, coprime_sym, coprime_neg, coprime_scale, coprime_constant}
use Rattle.decoding.specs.Rational.{Plain, Root}
use Rattle.decoding.specs.Walk.{Visited, LeafRows, Leaf, turned, Found, FoundTurned}
use Rattle.decoding.specs.Walk.Visited.{start, further}
use Rattle.decoding.proofs.Reconstruct.{row_coprime, row_b, reconstruct_coprime}
use Rattle.decoding.proofs.Digit.{next, prefix, prefix_order, prefix_allowed}

module _ (R : Ring) where
  infixl 70 ◌⊗◌
  open R use {El, 𝟙, ◌⊗◌}

  undo : (c i f g : El) → g ≡ c ⊗ f → c ⊗ i ≡ 𝟙 → f ≡ i ⊗ g
  undo c i f g e h =
      Laws.from_eq R (R.⊖◌ i) e (Laws.from_eq R (R.⊖◌ f) h (ring R (c ∷ i ∷ f ∷ g ∷ []) (search forms depth 20) tt))

module _ (𝓕 : Field) where
  infixl 60 ◌⊕◌
  infixl 70 ◌⊗◌
  infix 80 ⊖◌
  infixl 60 ◌⊞◌
  infixl 70 ◌⊠◌
  infix 80 ⊟◌
  abbrev R : Ring
  R = 𝓕.ring

  open 𝓕.ring use {El, 𝟘, 𝟙, ◌⊕◌, ⊖◌, ◌⊗◌}
  open Poly 𝓕.ring use {◌⊕◌ as ◌⊞◌, ⊖◌ as ⊟◌, ◌⊗◌ as ◌⊠◌}

  module _ (ℓ w₁ w₂ : ℕ) (Q : ℕ → ℕ → El) where
    -- a leaf's pair is a root
    pub leaf_root : {φ : ℕ → El} (T : LeafRows R w₁ w₂ φ) (f₁ f₂ : ℕ → El) → Leaf R ℓ w₁ w₂ Q T f₁ f₂ → Plain R ℓ w₁ w₂ Q f₁ f₂
    leaf_root {φ} T f₁ f₂ x =
        subst₂ (Plain R ℓ w₁ w₂ Q) (sym x.first) (sym x.second)
        (record {
          f₁_below = times_below R (suc w₁) x.factor (⊟ b) (below_neg R (suc w₁) b b_below);
          f₂_below = times_below R (suc w₂) x.factor a T.low;
          coprime =
              coprime_scale 𝓕 x.factor x.factor≢zero (⊟ b) a
              (coprime_neg R (row_coprime 𝓕 T.rows (λ z. x.constant (unfold pneg in ap ⊖◌ z ∙ Laws.neg_zero R))));
          vanishes =
              form_scale (Poly R) ℓ Q (const R x.factor) a (⊟ b) ∙ ap (λ z. pow (Poly R) (const R x.factor) ℓ ⊠ z) x.root
              ∙ Laws.mul_zero (Poly R) (pow (Poly R) (const R x.factor) ℓ);
        })
      where
        a : ℕ → El
        a = T.L.a

        b : ℕ → El
        b = T.L.b

        b_below : Below R (suc w₁) b
        b_below i u = T.rows.b_degree.below i (let v : T.l ≤ w₁ = row_b 𝓕 w₁ w₂ T in omega arith)

    -- the digits of a root are taken
    pub visited : (f₁ f₂ : ℕ → El) → f₁ 0 ≢ 𝟘 → form (Poly R) ℓ Q f₂ f₁ ≡ pzero R → (t : ℕ) → Visited R ℓ Q t (prefix 𝓕 f₁ f₂ t)
    unfolding prefix
    visited f₁ f₂ h root zero = start
    visited f₁ f₂ h root (suc t) =
        further (next 𝓕 t (prefix 𝓕 f₁ f₂ t) f₁ f₂) (visited f₁ f₂ h root t) (prefix_allowed 𝓕 ℓ Q f₁ f₂ h root t)

    -- and its leaf gives the root, wherever Euclid's algorithm stops
    pub leaf_of : (f₁ f₂ : ℕ → El) → f₁ 0 ≢ 𝟘 → Plain R ℓ w₁ w₂ Q f₁ f₂
        → (T : LeafRows R w₁ w₂ (prefix 𝓕 f₁ f₂ (suc (w₁ + w₂)))) → Leaf R ℓ w₁ w₂ Q T f₁ f₂
    leaf_of f₁ f₂ h x T =
        let (c, nz, e₁, e₂) = reconstruct_coprime 𝓕 w₁ w₂ T f₁ f₂ x.f₁_below x.f₂_below (prefix_order 𝓕 f₁ f₂ h (suc (w₁ + w₂))) x.coprime in
        let i : ℕ → El = const R (𝓕.inv c) in
        record {
          factor = c;
          factor≢zero = nz;
          first = e₁;
          second = e₂;
          constant = λ z. h (ap (λ (f : ℕ → El). f 0) e₁ ∙ const_conv R c (⊟ T.L.b) 0 ∙ ap (λ y. c ⊗ y) z ∙ Laws.mul_zero R c);
          root =
              ap₂ (form (Poly R) ℓ Q) (undo (Poly R) (const R c) i T.L.a f₂ e₂ (const_inverse 𝓕 c nz))
              (undo (Poly R) (const R c) i (⊟ T.L.b) f₁ e₁ (const_inverse 𝓕 c nz))
              ∙ form_scale (Poly R) ℓ Q i f₂ f₁ ∙ ap (λ y. pow (Poly R) i ℓ ⊠ y) x.vanishes ∙ Laws.mul_zero (Poly R) (pow (Poly R) i ℓ);
        }

    pub leaf_constant : {φ : ℕ → El} (T : LeafRows R w₁ w₂ φ) (f₁ f₂ : ℕ → El) → Leaf R ℓ w₁ w₂ Q T f₁ f₂ → f₁ 0 ≢ 𝟘
    leaf_constant T f₁ f₂ x z =
        mul_nonzero 𝓕 x.factor≢zero x.constant
        (sym (const_conv R x.factor (⊟ T.L.b) 0) ∙ ap (λ (f : ℕ → El). f 0) (sym x.first) ∙ z)

    -- The first chart: stop is where Euclid's algorithm stops, for each leaf
    module _ (stop : (φ : ℕ → El) → Visited R ℓ Q (suc (w₁ + w₂)) φ → LeafRows R w₁ w₂ φ) where
      pub first_chart : (f₁ f₂ : ℕ → El) → Found R ℓ w₁ w₂ Q stop f₁ f₂ ↔ (Plain R ℓ w₁ w₂ Q f₁ f₂ × (f₁ 0 ≢ 𝟘))
      first_chart f₁ f₂ = (
        λ t. (leaf_root (stop t.0 t.1) f₁ f₂ t.2, leaf_constant (stop t.0 t.1) f₁ f₂ t.2),
        λ x. (
          prefix 𝓕 f₁ f₂ (suc (w₁ + w₂)),
          visited f₁ f₂ x.1 x.0.vanishes (suc (w₁ + w₂)),
          leaf_of f₁ f₂ x.1 x.0 (stop (prefix 𝓕 f₁ f₂ (suc (w₁ + w₂))) (visited f₁ f₂ x.1 x.0.vanishes (suc (w₁ + w₂)))),
        ),
      )

    turn : (f₁ f₂ : ℕ → El) → form (Poly R) ℓ (turned ℓ Q) f₁ f₂ ≡ form (Poly R) ℓ Q f₂ f₁
    turn f₁ f₂ = form_swap (Poly R) ℓ Q f₂ f₁

  -- The second chart: y and z change places, and the first digit is 0
  module _ (ℓ w₁ w₂ : ℕ) (Q : ℕ → ℕ → El) where
    module _ (stop : (φ : ℕ → El) → Visited R ℓ (turned ℓ Q) (suc (w₂ + w₁)) φ → φ 0 ≡ 𝟘 → LeafRows R w₂ w₁ φ) where
      pub second_chart : (f₁ f₂ : ℕ → El) → FoundTurned R ℓ w₁ w₂ Q stop f₁ f₂ ↔ (Plain R ℓ w₁ w₂ Q f₁ f₂ × (f₁ 0 ≡ 𝟘))
      second_chart f₁ f₂ = (λ t. there t.0 t.1 t.2 t.3, λ x. back x.0 x.1)
        where
          there : (φ : ℕ → El) (v : Visited R ℓ (turned ℓ Q) (suc (w₂ + w₁)) φ) (z : φ 0 ≡ 𝟘)
              → Leaf R ℓ w₂ w₁ (turned ℓ Q) (stop φ v z) f₂ f₁ → Plain R ℓ w₁ w₂ Q f₁ f₂ × (f₁ 0 ≡ 𝟘)
          there φ v z x = (plain (leaf_root ℓ w₂ w₁ (turned ℓ Q) (stop φ v z) f₂ f₁ x), none)
            where
              plain : Plain R ℓ w₂ w₁ (turned ℓ Q) f₂ f₁ → Plain R ℓ w₁ w₂ Q f₁ f₂
              plain y =
                  record {
                    f₁_below = y.f₂_below;
                    f₂_below = y.f₁_below;
                    coprime = coprime_sym R y.coprime;
                    vanishes = sym (turn ℓ w₁ w₂ Q f₁ f₂) ∙ y.vanishes;
                  }

              a : ℕ → El
              a = (stop φ v z).L.a

              b : ℕ → El
              b = (stop φ v z).L.b

              a_none : a 0 ≡ 𝟘
              a_none =
                  ring R (a 0 ∷ b 0 ∷ []) {y = a 0 ⊕ b 0 ⊗ 𝟘} (search forms depth 20) tt
                  ∙ ap (λ y. a 0 ⊕ b 0 ⊗ y) (sym z) ∙ unfold conv padd in (stop φ v z).rows.last 0 (omega arith)

              none : f₁ 0 ≡ 𝟘
              none =
                  ap (λ (f : ℕ → El). f 0) x.second ∙ const_conv R x.factor a 0 ∙ ap (λ y. x.factor ⊗ y) a_none
                  ∙ Laws.mul_zero R x.factor

          back : Plain R ℓ w₁ w₂ Q f₁ f₂ → f₁ 0 ≡ 𝟘 → FoundTurned R ℓ w₁ w₂ Q stop f₁ f₂
          back x z = (φ, v, first, leaf_of ℓ w₂ w₁ (turned ℓ Q) f₂ f₁ h plain (stop φ v first))
            where
              h : f₂ 0 ≢ 𝟘
              h = coprime_constant 𝓕 f₁ f₂ x.coprime z

              plain : Plain R ℓ w₂ w₁ (turned ℓ Q) f₂ f₁
              plain =
                  record {
                    f₁_below = x.f₂_below;
                    f₂_below = x.f₁_below;
                    coprime = coprime_sym R x.coprime;
                    vanishes = turn ℓ w₁ w₂ Q f₁ f₂ ∙ x.vanishes;
                  }

              φ : ℕ → El
              φ = prefix 𝓕 f₂ f₁ (suc (w₂ + w₁))

              v : Visited R ℓ (turned ℓ Q) (suc (w₂ + w₁)) φ
              v = visited ℓ w₂ w₁ (turned ℓ Q) f₂ f₁ h plain.vanishes (suc (w₂ + w₁))

              order : f₁ 0 ⊕ ⊖ (φ 0 ⊗ f₂ 0) ≡ 𝟘
              order = unfold conv padd pneg in prefix_order 𝓕 f₂ f₁ h (suc (w₂ + w₁)) 0 (omega arith)

              first : φ 0 ≡ 𝟘
              first =
                  no_divisors 𝓕 (f₂ 0) (φ 0)
                  (R.mul_comm (f₂ 0) (φ 0) ∙ sym (Laws.eq_of_sub R (f₁ 0) (φ 0 ⊗ f₂ 0) order) ∙ z) h

      -- Both charts: the normal ones of the pairs that the walks find are the roots
      module _ (stop₁ : (φ : ℕ → El) → Visited R ℓ Q (suc (w₁ + w₂)) φ → LeafRows R w₁ w₂ φ) where
        pub roots_exact : (f₁ f₂ : ℕ → El)
            → (Normal R f₁ f₂ × (Found R ℓ w₁ w₂ Q stop₁ f₁ f₂ ⊎ FoundTurned R ℓ w₁ w₂ Q stop f₁ f₂)) ↔ Root R ℓ w₁ w₂ Q f₁ f₂
        roots_exact f₁ f₂ = (λ t. there t.0 t.1, λ x. (x.normal, back x (𝓕.equal (f₁ 0) 𝟘)))
          where
            root : Normal R f₁ f₂ → Plain R ℓ w₁ w₂ Q f₁ f₂ → Root R ℓ w₁ w₂ Q f₁ f₂
            root m x =
                record {
                  f₁_below = x.f₁_below;
                  f₂_below = x.f₂_below;
                  coprime = x.coprime;
                  normal = m;
                  vanishes = x.vanishes;
                }

            there : Normal R f₁ f₂ → Found R ℓ w₁ w₂ Q stop₁ f₁ f₂ ⊎ FoundTurned R ℓ w₁ w₂ Q stop f₁ f₂ → Root R ℓ w₁ w₂ Q f₁ f₂
            there m (inl t) = root m ((first_chart ℓ w₁ w₂ Q stop₁ f₁ f₂).0 t).0
            there m (inr t) = root m ((second_chart f₁ f₂).0 t).0

            back : Root R ℓ w₁ w₂ Q f₁ f₂ → Dec (f₁ 0 ≡ 𝟘) → Found R ℓ w₁ w₂ Q stop₁ f₁ f₂ ⊎ FoundTurned R ℓ w₁ w₂ Q stop f₁ f₂
            back x d = go d (record { f₁_below = x.f₁_below; f₂_below = x.f₂_below; coprime = x.coprime; vanishes = x.vanishes })
              where
                go : Dec (f₁ 0 ≡ 𝟘) → Plain R ℓ w₁ w₂ Q f₁ f₂ → Found R ℓ w₁ w₂ Q stop₁ f₁ f₂ ⊎ FoundTurned R ℓ w₁ w₂ Q stop f₁ f₂
                go (yes z) y = inr ((second_chart f₁ f₂).1 (y, z))
                go (no z) y = inl ((first_chart ℓ w₁ w₂ Q stop₁ f₁ f₂).1 (y, z))
