-- A leaf's answer is the only root whose series begins with the digits, in this order: a root with these digits is a leaf's pair, the digits of a leaf's pair, two
-- normal pairs of one leaf, lists with the same polynomial, and the theorem.
use Rattle.std.proofs.Common.{◌≡◌, ℕ, suc, ◌+◌, ◌≢◌, List, [], ◌∷◌, length, get_or, Some, None, Option, sym, ap, ◌∙◌, subst, ap₂, MatchOption}
use Rattle.std.proofs.lemmas.List.{ext_get_or}
use Rattle.algebra.specs.Ring.{Ring}
use Rattle.algebra.specs.RingLaws as L
use Rattle.algebra.specs.Solve.{ring}
use Rattle.algebra.specs.Field.{Field}
use Rattle.algebra.specs.Sums.{pow}
use Rattle.algebra.specs.Poly.{conv, padd, pneg, const, Order, Bounded}
use Rattle.algebra.specs.PolyRing.{Poly, const_conv}
use Rattle.algebra.specs.PolyForms.{forms}
use Rattle.algebra.specs.Taylor.{form}
use Rattle.algebra.proofs.Homogeneous.{form_scale}
use Rattle.algebra.proofs.Coprime.{const_inverse, coprime_sym, normal_unique}
use Rattle.decoding.specs.Rational.{Plain}
use Rattle.decoding.specs.Walk.{LeafRows, Leaf}
use Rattle.decoding.proofs.Reconstruct.{reconstruct_coprime}
use Rattle.decoding.proofs.Walk.{leaf_root, leaf_constant}
use Rattle.fields.specs.Numbers.{Numbers, AllBelow, Element, ring_of, field_of, elem_inj}
use Rattle.polynomials.specs.Series.{poly}
use Rattle.polynomials.proofs.Readings.{all_at, poly_at, poly_past}
use Rattle.leaves.specs.declared.pairs.Pair.{Pair}
use Rattle.leaves.specs.declared.pairs.Chart.{Chart}
use Rattle.leaves.specs.declared.pairs.Chart.TheVariants.{Direct, Turned}
use Rattle.leaves.specs.Order.{arranged}
use Rattle.leaves.specs.Reached.{Full, RootAt, Reached, Begins, Exact}

module _ (S : Ring) where
  infixl 60 ◌⊕◌
  infixl 70 ◌⊗◌
  infix 80 ⊖◌
  open S use {El, 𝟙, ◌⊕◌, ⊖◌, ◌⊗◌}

  undone : (c i f g : El) → g ≡ c ⊗ f → c ⊗ i ≡ 𝟙 → f ≡ i ⊗ g
  undone c i f g e h =
      sym (L.one_mul S f) ∙ ap (λ z. z ⊗ f) (sym h) ∙ ring S (c ∷ i ∷ f ∷ []) (search forms depth 20) tt ∙ ap (λ z. i ⊗ z) (sym e)

  crossed : (c d a b f₁ f₂ g₁ g₂ : El) → f₁ ≡ c ⊗ b → f₂ ≡ c ⊗ a → g₁ ≡ d ⊗ b → g₂ ≡ d ⊗ a → f₁ ⊗ g₂ ≡ f₂ ⊗ g₁
  crossed c d a b f₁ f₂ g₁ g₂ e₁ e₂ h₁ h₂ =
      ap₂ ◌⊗◌ e₁ h₂ ∙ ring S (c ∷ d ∷ a ∷ b ∷ []) (search forms depth 20) tt ∙ sym (ap₂ ◌⊗◌ e₂ h₁)

  rests : (c a b φ f₁ f₂ : El) → f₁ ≡ c ⊗ ⊖ b → f₂ ≡ c ⊗ a → f₂ ⊕ ⊖ (φ ⊗ f₁) ≡ c ⊗ (a ⊕ b ⊗ φ)
  rests c a b φ f₁ f₂ e₁ e₂ =
      ap₂ (λ u v. u ⊕ ⊖ (φ ⊗ v)) e₂ e₁ ∙ ring S (c ∷ a ∷ b ∷ φ ∷ []) (search forms depth 20) tt

module _ (𝓕 : Field) (ℓ w₁ w₂ : ℕ) (Q : ℕ → ℕ → 𝓕.ring.El) {φ : ℕ → 𝓕.ring.El} (T : LeafRows 𝓕.ring w₁ w₂ φ) where
  infixl 70 ◌⊗◌
  infixl 70 ◌⊠◌
  open 𝓕.ring use {El, 𝟘, ◌⊗◌}
  open Poly 𝓕.ring use {◌⊗◌ as ◌⊠◌}

  abbrev R : Ring
  R = 𝓕.ring

  -- a root with these digits is a leaf's pair
  pub leaf_at : (f₁ f₂ : ℕ → El) → f₁ 0 ≢ 𝟘 → Plain R ℓ w₁ w₂ Q f₁ f₂ → Order R (suc (w₁ + w₂)) (padd R f₂ (pneg R (conv R φ f₁)))
      → Leaf R ℓ w₁ w₂ Q T f₁ f₂
  leaf_at f₁ f₂ h x o =
      let (c, nz, e₁, e₂) = reconstruct_coprime 𝓕 w₁ w₂ T f₁ f₂ x.f₁_below x.f₂_below o x.coprime in
      let i : ℕ → El = const R (𝓕.inv c) in
      record {
        factor = c;
        factor≢zero = nz;
        first = e₁;
        second = e₂;
        constant = λ z. h (ap (λ (f : ℕ → El). f 0) e₁ ∙ const_conv R c (pneg R T.L.b) 0 ∙ ap (λ y. c ⊗ y) z ∙ L.mul_zero R c);
        root =
            ap₂ (form (Poly R) ℓ Q) (undone (Poly R) (const R c) i T.L.a f₂ e₂ (const_inverse 𝓕 c nz))
            (undone (Poly R) (const R c) i (pneg R T.L.b) f₁ e₁ (const_inverse 𝓕 c nz))
            ∙ form_scale (Poly R) ℓ Q i f₂ f₁ ∙ ap (λ y. pow (Poly R) i ℓ ⊠ y) x.vanishes ∙ L.mul_zero (Poly R) (pow (Poly R) i ℓ);
      }

  -- the digits of a leaf's pair
  pub leaf_series : (f₁ f₂ : ℕ → El) → Leaf R ℓ w₁ w₂ Q T f₁ f₂ → Order R (suc (w₁ + w₂)) (padd R f₂ (pneg R (conv R φ f₁)))
  leaf_series f₁ f₂ x i l =
      ap (λ (f : ℕ → El). f i) (rests (Poly R) (const R x.factor) T.L.a T.L.b φ f₁ f₂ x.first x.second)
      ∙ const_conv R x.factor (padd R T.L.a (conv R T.L.b φ)) i ∙ ap (λ y. x.factor ⊗ y) (T.rows.last i l) ∙ L.mul_zero R x.factor

  pub leaf_crossed : (f₁ f₂ g₁ g₂ : ℕ → El) → Leaf R ℓ w₁ w₂ Q T f₁ f₂ → Leaf R ℓ w₁ w₂ Q T g₁ g₂ → f₁ ⊠ g₂ ≡ f₂ ⊠ g₁
  leaf_crossed f₁ f₂ g₁ g₂ x y =
      crossed (Poly R) (const R x.factor) (const R y.factor) T.L.a (pneg R T.L.b) f₁ f₂ g₁ g₂ x.first x.second y.first y.second

module _ (F : Numbers) where
  -- a list of elements is known by its polynomial
  pub same_list : (xs ys : List ℕ) → length xs ≡ length ys → AllBelow F.q xs → AllBelow F.q ys → poly F xs ≡ poly F ys → xs ≡ ys
  same_list xs ys l a b e =
      ext_get_or 0 xs ys l
      (λ i u.
      elem_inj F (get_or xs i 0) (get_or ys i 0) (all_at F xs a i) (all_at F ys b i)
      (sym (poly_at F xs i) ∙ ap (λ (f : ℕ → Element F). f i) e ∙ poly_at F ys i))

  -- and so is a full record
  pub same_pair : (p q : Pair) → Full F.q p → Full F.q q → poly F p.first ≡ poly F q.first → poly F p.second ≡ poly F q.second → p ≡ q
  same_pair p q x y e f =
      ap₂ (λ u v. let r : Pair = record { first = u; second = v } in r)
      (same_list p.first q.first (x.first_long ∙ sym y.first_long) x.first_below y.first_below e)
      (same_list p.second q.second (x.second_long ∙ sym y.second_long) x.second_below y.second_below f)

  bounded : (xs : List ℕ) → Bounded (ring_of F) (poly F xs)
  bounded xs = (length xs, poly_past F xs)

  module _ (ℓ w₁ w₂ : ℕ) (Q : ℕ → ℕ → Element F) (ds : List ℕ) (T : LeafRows (ring_of F) w₁ w₂ (poly F ds)) where
    begins : (chart : Chart) (p : Pair) → RootAt F chart ℓ w₁ w₂ Q T p → Begins F chart ℓ w₁ w₂ Q ds p
    begins chart p x =
        let f₁ = poly F (arranged chart p).first in
        let f₂ = poly F (arranged chart p).second in
        record {
          full = x.full;
          normal = x.normal;
          root = leaf_root (field_of F) ℓ w₁ w₂ Q T f₁ f₂ x.leaf;
          constant = leaf_constant (field_of F) ℓ w₁ w₂ Q T f₁ f₂ x.leaf;
          series = leaf_series (field_of F) ℓ w₁ w₂ Q T f₁ f₂ x.leaf;
        }

    leaf_begins : (chart : Chart) (p : Pair) → Begins F chart ℓ w₁ w₂ Q ds p
        → Leaf (ring_of F) ℓ w₁ w₂ Q T (poly F (arranged chart p).first) (poly F (arranged chart p).second)
    leaf_begins chart p x =
        leaf_at (field_of F) ℓ w₁ w₂ Q T (poly F (arranged chart p).first) (poly F (arranged chart p).second) x.constant x.root x.series

    one_normal : (chart : Chart) (p q : Pair) → Begins F chart ℓ w₁ w₂ Q ds p → Begins F chart ℓ w₁ w₂ Q ds q
        → (poly F p.first ≡ poly F q.first) × (poly F p.second ≡ poly F q.second)
    one_normal Direct p q x y =
        normal_unique (field_of F) (poly F p.first) (poly F p.second) (poly F q.first) (poly F q.second)
        (bounded p.first) (bounded p.second) (bounded q.first) (bounded q.second) x.root.coprime y.root.coprime
        (leaf_crossed (field_of F) ℓ w₁ w₂ Q T _ _ _ _ (leaf_begins Direct p x) (leaf_begins Direct q y)) x.normal y.normal
    one_normal Turned p q x y =
        normal_unique (field_of F) (poly F p.first) (poly F p.second) (poly F q.first) (poly F q.second)
        (bounded p.first) (bounded p.second) (bounded q.first) (bounded q.second)
        (coprime_sym (ring_of F) x.root.coprime) (coprime_sym (ring_of F) y.root.coprime)
        (sym (leaf_crossed (field_of F) ℓ w₁ w₂ Q T _ _ _ _ (leaf_begins Turned p x) (leaf_begins Turned q y))) x.normal y.normal

    one_pair : (chart : Chart) (p q : Pair) → Begins F chart ℓ w₁ w₂ Q ds p → Begins F chart ℓ w₁ w₂ Q ds q → p ≡ q
    one_pair chart p q x y = let e = one_normal chart p q x y in same_pair p q x.full y.full e.0 e.1

    found : (chart : Chart) (r : Option Pair)
        → MatchOption r ((f₁ f₂ : ℕ → Element F) → Leaf (ring_of F) ℓ w₁ w₂ Q T f₁ f₂ → ⊥) (RootAt F chart ℓ w₁ w₂ Q T)
        → (p : Pair) → Begins F chart ℓ w₁ w₂ Q ds p → r ≡ Some p
    found chart None x p y = absurd (x _ _ (leaf_begins chart p y))
    found chart (Some q) x p y = ap Some (one_pair chart q p (begins chart q x) y)

    sound : (chart : Chart) (r : Option Pair)
        → MatchOption r ((f₁ f₂ : ℕ → Element F) → Leaf (ring_of F) ℓ w₁ w₂ Q T f₁ f₂ → ⊥) (RootAt F chart ℓ w₁ w₂ Q T)
        → (p : Pair) → r ≡ Some p → Begins F chart ℓ w₁ w₂ Q ds p
    sound chart r x p e =
        begins chart p (subst (λ (s : Option Pair). MatchOption s ((f₁ f₂ : ℕ → Element F) → Leaf (ring_of F) ℓ w₁ w₂ Q T f₁ f₂ → ⊥) (RootAt F chart ℓ w₁ w₂ Q T)) e x)

  -- the answer of a leaf is exact
  pub reached_exact : (chart : Chart) (ℓ w₁ w₂ : ℕ) (Q : ℕ → ℕ → Element F) (ds : List ℕ) (r : Option Pair)
      → Reached F chart ℓ w₁ w₂ Q ds r → Exact F chart ℓ w₁ w₂ Q ds r
  reached_exact chart ℓ w₁ w₂ Q ds r x =
      record { sound = sound ℓ w₁ w₂ Q ds x.rows chart r x.answer; complete = found ℓ w₁ w₂ Q ds x.rows chart r x.answer }
