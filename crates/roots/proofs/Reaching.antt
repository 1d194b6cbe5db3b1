-- What a leaf's answer says of the roots: what it finds is one, and it finds the root whose digits it was given.
use Rattle.std.proofs.Common.{◌≡◌, ℕ, suc, ◌+◌, ◌-◌, ◌≤◌, List, [], ◌∷◌, Some, None, Option, sym, refl, ap, ◌∙◌, subst, ap₂, arith}
use Rattle.algebra.specs.Ring.{Ring}
use Rattle.algebra.specs.PolyRing.{Poly}
use Rattle.algebra.specs.Taylor.{form}
use Rattle.algebra.specs.Coprime.{Normal}
use Rattle.algebra.proofs.Homogeneous.{form_swap}
use Rattle.algebra.proofs.Coprime.{coprime_sym}
use Rattle.decoding.specs.Rational.{Plain}
use Rattle.decoding.specs.Walk.{LeafRows, Leaf, turned}
use Rattle.decoding.proofs.Walk.{leaf_root, leaf_of}
use Rattle.algebra.specs.Poly.{conv, const, pneg}
use Rattle.algebra.specs.Solve.{ring}
use Rattle.algebra.specs.PolyForms.{forms}
use Rattle.algebra.proofs.Coprime.{normal_unique}
use Rattle.fields.specs.Numbers.{Numbers, Element, ring_of, field_of}
use Rattle.polynomials.specs.Series.{poly}
use Rattle.leaves.specs.declared.pairs.Pair.{Pair}
use Rattle.leaves.specs.declared.pairs.Chart.TheVariants.{Direct, Turned}
use Rattle.leaves.specs.Reached.{Full, Reached}
use Rattle.roots.specs.Asked.{Asked}
use Rattle.roots.specs.Answer.{form_of, IsRoot}
use Rattle.roots.proofs.Charts.{form_cong, Wanted₁, Wanted₂}
use Rattle.roots.proofs.Few.{same_pair}

module _ (F : Numbers) (a : Asked) where
  abbrev R : Ring
  R = ring_of F

  -- two pairs of one leaf are multiples of one pair
  cross : (ℓ w₁ w₂ : ℕ) (Q : ℕ → ℕ → Element F) {φ : ℕ → Element F} (T : LeafRows R w₁ w₂ φ) (f₁ f₂ g₁ g₂ : ℕ → Element F) → Leaf R ℓ w₁ w₂ Q T f₁ f₂ → Leaf R ℓ w₁ w₂ Q T g₁ g₂ → conv R f₁ g₂ ≡ conv R f₂ g₁
  cross ℓ w₁ w₂ Q T f₁ f₂ g₁ g₂ x y =
      ap₂ (conv R) x.first y.second
      ∙ ring (Poly R) (const R x.factor ∷ const R y.factor ∷ pneg R T.L.b ∷ T.L.a ∷ []) {x = conv R (conv R (const R x.factor) (pneg R T.L.b)) (conv R (const R y.factor) T.L.a)} {y = conv R (conv R (const R x.factor) T.L.a) (conv R (const R y.factor) (pneg R T.L.b))} (search forms depth 20) tt
      ∙ sym (ap₂ (conv R) x.second y.first)

  one_root : (p z : Pair) → IsRoot F a p → IsRoot F a z → conv R (poly F p.first) (poly F z.second) ≡ conv R (poly F p.second) (poly F z.first) → p ≡ z
  one_root p z x y e =
      let same =
      normal_unique (field_of F) (poly F p.first) (poly F p.second) (poly F z.first) (poly F z.second) (suc a.w₁, x.root.f₁_below) (suc a.w₂, x.root.f₂_below) (suc a.w₁, y.root.f₁_below) (suc a.w₂, y.root.f₂_below) x.root.coprime y.root.coprime e x.root.normal y.root.normal in
      same_pair F a p z x y same.0 same.1

  is_root : (p : Pair) → Full F.q p → Normal R (poly F p.first) (poly F p.second) → Plain R a.ℓ a.w₁ a.w₂ (form_of F a) (poly F p.first) (poly F p.second) → IsRoot F a p
  is_root p full normal x =
      record {
        first_long = full.first_long;
        second_long = full.second_long;
        first_below = full.first_below;
        second_below = full.second_below;
        root = record { f₁_below = x.f₁_below; f₂_below = x.f₂_below; coprime = x.coprime; normal = normal; vanishes = x.vanishes };
      }

  plain_of : (p : Pair) → IsRoot F a p → Plain R a.ℓ a.w₁ a.w₂ (form_of F a) (poly F p.first) (poly F p.second)
  plain_of p x = record { f₁_below = x.root.f₁_below; f₂_below = x.root.f₂_below; coprime = x.root.coprime; vanishes = x.root.vanishes }

  -- the turned form at the pair with its polynomials in each other's place
  module _ (T : ℕ → ℕ → Element F) (same : (t : ℕ) → t ≤ a.ℓ → T t ≡ form_of F a (a.ℓ - t)) where
    turn : (f₁ f₂ : ℕ → Element F) → form (Poly R) a.ℓ T f₁ f₂ ≡ form (Poly R) a.ℓ (form_of F a) f₂ f₁
    turn f₁ f₂ = form_cong (Poly R) a.ℓ (turned a.ℓ (form_of F a)) T f₁ f₂ same ∙ form_swap (Poly R) a.ℓ (form_of F a) f₂ f₁

    plain_back : (f₁ f₂ : ℕ → Element F) → Plain R a.ℓ a.w₂ a.w₁ T f₂ f₁ → Plain R a.ℓ a.w₁ a.w₂ (form_of F a) f₁ f₂
    plain_back f₁ f₂ y =
        record { f₁_below = y.f₂_below; f₂_below = y.f₁_below; coprime = coprime_sym R y.coprime; vanishes = sym (turn f₁ f₂) ∙ y.vanishes }

    plain_turned : (f₁ f₂ : ℕ → Element F) → Plain R a.ℓ a.w₁ a.w₂ (form_of F a) f₁ f₂ → Plain R a.ℓ a.w₂ a.w₁ T f₂ f₁
    plain_turned f₁ f₂ y =
        record { f₁_below = y.f₂_below; f₂_below = y.f₁_below; coprime = coprime_sym R y.coprime; vanishes = turn f₁ f₂ ∙ y.vanishes }

    pub good_turned : (ds : List ℕ) (r : Option Pair) → Reached F Turned a.ℓ a.w₂ a.w₁ T ds r → (z : Pair) → r ≡ Some z → IsRoot F a z
    good_turned ds None x z e = absurd (let n : ◌≡◌ {A = ℕ} 0 1 = cc in omega arith)
    good_turned ds (Some p) x z e =
        let at = x.answer in
        subst (IsRoot F a) (let q : p ≡ z = cc in q)
        (is_root p at.full at.normal
        (plain_back (poly F p.first) (poly F p.second) (leaf_root (field_of F) a.ℓ a.w₂ a.w₁ T x.rows (poly F p.second) (poly F p.first) at.leaf)))

    leaf : (ds : List ℕ) (z : Pair) → Wanted₂ F a (suc (a.w₂ + a.w₁)) ds z → (rows : LeafRows R a.w₂ a.w₁ (poly F ds)) → Leaf R a.ℓ a.w₂ a.w₁ T rows (poly F z.second) (poly F z.first)
    leaf ds z w =
        subst (λ (φ : ℕ → Element F). (rows : LeafRows R a.w₂ a.w₁ φ) → Leaf R a.ℓ a.w₂ a.w₁ T rows (poly F z.second) (poly F z.first)) w.digits
        (leaf_of (field_of F) a.ℓ a.w₂ a.w₁ T (poly F z.second) (poly F z.first) w.constant (plain_turned (poly F z.first) (poly F z.second) (plain_of z w.is)))

    pub wanted_turned : (ds : List ℕ) (r : Option Pair) → Reached F Turned a.ℓ a.w₂ a.w₁ T ds r → (z : Pair) → Wanted₂ F a (suc (a.w₂ + a.w₁)) ds z → r ≡ Some z
    wanted_turned ds None x z w = absurd (x.answer (poly F z.second) (poly F z.first) (leaf ds z w x.rows))
    wanted_turned ds (Some p) x z w =
        let at = x.answer in
        let e =
        cross a.ℓ a.w₂ a.w₁ T x.rows (poly F p.second) (poly F p.first) (poly F z.second) (poly F z.first) at.leaf (leaf ds z w x.rows) in
        ap Some (one_root p z (good_turned ds (Some p) x p refl) w.is (sym e))

  pub good_direct : (ds : List ℕ) (r : Option Pair) → Reached F Direct a.ℓ a.w₁ a.w₂ (form_of F a) ds r → (z : Pair) → r ≡ Some z → IsRoot F a z
  good_direct ds None x z e = absurd (let n : ◌≡◌ {A = ℕ} 0 1 = cc in omega arith)
  good_direct ds (Some p) x z e =
      let at = x.answer in
      subst (IsRoot F a) (let q : p ≡ z = cc in q)
      (is_root p at.full at.normal (leaf_root (field_of F) a.ℓ a.w₁ a.w₂ (form_of F a) x.rows (poly F p.first) (poly F p.second) at.leaf))

  leaf_direct : (ds : List ℕ) (z : Pair) → Wanted₁ F a (suc (a.w₁ + a.w₂)) ds z → (rows : LeafRows R a.w₁ a.w₂ (poly F ds)) → Leaf R a.ℓ a.w₁ a.w₂ (form_of F a) rows (poly F z.first) (poly F z.second)
  leaf_direct ds z w =
      subst (λ (φ : ℕ → Element F). (rows : LeafRows R a.w₁ a.w₂ φ) → Leaf R a.ℓ a.w₁ a.w₂ (form_of F a) rows (poly F z.first) (poly F z.second)) w.digits
      (leaf_of (field_of F) a.ℓ a.w₁ a.w₂ (form_of F a) (poly F z.first) (poly F z.second) w.constant (plain_of z w.is))

  pub wanted_direct : (ds : List ℕ) (r : Option Pair) → Reached F Direct a.ℓ a.w₁ a.w₂ (form_of F a) ds r → (z : Pair) → Wanted₁ F a (suc (a.w₁ + a.w₂)) ds z → r ≡ Some z
  wanted_direct ds None x z w = absurd (x.answer (poly F z.first) (poly F z.second) (leaf_direct ds z w x.rows))
  wanted_direct ds (Some p) x z w =
      let at = x.answer in
      ap Some
      (one_root p z (good_direct ds (Some p) x p refl) w.is
      (cross a.ℓ a.w₁ a.w₂ (form_of F a) x.rows (poly F p.first) (poly F p.second) (poly F z.first) (poly F z.second) at.leaf (leaf_direct ds z w x.rows)))
