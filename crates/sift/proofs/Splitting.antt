-- The locator of a pair, and a polynomial with as many roots among the points as its degree.
use Rattle.std.proofs.Common.{◌≡◌, ℕ, zero, suc, ◌+◌, ◌<◌, ◌≤◌, true, false, List, length, get_or, take, sym, refl, ap, ◌∙◌, subst, add-one, arith, eq-eqb, ne_eqb}
use Rattle.algebra.specs.Field.{Field}
use Rattle.algebra.specs.Poly.{conv, padd, at, Below, Degree}
use Rattle.algebra.specs.PolyRing.{padd_assoc, padd_zero}
use Rattle.algebra.specs.Division.{size}
use Rattle.algebra.specs.Sums.{count}
use Rattle.algebra.proofs.Eval.{ev_more}
use Rattle.algebra.proofs.Roots.{id_hom}
use Rattle.algebra.proofs.Products.{count_cong}
use Rattle.algebra.proofs.Degrees.{degree_less, size_below, size_degree}
use Rattle.decoding.specs.Sift.{zeros}
use Rattle.fields.specs.Numbers.{Numbers, Element, elem, pos, ring_of, field_of, elem_inj}
use Rattle.polynomials.specs.Series.{poly, plus_shifted}
use Rattle.polynomials.proofs.Readings.{all_at, poly_at, poly_past}
use Rattle.polynomials.proofs.Shapes.{product_none, product_more}
use Rattle.sift.specs.Roots.{vanishes, Values, Splits}

module _ (F : Numbers) where
  -- turns of a sum p + q b
  pub sum_none : (p : ℕ → Element F) (xs ys : List ℕ) → p ≡ padd (ring_of F) p (conv (ring_of F) (poly F (take 0 xs)) (poly F ys))
  sum_none p xs ys = sym (padd_zero (ring_of F) p) ∙ ap (padd (ring_of F) p) (product_none F xs ys)

  pub sum_turn : (p p' : ℕ → Element F) (xs ys : List ℕ) (i : ℕ) → i < length xs
      → p' ≡ padd (ring_of F) p (conv (ring_of F) (poly F (take i xs)) (poly F ys))
      → plus_shifted F p' (get_or xs i 0) i (poly F ys) ≡ padd (ring_of F) p (conv (ring_of F) (poly F (take (i + 1) xs)) (poly F ys))
  sum_turn p p' xs ys i h e =
      ap (λ (z : ℕ → Element F). plus_shifted F z (get_or xs i 0) i (poly F ys)) e
      ∙ padd_assoc (ring_of F) p _ _ ∙ ap (padd (ring_of F) p) (product_more F xs ys i h)

module _ (𝓕 : Field) where
  -- the degree and 1
  pub size_is : (n d : ℕ) (p : ℕ → 𝓕.ring.El) → Below 𝓕.ring n p → Degree 𝓕.ring d p → size 𝓕 n p ≡ suc d
  size_is n d p h g = go (size 𝓕 n p) refl
    where
      go : (s : ℕ) → size 𝓕 n p ≡ s → s ≡ suc d
      go zero e =
          absurd (let z : d < 0 = degree_less 𝓕 d 0 p g (subst (λ (m : ℕ). Below 𝓕.ring m p) e (size_below 𝓕 n p h)) in omega arith)
      go (suc s) e =
          let t : Degree 𝓕.ring s p = size_degree 𝓕 n s p h e in
          let x : d < suc s = degree_less 𝓕 d (suc s) p g t.below in
          let y : s < suc d = degree_less 𝓕 s (suc d) p t g.below in
          omega arith

module _ (F : Numbers) where
  pub value_zero : (a : ℕ) → a < F.q → elem F a ≡ elem F 0 → a ≡ 0
  value_zero a h e = elem_inj F a 0 h (pos F) e

  module _ {p αs out : List ℕ} (v : Values F p αs out) where
    -- the values are those of the polynomial, with as many coefficients as its degree asks for
    pub value_is : (m j : ℕ) → Below (ring_of F) m (poly F p) → m ≤ length p → j < length αs
        → elem F (get_or out j 0) ≡ at (ring_of F) (poly F αs j) m (poly F p)
    value_is m j h l u =
        v.is j u
        ∙ ev_more (ring_of F) (ring_of F) (λ x. x) (id_hom (ring_of F)) (elem F (get_or αs j 0)) m (length p) (poly F p) h l
        ∙ ap (λ a. at (ring_of F) a m (poly F p)) (sym (poly_at F αs j))

    pub marks : (m j : ℕ) → Below (ring_of F) m (poly F p) → m ≤ length p → j < length αs
        → vanishes out j ≡ zeros (field_of F) (poly F αs) m (poly F p) j
    unfolding zeros
    marks m j h l u = go ((field_of F).equal (at (ring_of F) (poly F αs j) m (poly F p)) (elem F 0))
      where
        go : (d : Dec (at (ring_of F) (poly F αs j) m (poly F p) ≡ elem F 0)) → vanishes out j ≡ elim d [ yes z ↦ true | no z ↦ false ]
        go (yes z) = eq-eqb (get_or out j 0) 0 (value_zero (get_or out j 0) (all_at F out v.all j) (value_is m j h l u ∙ z))
        go (no z) = ne_eqb (get_or out j 0) 0 (λ e. z (sym (value_is m j h l u) ∙ ap (elem F) e))

    pub count_marks : (d : ℕ) → Degree (ring_of F) d (poly F p)
        → count (length αs) (vanishes out) ≡ count (length αs) (zeros (field_of F) (poly F αs) (suc d) (poly F p))
    count_marks d g =
        count_cong (length αs) (vanishes out) (zeros (field_of F) (poly F αs) (suc d) (poly F p))
        (λ j u. marks (suc d) j g.below (degree_less (field_of F) d (length p) (poly F p) g (poly_past F p)) u)

    pub splits_yes : (s n : ℕ) → s ≡ size (field_of F) (length p) (poly F p) → n ≡ count (length αs) (vanishes out) → s ≡ n + 1
        → Splits F αs (poly F p)
    splits_yes s n es en e =
        let g : Degree (ring_of F) n (poly F p) = size_degree (field_of F) (length p) n (poly F p) (poly_past F p) (sym es ∙ e ∙ add-one n) in
        record { size = n; degree = g; split = sym (count_marks n g) ∙ sym en }

    pub splits_no : (s n : ℕ) → s ≡ size (field_of F) (length p) (poly F p) → n ≡ count (length αs) (vanishes out) → Splits F αs (poly F p)
        → s ≡ n + 1
    splits_no s n es en t =
        es ∙ size_is (field_of F) (length p) t.size (poly F p) (poly_past F p) t.degree
        ∙ sym (ap (λ (m : ℕ). m + 1) (en ∙ count_marks t.size t.degree ∙ t.split) ∙ add-one t.size)
