-- Newton's rule: a polynomial that has the right values at the first points, and one point more.
use Rattle.std.proofs.Common.{◌≡◌, ℕ, suc, ◌+◌, ◌-◌, ◌<◌, ◌≤◌, ◌≢◌, List, [], ◌∷◌, length, get_or, set, sym, refl, ap, ◌∙◌, subst, ap₂, arith}
use native.Mathlib.Decide.{ℕ_discrete}
use Rattle.algebra.specs.Ring.{Ring}
use Rattle.algebra.specs.Field.{Field}
use Rattle.algebra.specs.Poly.{conv, padd, scale, pzero, lin, Below, at}
use Rattle.algebra.specs.Solve.{ring}
use Rattle.algebra.specs.PolyForms.{forms}
use Rattle.algebra.specs.RingLaws as L
use Rattle.algebra.proofs.Eval.{below_add, below_weaken, ev_add, ev_scale, ev_more}
use Rattle.algebra.proofs.Roots.{id_hom}
use Rattle.algebra.specs.Sums.{count, all, Distinct}
use Rattle.algebra.specs.Lagrange.{locator}
use Rattle.algebra.proofs.Lagrange.{count_all}
use Rattle.algebra.proofs.Products.{locator_below, locator_at, prod_zero, prod_nonzero}
use Rattle.decoding.proofs.Words.{fixed_first}
use Rattle.fields.specs.Numbers.{Numbers, AllBelow, Element, elem, pos, plus, minus, times, over, ring_of, field_of, elem_add, elem_mul, elem_neg, elem_inv, elem_inj}
use Rattle.polynomials.specs.Series.{poly, Reads, value, plus_multiple}
use Rattle.polynomials.proofs.Readings.{all_at, poly_at, become}
use Rattle.polynomials.proofs.Roots.{locator_none, locator_more}
use Rattle.sift.specs.Interpolation.{Distinct as Apart, Takes, Interpolates}

module _ (𝓕 : Field) where
  infixl 60 ◌⊕◌
  infixl 70 ◌⊗◌
  infix 80 ⊖◌
  abbrev R : Ring
  R = 𝓕.ring

  open 𝓕.ring use {El, 𝟘, 𝟙, ◌⊕◌, ⊖◌, ◌⊗◌}

  -- the factor that closes the gap between a and y
  pub closes : (a b y : El) → b ≢ 𝟘 → a ⊕ (y ⊕ ⊖ a) ⊗ 𝓕.inv b ⊗ b ≡ y
  closes a b y h =
      L.from_eq R (y ⊕ ⊖ a) (𝓕.mul_inv b h) (ring R (a ∷ b ∷ y ∷ 𝓕.inv b ∷ []) (search forms depth 20) tt)

  below_scale : (n : ℕ) (a : El) (p : ℕ → El) → Below R n p → Below R n (scale R a p)
  unfolding scale
  below_scale n a p h i k = ap (λ z. a ⊗ z) (h i k) ∙ L.mul_zero R a

  module _ (α : ℕ → El) where
    many : (i m : ℕ) → i < m → suc (count i all) ≤ m
    many i m h = let e : count i all ≡ i = count_all i in omega arith

    -- the product over the first points vanishes at each of them, and at no other point
    node_zero : (i m j : ℕ) → i < m → j < i → at R (α j) m (locator R i all α) ≡ 𝟘
    node_zero i m j h l = locator_at R i all α (α j) m (many i m h) ∙ prod_zero R i j all (λ k. α j ⊕ ⊖ α k) l refl (R.add_neg (α j))

    pub node_nonzero : (n i m : ℕ) → Distinct R n α → i < n → i < m → at R (α i) m (locator R i all α) ≢ 𝟘
    node_nonzero n i m apart l h e =
        prod_nonzero 𝓕 i all (λ k. α i ⊕ ⊖ α k) (λ k u _ z. apart k i u l (sym (L.eq_of_sub R (α i) (α k) z)))
        (sym (locator_at R i all α (α i) m (many i m h)) ∙ e)

    pub node_below : (i : ℕ) → Below R (suc i) (locator R i all α)
    node_below i = subst (λ (n : ℕ). Below R (suc n) (locator R i all α)) (count_all i) (locator_below R i all α)

    pub node_wide : (i n m : ℕ) (a : El) → i < n → n ≤ m → at R a m (locator R i all α) ≡ at R a n (locator R i all α)
    node_wide i n m a h l = locator_at R i all α a m (many i m (omega arith)) ∙ sym (locator_at R i all α a n (many i n h))

    module _ (y : ℕ → El) (i m : ℕ) (p : ℕ → El) (c : El) where
      pub step_below : Below R i p → Below R (suc i) (padd R p (scale R c (locator R i all α)))
      step_below h =
          below_add R (suc i) p (scale R c (locator R i all α)) (below_weaken R i (suc i) p (omega arith) h)
          (below_scale (suc i) c (locator R i all α) (node_below i))

      value_step : (a : El) → at R a m (padd R p (scale R c (locator R i all α))) ≡ at R a m p ⊕ c ⊗ at R a m (locator R i all α)
      value_step a =
          ev_add R R (λ x. x) (id_hom R) a m p (scale R c (locator R i all α))
          ∙ ap (λ z. at R a m p ⊕ z) (ev_scale R R (λ x. x) (id_hom R) a m c (locator R i all α))

      pub step_takes : i < m → ((j : ℕ) → j < i → at R (α j) m p ≡ y j)
          → at R (α i) m p ⊕ c ⊗ at R (α i) m (locator R i all α) ≡ y i
          → (j : ℕ) → j < suc i → at R (α j) m (padd R p (scale R c (locator R i all α))) ≡ y j
      step_takes h ih e j l = go (ℕ_discrete j i)
        where
          go : Dec (j ≡ i) → at R (α j) m (padd R p (scale R c (locator R i all α))) ≡ y j
          go (yes s) = subst (λ (k : ℕ). at R (α k) m (padd R p (scale R c (locator R i all α))) ≡ y k) (sym s) (value_step (α i) ∙ e)
          go (no s) =
              value_step (α j)
              ∙ ap (λ z. at R (α j) m p ⊕ c ⊗ z) (node_zero i m j h (omega arith))
              ∙ ap (λ z. at R (α j) m p ⊕ z) (L.mul_zero R c) ∙ R.add_zero _ ∙ ih j (omega arith)

module _ (F : Numbers) where
  pub factor_is : (v w y r : ℕ) (a b : Element F) → v < F.q → w < F.q → y < F.q → elem F v ≡ a → elem F w ≡ b → b ≢ elem F 0
      → r ≡ F.mul (F.add y (F.neg v)) (F.inv w)
      → (r < F.q) × (plus F a (times F (elem F r) b) ≡ elem F y)
  factor_is v w y r a b hv hw hy ev ew nz er = (
    subst (λ (n : ℕ). n < F.q) (sym er) (F.laws.mul_below _ _),
    ap (λ z. plus F a (times F z b)) (ap (elem F) er
        ∙ elem_mul F (F.add y (F.neg v)) (F.inv w) (F.laws.add_below _ _) (F.laws.inv_below _)
        ∙ ap₂ (times F)
        (elem_add F y (F.neg v) hy (F.laws.neg_below _) ∙ ap (plus F (elem F y)) (elem_neg F v hv ∙ ap (minus F) ev))
        (elem_inv F w hw ∙ ap (over F) ew))
        ∙ closes (field_of F) a b (elem F y) nz,
  )

  -- What holds before the turn at i: out has the values ys at the first i points, and node is the product of x - a over these
  pub record Newton (αs ys : List ℕ) (i : ℕ) (out node : List ℕ) : Type 0 where
    pub elements : AllBelow F.q out
    pub short : Below (ring_of F) i (poly F out)
    pub takes : (j : ℕ) → j < i → value F (length out) (poly F out) (get_or αs j 0) ≡ elem F (get_or ys j 0)
    pub product : Reads F node (locator (ring_of F) i all (poly F αs))

  pub points_apart : (αs : List ℕ) → AllBelow F.q αs → Apart αs → Distinct (ring_of F) (length αs) (poly F αs)
  unfolding poly
  points_apart αs h apart i j l u e = apart i j l u (elem_inj F (get_or αs i 0) (get_or αs j 0) (all_at F αs h i) (all_at F αs h j) e)

  pub newton_none : (αs ys out node : List ℕ) → Reads F out (pzero (ring_of F)) → 0 < length node → Reads F node (pzero (ring_of F))
      → Newton αs ys 0 out (set node 0 1)
  newton_none αs ys out node ro h rn =
      record {
        elements = ro.below;
        short = λ i _. ap (λ (f : ℕ → Element F). f i) ro.is ∙ unfold pzero in refl;
        takes = λ j u. absurd (let z : j < 0 = u in omega arith);
        product = locator_none F node (poly F αs) h rn;
      }

  module _ {αs ys : List ℕ} {i : ℕ} {out node : List ℕ} (n : Newton αs ys i out node) where
    -- the product so far has no root at the next point
    pub newton_apart : (x : ℕ) → x ≡ get_or αs i 0 → AllBelow F.q αs → Apart αs → i < length αs → length αs < length node
        → value F (length node) (poly F node) x ≢ elem F 0
    newton_apart x ex h apart l u e =
        node_nonzero (field_of F) (poly F αs) (length αs) i (length node) (points_apart αs h apart) l (omega arith)
        (ap₂ (λ a p. at (ring_of F) a (length node) p) (poly_at F αs i ∙ ap (elem F) (sym ex)) (sym n.product.is) ∙ e)

    pub newton_top : length αs < length node → i < length αs → get_or node (length node - 1) 0 ≡ 0
    newton_top u l =
        elem_inj F (get_or node (length node - 1) 0) 0 (all_at F node n.product.below (length node - 1)) (pos F)
        (sym (poly_at F node (length node - 1)) ∙ ap (λ (f : ℕ → Element F). f (length node - 1)) n.product.is
        ∙ node_below (field_of F) (poly F αs) i (length node - 1) (omega arith))

    newton_step : (c : ℕ) (out' node' : List ℕ) → i < length αs → length αs < length node → length node ≤ length out
        → length out' ≡ length out
        → plus F (value F (length out) (poly F out) (get_or αs i 0)) (times F (elem F c) (value F (length node) (poly F node) (get_or αs i 0))) ≡ elem F (get_or ys i 0)
        → Reads F out' (plus_multiple F (poly F out) c (poly F node))
        → Reads F node' (conv (ring_of F) (lin (ring_of F) (elem F (get_or αs i 0))) (poly F node))
        → Newton αs ys (i + 1) out' node'
    newton_step c out' node' l u w same e ro rn =
        let R = ring_of F in
        let α = poly F αs in
        let N : ℕ → Element F = locator R i all α in
        let is : poly F out' ≡ padd R (poly F out) (scale R (elem F c) N) =
        ro.is ∙ ap (λ p. padd R (poly F out) (scale R (elem F c) p)) n.product.is in
        record {
          elements = ro.below;
          short = λ j h. ap (λ (f : ℕ → Element F). f j) is ∙ step_below (field_of F) α (poly F ys) i (length out) (poly F out) (elem F c) n.short j (omega arith);
          takes = λ j h.
              ap₂ (λ (k : ℕ) p. at R (elem F (get_or αs j 0)) k p) same is
              ∙ ap (λ a. at R a (length out) (padd R (poly F out) (scale R (elem F c) N))) (sym (poly_at F αs j))
              ∙ step_takes (field_of F) α (poly F ys) i (length out) (poly F out) (elem F c) (omega arith) before here j (omega arith)
              ∙ poly_at F ys j;
          product = become rn
              (ap₂ (λ a p. conv R (lin R a) p) (sym (poly_at F αs i)) n.product.is ∙ locator_more F i α);
        }
      where
        before : (j : ℕ) → j < i → at (ring_of F) (poly F αs j) (length out) (poly F out) ≡ poly F ys j
        before j h =
            ap (λ a. at (ring_of F) a (length out) (poly F out)) (poly_at F αs j) ∙ n.takes j h ∙ sym (poly_at F ys j)

        wider : at (ring_of F) (poly F αs i) (length out) (locator (ring_of F) i all (poly F αs)) ≡ value F (length node) (poly F node) (get_or αs i 0)
        wider =
            node_wide (field_of F) (poly F αs) i (length node) (length out) (poly F αs i) (omega arith) w
            ∙ ap₂ (λ a p. at (ring_of F) a (length node) p) (poly_at F αs i) (sym n.product.is)

        here : plus F (at (ring_of F) (poly F αs i) (length out) (poly F out)) (times F (elem F c) (at (ring_of F) (poly F αs i) (length out) (locator (ring_of F) i all (poly F αs)))) ≡ poly F ys i
        here =
            ap₂ (λ a b. plus F (at (ring_of F) a (length out) (poly F out)) (times F (elem F c) b)) (poly_at F αs i) wider ∙ e ∙ sym (poly_at F ys i)

    pub newton_turn : (x y c : ℕ) (out' node' : List ℕ) → x ≡ get_or αs i 0 → y ≡ get_or ys i 0 → i < length αs → length αs < length node → length node ≤ length out
        → length out' ≡ length out
        → plus F (value F (length out) (poly F out) x) (times F (elem F c) (value F (length node) (poly F node) x)) ≡ elem F y
        → Reads F out' (plus_multiple F (poly F out) c (poly F node))
        → Reads F node' (conv (ring_of F) (lin (ring_of F) (elem F x)) (poly F node))
        → Newton αs ys (i + 1) out' node'
    newton_turn x y c out' node' ex ey l u w same e ro rn =
        newton_step c out' node' l u w same
        (ap (λ (a : ℕ). plus F (value F (length out) (poly F out) a) (times F (elem F c) (value F (length node) (poly F node) a))) (sym ex) ∙ e ∙ ap (elem F) ey)
        ro (become rn (ap (λ (a : ℕ). conv (ring_of F) (lin (ring_of F) (elem F a)) (poly F node)) ex))

    pub newton_done : AllBelow F.q αs → Apart αs → i ≡ length αs → length αs ≤ length out → Interpolates F αs ys out
    newton_done h apart e w =
        record {
          all = n.elements;
          short = short;
          takes = takes;
          only = λ p hp tp.
              fixed_first (field_of F) (length αs) (poly F αs) p (poly F out) (points_apart αs h apart) hp short
              (λ j u. ap (λ a. at (ring_of F) a (length αs) p) (poly_at F αs j) ∙ tp j u ∙ sym (takes j u)
              ∙ ap (λ a. at (ring_of F) a (length αs) (poly F out)) (sym (poly_at F αs j)));
        }
      where
        short : Below (ring_of F) (length αs) (poly F out)
        short = subst (λ (k : ℕ). Below (ring_of F) k (poly F out)) e n.short

        takes : Takes F αs ys (poly F out)
        takes j u =
            sym (ev_more (ring_of F) (ring_of F) (λ x. x) (id_hom (ring_of F)) (elem F (get_or αs j 0)) (length αs) (length out) (poly F out) short w)
            ∙ n.takes j (omega arith)
