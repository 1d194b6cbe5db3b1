-- The right pairs in each of the three cases: none, the pair (0, 1), and the roots of an interpolant; and that all of them can be sifted.
use Rattle.std.proofs.Common.{◌≡◌, ℕ, suc, ◌+◌, ◌-◌, ◌<◌, ◌≤◌, ◌↔◌, List, [], ◌∷◌, length, take, ℤ, pos, negsuc, ◌-ℤ◌, ◌≤ℤ◌, ◌<ℤ◌, sym, refl, ◌∙◌, subst, subst₂, inl, inr, arith}
use Rattle.std.proofs.lemmas.Int.{ints}
use Rattle.algebra.specs.Poly.{pzero, const, Below}
use Rattle.decoding.specs.Code.{Code, syndrome}
use Rattle.decoding.specs.Rational.{Root}
use Rattle.decoding.specs.Sift.{located}
use Rattle.decoding.specs.Theorems.{WordRows}
use Rattle.decoding.proofs.Yield.{located_below, single_below}
use Rattle.fields.specs.Numbers.{Numbers, Element, elem, ring_of, field_of}
use Rattle.polynomials.specs.Series.{poly}
use Rattle.polynomials.proofs.Readings.{poly_at}
use Rattle.codes.specs.declared.Setting.{Setting}
use Rattle.codes.proofs.Acceptance.{consequences}
use Rattle.functionals.specs.Runs.{family}
use Rattle.stages.specs.Basis.{basis}
use Rattle.stages.specs.Readings.{Stops}
use Rattle.basis.specs.declared.Basis.{Basis}
use Rattle.basis.specs.Found.{Finds}
use Rattle.leaves.specs.declared.pairs.Pair.{Pair}
use Rattle.interpolant.specs.declared.Shape.{Shape}
use Rattle.interpolant.specs.Problems.{Enough}
use Rattle.interpolating.specs.Interpolation.{amount, shape_of}
use Rattle.interpolating.proofs.Bounds.{sums, enough}
use Rattle.sift.specs.Received.{Describes}
use Rattle.sift.proofs.Described.{described}
use Rattle.candidates.specs.Sifting.{locator, Usable, OneOf}
use Rattle.roots.specs.Asked.{Asked}
use Rattle.roots.specs.Answer.{IsRoot}
use Rattle.pairs.specs.Stage.{unit_pair, question, Fits, RootsOf, h11, h21, Listable, Right, ToSift}
use Rattle.pairs.proofs.Rows.{checked, code_reads, first_weight, second_weight}
use Rattle.pairs.proofs.Rooms.{fits}
use Rattle.pairs.proofs.Standing.{runs_are, unit_first, unit_second, unit_first_below, unit_second_below, unit_one, roots_one}

-- a weight that is not negative is a number
pub amount_is : (z : ℤ) → pos 0 ≤ℤ z → pos (amount z) ≡ z
amount_is (pos n) h = refl
amount_is (negsuc n) h = absurd (omega (arith, ints))

module _ (F : Numbers) (αs vs : List ℕ) (k : ℕ) (rs : List ℕ) (x : Setting) (given : Listable F αs vs k rs x) (B : Basis)
    (found : Finds (basis F αs vs k rs) x.radius B) where
  abbrev τ : ℕ
  τ = x.radius

  -- a code with these points and multipliers and n - k check symbols
  some_code : (C : Code (field_of F)) × Describes F αs vs C × (k + C.D ≡ C.n)
  some_code =
      let c = described F given.placed in (
        checked F αs vs k rs given.placed c.0 c.1,
        record { places = refl; points = poly_at F αs; multipliers = poly_at F vs },
        let l = given.accepted.fewer in let z : k + (length αs - k) ≡ length αs = omega arith in z,
      )

  -- the weights, by any rows with the second entries of the basis
  module _ (C : Code (field_of F)) (d : Describes F αs vs C) (sum : k + C.D ≡ C.n) (T : WordRows (field_of F) C (poly F rs)) (e : poly F (h21 F αs vs k rs) ≡ T.L.b) where
    w1_is : B.w1 ≡ pos τ -ℤ pos T.p -ℤ pos 1
    w1_is = found.first_weight ∙ first_weight F αs vs k rs given.placed C d sum T e τ

    w2_is : B.w2 ≡ pos τ -ℤ pos T.l
    w2_is = found.second_weight ∙ second_weight F αs vs k rs given.placed C d sum T e τ

    lost : B.w2 <ℤ pos 0 → τ < T.l
    lost h = let u = w2_is in omega (arith, ints)

    kept : pos 0 ≤ℤ B.w2 → T.l ≤ τ
    kept h = let u = w2_is in omega (arith, ints)

    near : B.w1 <ℤ pos 0 → τ ≤ T.p
    near h = let u = w1_is in omega (arith, ints)

    far : pos 0 ≤ℤ B.w1 → T.p < τ
    far h = let u = w1_is in omega (arith, ints)

    first_amount : pos 0 ≤ℤ B.w1 → amount B.w1 ≡ τ - suc T.p
    first_amount h = let u = w1_is in let v = amount_is B.w1 h in omega (arith, ints)

    second_amount : pos 0 ≤ℤ B.w2 → amount B.w2 ≡ τ - T.l
    second_amount h = let u = w2_is in let v = amount_is B.w2 h in omega (arith, ints)

  -- a negative w2: no pair
  pub none : B.w2 <ℤ pos 0 → ToSift F αs vs k rs x []
  none h =
      record {
        right = λ C d sum T e₁ e₂.
            record {
              none = λ _ f₁ f₂ o. o.member;
              single = λ l. absurd (let u = lost C d sum T e₂ h in omega arith);
              roots = λ l. absurd (let u = lost C d sum T e₂ h in omega arith);
            };
        usable = λ p m. absurd m;
      }

  -- a locator of the degree τ at most is low enough
  low : (p : Pair) → Below (ring_of F) (suc τ) (locator F (h11 F αs vs k rs) (h21 F αs vs k rs) p)
      → Below (ring_of F) (length αs - k + 1) (locator F (h11 F αs vs k rs) (h21 F αs vs k rs) p)
  low p b i u =
      b i (let c = (consequences (length αs) k τ x.multiplicity x.list_limit given.accepted).below_distance in omega arith)

  abbrev C₀ : Code (field_of F)
  C₀ = some_code.0

  abbrev S₀ : Stops F (λ l. l) some_code.0.D (syndrome (field_of F) some_code.0 (poly F rs)) (basis F αs vs k rs).rows
  S₀ = code_reads F αs vs k rs given.placed some_code.0 some_code.1 some_code.2

  abbrev T₀ : WordRows (field_of F) some_code.0 (poly F rs)
  T₀ = S₀.stopped

  located_as : (m : ℕ) (p : Pair) (f₁ f₂ : ℕ → Element F) → poly F p.first ≡ f₁ → poly F p.second ≡ f₂
      → Below (ring_of F) m (located (ring_of F) T₀.P.b T₀.L.b f₁ f₂) → Below (ring_of F) m (locator F (h11 F αs vs k rs) (h21 F αs vs k rs) p)
  located_as m p f₁ f₂ a b h =
      subst₂ (λ (u v : ℕ → Element F). Below (ring_of F) m (located (ring_of F) u v (poly F p.first) (poly F p.second))) (sym S₀.before.b_is) (sym S₀.last.b_is)
      (subst₂ (λ (u v : ℕ → Element F). Below (ring_of F) m (located (ring_of F) T₀.P.b T₀.L.b u v)) (sym a) (sym b) h)

  -- a negative w1: the pair (0, 1)
  pub single : pos 0 ≤ℤ B.w2 → B.w1 <ℤ pos 0 → ToSift F αs vs k rs x (unit_pair ∷ [])
  single h₂ h₁ =
      record {
        right = λ C d sum T e₁ e₂.
            record {
              none = λ l. absurd (let u = kept C d sum T e₂ h₂ in omega arith);
              single = λ _ _. unit_one F;
              roots = λ _ l. absurd (let u = near C d sum T e₂ h₁ in omega arith);
            };
        usable = λ p m.
            elim m [
              | inl e ↦ subst (Usable F (length αs) k (h11 F αs vs k rs) (h21 F αs vs k rs)) (sym e)
                  (record {
                    first = unit_first_below F;
                    second = unit_second_below F;
                    low = low unit_pair
                        (located_as (suc τ) unit_pair (pzero (ring_of F)) (const (ring_of F) (elem F 1)) (unit_first F) (unit_second F)
                        (single_below (field_of F) C₀ k τ some_code.2 (poly F rs) T₀ (kept C₀ some_code.1 some_code.2 T₀ S₀.last.b_is h₂)));
                  })
              | inr e ↦ absurd e
            ];
      }

  -- neither is negative: there is an interpolant, and room for it
  pub exists : pos 0 ≤ℤ B.w1 → pos 0 ≤ℤ B.w2 → Enough (shape_of x B.w1 B.w2) (length αs)
  exists h₁ h₂ =
      enough F αs vs k rs given.placed.points given.placed.multipliers given.placed.shares (shape_of x B.w1 B.w2) τ x.multiplicity x.list_limit given.accepted
      refl refl refl (amount_is B.w1 h₁ ∙ found.first_weight) (amount_is B.w2 h₂ ∙ found.second_weight)

  pub has_room : pos 0 ≤ℤ B.w1 → pos 0 ≤ℤ B.w2 → (numbers : ℕ) → 32000 ≤ numbers → Fits (shape_of x B.w1 B.w2) (length αs) numbers
  has_room h₁ h₂ =
      fits (shape_of x B.w1 B.w2) (length αs) k τ x.multiplicity x.list_limit given.accepted given.few refl refl refl
      (sums F αs vs k rs given.placed.points given.placed.multipliers given.placed.shares τ (amount B.w1) (amount B.w2)
      (amount_is B.w1 h₁ ∙ found.first_weight) (amount_is B.w2 h₂ ∙ found.second_weight))

  -- and the pairs are its roots
  module _ (h₁ : pos 0 ≤ℤ B.w1) (h₂ : pos 0 ≤ℤ B.w2) (n : ℕ) (area : List Pair)
      (r : RootsOf F (shape_of x B.w1 B.w2) αs (h11 F αs vs k rs) (h21 F αs vs k rs) n area) where
    abbrev S : Shape
    S = shape_of x B.w1 B.w2

    sized : Fits (shape_of x B.w1 B.w2) (length αs) 32000
    sized = has_room h₁ h₂ 32000 (omega arith)

    abbrev a : Asked
    a = question (shape_of x B.w1 B.w2) r.form

    right_roots : Right F αs vs k rs x (take n area)
    right_roots C d sum T e₁ e₂ =
        let u = first_amount C d sum T e₂ h₁ in
        let v = second_amount C d sum T e₂ h₂ in
        record {
          none = λ l. absurd (let w = kept C d sum T e₂ h₂ in omega arith);
          single = λ _ l. absurd (let w = far C d sum T e₂ h₁ in omega arith);
          roots = λ _ _. (
            family F S.bound r.form,
            r.decodes C C.D (syndrome (field_of F) C (poly F rs)) T τ
                (record {
                  count = d.places;
                  points_are = λ i _. d.points i ∙ sym (poly_at F αs i);
                  h11_is = sym e₁;
                  h21_is = sym e₂;
                  first_weight = u;
                  second_weight = v;
                  bound = refl;
                }),
            λ f₁ f₂.
                subst₂ (λ (p q : ℕ). OneOf F (take n area) f₁ f₂ ↔ Root (ring_of F) S.degree p q (family F S.bound r.form) f₁ f₂) u v
                (subst (λ (Q : ℕ → ℕ → Element F). OneOf F (take n area) f₁ f₂ ↔ Root (ring_of F) S.degree S.w1 S.w2 Q f₁ f₂) (runs_are F S.bound r.form)
                (roots_one F a (take n area) r.listed.roots sized.first sized.second f₁ f₂)),
          );
        }

    usable_root : (p : Pair) → IsRoot F (question (shape_of x B.w1 B.w2) r.form) p → Usable F (length αs) k (h11 F αs vs k rs) (h21 F αs vs k rs) p
    usable_root p i =
        let d = some_code.1 in
        let sum = some_code.2 in
        let e = S₀.last.b_is in
        record {
          first = i.first_below;
          second = i.second_below;
          low = low p
              (located_as (suc τ) p (poly F p.first) (poly F p.second) refl refl
              (located_below (field_of F) C₀ k τ sum (poly F rs) T₀ (kept C₀ d sum T₀ e h₂) (far C₀ d sum T₀ e h₁) (poly F p.first) (poly F p.second)
              (subst (λ (m : ℕ). Below (ring_of F) (suc m) (poly F p.first)) (first_amount C₀ d sum T₀ e h₁) i.root.f₁_below)
              (subst (λ (m : ℕ). Below (ring_of F) (suc m) (poly F p.second)) (second_amount C₀ d sum T₀ e h₂) i.root.f₂_below)));
        }

    pub several : ToSift F αs vs k rs x (take n area)
    several = record { right = right_roots; usable = λ p m. usable_root p (r.listed.roots.sound p m) }
