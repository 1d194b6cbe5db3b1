-- A message that is read off the shares at places away from the roots.
use Rattle.std.proofs.Common.{◌≡◌, ℕ, ◌<◌, ◌≤◌, ◌≢◌, List, [], ◌∷◌, length, get_or, sym, ap, ◌∙◌, subst, arith}
use Rattle.algebra.specs.Field.{Field}
use Rattle.algebra.specs.Poly.{Below}
use Rattle.algebra.specs.Solve.{ring}
use Rattle.algebra.specs.PolyForms.{forms}
use Rattle.algebra.specs.RingLaws as L
use Rattle.algebra.proofs.Eval.{ev_more}
use Rattle.algebra.proofs.Roots.{id_hom}
use Rattle.fields.specs.Numbers.{Numbers, AllBelow, elem, pos, times, over, ring_of, field_of, elem_mul, elem_inv, elem_inj}
use Rattle.polynomials.specs.Series.{poly, value}
use Rattle.polynomials.proofs.Readings.{all_at, poly_at}
use Rattle.sift.specs.Interpolation.{Distinct, Interpolates}
use Rattle.sift.specs.Received.{Ends, Placed}
use Rattle.sift.specs.Reading.{Gathered, Issued, Recovered}

-- a product with a quotient
quotient_product : (𝓕 : Field) (v r : 𝓕.ring.El) → v ≢ 𝓕.ring.𝟘 → 𝓕.ring.◌⊗◌ v (𝓕.ring.◌⊗◌ r (𝓕.inv v)) ≡ r
quotient_product 𝓕 v r h =
    L.from_eq 𝓕.ring r (𝓕.mul_inv v h) (ring 𝓕.ring (v ∷ r ∷ 𝓕.inv v ∷ []) (search forms depth 20) tt)

module _ (F : Numbers) where
  pub elem_nonzero : (a : ℕ) → a < F.q → a ≢ 0 → elem F a ≢ elem F 0
  elem_nonzero a h nz e = nz (elem_inj F a 0 h (pos F) e)

  -- zeros from the place k on, as numbers and as coefficients
  pub ends_below : (k : ℕ) (xs : List ℕ) → Ends k xs → Below (ring_of F) k (poly F xs)
  ends_below k xs h i u = poly_at F xs i ∙ ap (elem F) (h i u)

  pub below_ends : (k : ℕ) (xs : List ℕ) → AllBelow F.q xs → Below (ring_of F) k (poly F xs) → Ends k xs
  below_ends k xs all h i u = elem_inj F (get_or xs i 0) 0 (all_at F xs all i) (pos F) (sym (poly_at F xs i) ∙ h i u)

  module _ {αs vs rs values xs ys : List ℕ} {k : ℕ} (p : Placed F αs vs rs) (g : Gathered F αs vs rs values (length αs) k xs ys)
      (lx : length xs ≡ k) (ly : length ys ≡ k) where
    pub gathered_points : AllBelow F.q xs
    gathered_points i u = subst (λ (n : ℕ). n < F.q) (sym (g.points i (omega arith))) (all_at F αs p.points _)

    pub gathered_quotients : AllBelow F.q ys
    gathered_quotients i u = subst (λ (n : ℕ). n < F.q) (sym (g.quotients i (omega arith))) (F.laws.mul_below _ _)

    pub gathered_distinct : Distinct xs
    gathered_distinct i j u v e =
        p.distinct (g.places.place i) (g.places.place j) (g.places.rising i j u (omega arith)) (g.places.inside j (omega arith))
        (sym (g.points i (omega arith)) ∙ e ∙ g.points j (omega arith))

    pub recovered : (message word : List ℕ) → k ≤ length message → Interpolates F xs ys message → Issued F αs vs message word
        → Recovered F αs vs rs values k message word
    recovered message word l t s =
        record {
          all = t.all;
          ends = below_ends k message t.all short;
          issued = s;
          places = g.places;
          agrees = agrees;
        }
      where
        short : Below (ring_of F) k (poly F message)
        short = subst (λ (m : ℕ). Below (ring_of F) m (poly F message)) lx t.short

        -- the message's value at a place
        quotient : (i : ℕ) → i < k
            → value F (length message) (poly F message) (get_or αs (g.places.place i) 0)
            ≡ times F (elem F (get_or rs (g.places.place i) 0)) (over F (elem F (get_or vs (g.places.place i) 0)))
        quotient i u =
            ap (value F (length message) (poly F message)) (sym (g.points i u))
            ∙ ev_more (ring_of F) (ring_of F) (λ x. x) (id_hom (ring_of F)) (elem F (get_or xs i 0)) (length xs) (length message) (poly F message) t.short (omega arith)
            ∙ t.takes i (omega arith) ∙ ap (elem F) (g.quotients i u)
            ∙ elem_mul F (get_or rs (g.places.place i) 0) (F.inv (get_or vs (g.places.place i) 0)) (all_at F rs p.shares _) (F.laws.inv_below _)
            ∙ ap (times F (elem F (get_or rs (g.places.place i) 0))) (elem_inv F (get_or vs (g.places.place i) 0) (all_at F vs p.multipliers _))

        agrees : (i : ℕ) → i < k → get_or word (g.places.place i) 0 ≡ get_or rs (g.places.place i) 0
        agrees i u =
            let j : ℕ = g.places.place i in
            let h : g.places.place i < length αs = g.places.inside i u in
            elem_inj F (get_or word j 0) (get_or rs j 0) (all_at F word s.all j) (all_at F rs p.shares j)
            (s.is j h ∙ ap (times F (elem F (get_or vs j 0))) (quotient i u)
            ∙ quotient_product (field_of F) (elem F (get_or vs j 0)) (elem F (get_or rs j 0))
            (elem_nonzero (get_or vs j 0) (all_at F vs p.multipliers j) (p.multipliers_nonzero j (omega (arith, p.a_multiplier_each)))))

pub resized : {F : Numbers} {αs vs rs values message word : List ℕ} {m k : ℕ} → Recovered F αs vs rs values m message word → m ≡ k
    → Recovered F αs vs rs values k message word
resized {F} {αs} {vs} {rs} {values} {message} {word} t e = subst (λ (n : ℕ). Recovered F αs vs rs values n message word) e t
