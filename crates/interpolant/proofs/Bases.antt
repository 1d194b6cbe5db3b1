-- From the places of a basis to the decoding theory.
use Rattle.std.proofs.Common.{◌≡◌, ℕ, suc, ◌*◌, ◌<◌, List, length, sym, refl, ap, ◌∙◌, subst, ap₂, arith}
use native.Mathlib.Decide.{dec_lt}
use Rattle.algebra.specs.Poly.{at, Below}
use Rattle.algebra.proofs.Eval.{ev_more}
use Rattle.algebra.proofs.Roots.{id_hom}
use Rattle.fields.specs.Numbers.{Numbers, Element, minus, ring_of, field_of}
use Rattle.polynomials.specs.Series.{poly}
use Rattle.polynomials.proofs.Readings.{poly_past}
use Rattle.decoding.specs.Koetter.{Interpolant, Triangle, homogeneous}
use Rattle.decoding.specs.Multiplicity.{Slope, slope, expansion, functional}
use Rattle.decoding.specs.Pairs.{w₁, w₂, y_at, z_at}
use Rattle.functionals.specs.Runs.{family}
use Rattle.interpolant.specs.Problems.{problem, basis_problem, Solution, Ratios, Decodes}
use Rattle.interpolant.specs.declared.Shape.{Shape}

module _ (F : Numbers) where
  -- only the places that count matter
  interpolant_same : (ℓ w₁ w₂ B n s : ℕ) (α α' : ℕ → Element F) (σ σ' : ℕ → Slope (Element F)) (Q : ℕ → ℕ → Element F)
      → ((i : ℕ) → i < n → α i ≡ α' i) → ((i : ℕ) → i < n → σ i ≡ σ' i)
      → Interpolant (field_of F) (homogeneous (ring_of F) ℓ w₁ w₂ B α σ) (Triangle n s) Q
      → Interpolant (field_of F) (homogeneous (ring_of F) ℓ w₁ w₂ B α' σ') (Triangle n s) Q
  interpolant_same ℓ w₁ w₂ B n s α α' σ σ' Q ea eσ v =
      record {
        position = v.position;
        exponent = v.exponent;
        within = v.within;
        nonzero = v.nonzero;
        degrees = v.degrees;
        holds = λ i a b d.
            sym (ap₂ (λ (x : Element F) (τ : Slope (Element F)). functional (ring_of F) ℓ B x (λ t. expansion (ring_of F) ℓ τ b t) a Q) (ea i d.0) (eσ i d.0))
            ∙ v.holds i a b d;
      }

  pub of_ratios : (S : Shape) (points h11 h21 ys zs out : List ℕ) → Ratios F points h11 h21 ys zs
      → Solution F (problem F S points ys zs) (length points) S.multiplicity out
      → Solution F (basis_problem F S points h11 h21) (length points) S.multiplicity out
  of_ratios S points h11 h21 ys zs out r v =
      record {
        below = v.below;
        is = interpolant_same S.degree S.w1 S.w2 S.bound (length points) S.multiplicity (poly F points) (poly F points) _ _ (family F S.bound out)
            (λ i l. refl) (λ i l. ap₂ (slope (field_of F)) (r.ys_are i l) (r.zs_are i l)) v.is;
      }

  -- a value does not depend on how many coefficients are looked at
  same_value : (x : Element F) (n m : ℕ) (p q : ℕ → Element F) → p ≡ q → Below (ring_of F) n p → Below (ring_of F) m q
      → at (ring_of F) x m q ≡ at (ring_of F) x n p
  same_value x n m p q e hn hm = go (dec_lt n m) ∙ ap (at (ring_of F) x n) (sym e)
    where
      go : Dec (n < m) → at (ring_of F) x m q ≡ at (ring_of F) x n q
      go (yes l) = ev_more (ring_of F) (ring_of F) (λ y. y) (id_hom (ring_of F)) x n m q (subst (Below (ring_of F) n) e hn) (omega arith)
      go (no l) = sym (ev_more (ring_of F) (ring_of F) (λ y. y) (id_hom (ring_of F)) x m n q hm (omega arith))

  pub of_basis : (S : Shape) (points h11 h21 out : List ℕ) → Solution F (basis_problem F S points h11 h21) (length points) S.multiplicity out
      → Decodes F S points h11 h21 out
  of_basis S points h11 h21 out v C D syndrome T τ o =
      subst (λ (z : ℕ). Interpolant (field_of F) (homogeneous (ring_of F) S.degree (w₁ τ T) (w₂ τ T) (S.multiplicity * τ) C.α σ) (Triangle z S.multiplicity) Q)
      (sym o.count)
      (subst (λ (z : ℕ). Interpolant (field_of F) (homogeneous (ring_of F) S.degree (w₁ τ T) (w₂ τ T) z C.α σ) (Triangle n S.multiplicity) Q) o.bound
      (subst (λ (z : ℕ). Interpolant (field_of F) (homogeneous (ring_of F) S.degree (w₁ τ T) z S.bound C.α σ) (Triangle n S.multiplicity) Q) o.second_weight
      (subst (λ (z : ℕ). Interpolant (field_of F) (homogeneous (ring_of F) S.degree z S.w2 S.bound C.α σ) (Triangle n S.multiplicity) Q) o.first_weight
      (interpolant_same S.degree S.w1 S.w2 S.bound n S.multiplicity (poly F points) C.α _ σ Q (λ i l. sym (o.points_are i l))
      (λ i l. ap₂ (λ (y z : Element F). slope (field_of F) y (minus F z)) (first i l) (second i l)) v.is))))
    where
      n : ℕ
      n = length points

      Q : ℕ → ℕ → Element F
      Q = family F S.bound out

      σ : ℕ → Slope (Element F)
      σ j = slope (field_of F) (y_at (field_of F) C T j) (z_at (field_of F) C T j)

      first : (i : ℕ) → i < length points → at (ring_of F) (poly F points i) (length h11) (poly F h11) ≡ at (ring_of F) (C.α i) (suc T.l) T.P.b
      first i l =
          ap (λ (x : Element F). at (ring_of F) x (length h11) (poly F h11)) (sym (o.points_are i l))
          ∙ same_value (C.α i) (suc T.l) (length h11) T.P.b (poly F h11) o.h11_is (λ j k. T.rows.b_rises j (omega arith)) (poly_past F h11)

      second : (i : ℕ) → i < length points → at (ring_of F) (poly F points i) (length h21) (poly F h21) ≡ at (ring_of F) (C.α i) (suc T.l) T.L.b
      second i l =
          ap (λ (x : Element F). at (ring_of F) x (length h21) (poly F h21)) (sym (o.points_are i l))
          ∙ same_value (C.α i) (suc T.l) (length h21) T.L.b (poly F h21) o.h21_is T.rows.b_degree.below (poly_past F h21)
