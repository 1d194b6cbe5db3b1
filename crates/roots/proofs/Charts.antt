-- Each root is wanted at some end of one of the two walks: that of the form, if f₁ (0) is not zero, and else that of the turned form.
use Rattle.std.proofs.Common.{◌≡◌, ℕ, suc, ◌-◌, ◌≤◌, ◌≢◌, ◌⊎◌, List, [], ap, ◌∙◌, inl, inr, arith}
use Rattle.algebra.specs.Ring.{Ring}
use Rattle.algebra.specs.Sums.{pow}
use Rattle.algebra.specs.Poly.{Below}
use Rattle.algebra.specs.PolyRing.{Poly}
use Rattle.algebra.specs.Taylor.{form}
use Rattle.algebra.proofs.Sums.{sum_cong}
use Rattle.algebra.proofs.Homogeneous.{form_swap}
use Rattle.algebra.proofs.Coprime.{coprime_constant}
use Rattle.decoding.specs.Walk.{turned}
use Rattle.decoding.proofs.Digit.{prefix}
use Rattle.decoding.proofs.Walk.{visited}
use Rattle.fields.specs.Numbers.{Numbers, Element, ring_of, field_of}
use Rattle.polynomials.specs.Series.{poly}
use Rattle.rolls.specs.Order.{Has}
use Rattle.digits.specs.Walks.{Ends, Walked}
use Rattle.digits.proofs.Prefixes.{visited_ends}
use Rattle.leaves.specs.declared.pairs.Pair.{Pair}
use Rattle.roots.specs.Asked.{Asked}
use Rattle.roots.specs.Answer.{form_of, IsRoot}

-- a form is known by its coefficients
pub form_cong : (R : Ring) (ℓ : ℕ) (Q T : ℕ → R.El) (y z : R.El) → ((t : ℕ) → t ≤ ℓ → T t ≡ Q t) → form R ℓ T y z ≡ form R ℓ Q y z
unfolding form
form_cong R ℓ Q T y z e =
    sum_cong R (suc ℓ) (λ t. R.◌⊗◌ (T t) (R.◌⊗◌ (pow R y t) (pow R z (ℓ - t)))) (λ t. R.◌⊗◌ (Q t) (R.◌⊗◌ (pow R y t) (pow R z (ℓ - t))))
    (λ t u. ap (λ q. R.◌⊗◌ q (R.◌⊗◌ (pow R y t) (pow R z (ℓ - t)))) (e t (omega arith)))

module _ (F : Numbers) (a : Asked) (N : ℕ) where
  abbrev R : Ring
  R = ring_of F

  -- what the end of a walk should find
  pub record Wanted₁ (ds : List ℕ) (p : Pair) : Type 0 where
    pub is : IsRoot F a p
    pub constant : poly F p.first 0 ≢ R.𝟘
    pub digits : prefix (field_of F) (poly F p.first) (poly F p.second) N ≡ poly F ds

  pub record Wanted₂ (ds : List ℕ) (p : Pair) : Type 0 where
    pub is : IsRoot F a p
    pub constant : poly F p.second 0 ≢ R.𝟘
    pub digits : prefix (field_of F) (poly F p.second) (poly F p.first) N ≡ poly F ds

  module _ (T : ℕ → ℕ → Element F) (below : Below (Poly R) (suc a.ℓ) T) where
    -- the walk of the form
    pub wanted_first : ((t : ℕ) → t ≤ a.ℓ → T t ≡ form_of F a t) → {S : Type 0} (visits : S → List ℕ → S → Type 0) {s s' : S} (w : Walked visits (Ends F a.ℓ N 0 [] T) s s') (p : Pair) → IsRoot F a p → poly F p.first 0 ≢ R.𝟘 → (ds : List ℕ) × Has ds w.leaves × Wanted₁ ds p
    wanted_first same visits w p x nz =
        let vanishes = form_cong (Poly R) a.ℓ (form_of F a) T (poly F p.second) (poly F p.first) same ∙ x.root.vanishes in
        let (ds, ends, e) = visited_ends F a.ℓ T N below (visited (field_of F) a.ℓ a.w₁ a.w₂ T (poly F p.first) (poly F p.second) nz vanishes N) in
        (ds, w.complete ds ends, record { is = x; constant = nz; digits = e })

    -- and of the turned form
    pub wanted_second : ((t : ℕ) → t ≤ a.ℓ → T t ≡ form_of F a (a.ℓ - t)) → {S : Type 0} (visits : S → List ℕ → S → Type 0) {s s' : S} (w : Walked visits (Ends F a.ℓ N 0 [] T) s s') (p : Pair) → IsRoot F a p → poly F p.second 0 ≢ R.𝟘 → (ds : List ℕ) × Has ds w.leaves × Wanted₂ ds p
    wanted_second same visits w p x nz =
        let vanishes =
        form_cong (Poly R) a.ℓ (turned a.ℓ (form_of F a)) T (poly F p.first) (poly F p.second) same
        ∙ form_swap (Poly R) a.ℓ (form_of F a) (poly F p.second) (poly F p.first) ∙ x.root.vanishes in
        let (ds, ends, e) = visited_ends F a.ℓ T N below (visited (field_of F) a.ℓ a.w₂ a.w₁ T (poly F p.second) (poly F p.first) nz vanishes N) in
        (ds, w.complete ds ends, record { is = x; constant = nz; digits = e })

  -- one of the two is met
  pub either_chart : (p : Pair) → IsRoot F a p → (poly F p.first 0 ≢ R.𝟘) ⊎ (poly F p.second 0 ≢ R.𝟘)
  either_chart p x =
      elim ((field_of F).equal (poly F p.first 0) R.𝟘) [
        | yes z ↦ inr (coprime_constant (field_of F) (poly F p.first) (poly F p.second) x.root.coprime z)
        | no z ↦ inl z
      ]
