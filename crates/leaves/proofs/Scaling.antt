-- Pairs of polynomials times a constant: the coefficient that leads, and that the pair over it is normal.
use Rattle.std.proofs.Common.{◌≡◌, ℕ, zero, suc, ◌-◌, ◌<◌, ◌≢◌, ◌⊎◌, List, length, get_or, sym, refl, ap, ◌∙◌, subst, inl, inr, arith}
use mathlib.Core.Path.{fun_ext}
use native.Mathlib.Decide.{dec_lt}
use Rattle.algebra.specs.RingLaws as L
use Rattle.algebra.specs.Poly.{scale, pzero, const, Below, Degree}
use Rattle.algebra.specs.Coprime.{Normal}
use Rattle.algebra.specs.Division.{size}
use Rattle.algebra.proofs.Degrees.{size_degree}
use Rattle.fields.specs.Numbers.{Numbers, AllBelow, Element, elem, times, over, ring_of, field_of, elem_inv}
use Rattle.polynomials.specs.Series.{poly, Reads}
use Rattle.polynomials.proofs.Readings.{all_at, past, poly_past}
use Rattle.leaves.specs.Normalised.{Leads, Normalised}
use Rattle.leaves.proofs.Horner.{empty_zero}

module _ (F : Numbers) where
  -- where f₂ is zero, f₁ has a constant coefficient
  pub constant_there : (f₁ f₂ : List ℕ) → (poly F f₂ ≡ pzero (ring_of F) → Degree (ring_of F) 0 (poly F f₁))
      → size (field_of F) (length f₂) (poly F f₂) ≡ 0 → 0 < length f₁
  unfolding poly
  constant_there f₁ f₂ proper e =
      elim (dec_lt 0 (length f₁)) [
        | yes l ↦ l
        | no l ↦ absurd ((proper (empty_zero F (length f₂) (poly F f₂) (poly_past F f₂) e)).lead (ap (elem F) (past F f₁ 0 (omega arith))))
      ]

  pub leads_second : (f₁ f₂ : List ℕ) (n : ℕ) → AllBelow F.q f₂ → n ≡ size (field_of F) (length f₂) (poly F f₂) → 0 < n
      → Leads F f₁ f₂ (get_or f₂ (n - 1) 0)
  unfolding poly
  leads_second f₁ f₂ n all e h =
      let d = size_degree (field_of F) (length f₂) (n - 1) (poly F f₂) (poly_past F f₂) (sym e ∙ (let z : n ≡ suc (n - 1) = omega arith in z)) in
      record { below = all_at F f₂ all (n - 1); nonzero = d.lead; leads = inl (n - 1, d, refl) }

  pub leads_first : (f₁ f₂ : List ℕ) → AllBelow F.q f₁ → (poly F f₂ ≡ pzero (ring_of F) → Degree (ring_of F) 0 (poly F f₁))
      → size (field_of F) (length f₂) (poly F f₂) ≡ 0 → Leads F f₁ f₂ (get_or f₁ 0 0)
  unfolding poly
  leads_first f₁ f₂ all proper e =
      let z = empty_zero F (length f₂) (poly F f₂) (poly_past F f₂) e in
      let d = proper z in
      record { below = all_at F f₁ all 0; nonzero = d.lead; leads = inr (z, d.below, refl) }

  scale_past : (c : Element F) (n : ℕ) (p : ℕ → Element F) → Below (ring_of F) n p → Below (ring_of F) n (scale (ring_of F) c p)
  unfolding scale
  scale_past c n p h i l = ap (times F c) (h i l) ∙ L.mul_zero (ring_of F) c

  scale_lead : (c : Element F) (p : ℕ → Element F) (d : ℕ) → c ≢ elem F 0 → p d ≡ c → scale (ring_of F) (over F c) p d ≡ elem F 1
  unfolding scale
  scale_lead c p d h e =
      ap (times F (over F c)) e ∙ (ring_of F).mul_comm (over F c) c ∙ (field_of F).mul_inv c h

  scale_zero : (c : Element F) (p : ℕ → Element F) → p ≡ pzero (ring_of F) → scale (ring_of F) c p ≡ pzero (ring_of F)
  unfolding scale pzero
  scale_zero c p e = fun_ext (λ i. ap (λ (f : ℕ → Element F). times F c (f i)) e ∙ L.mul_zero (ring_of F) c)

  constant_one : (p : ℕ → Element F) → Below (ring_of F) 1 p → p 0 ≡ elem F 1 → p ≡ const (ring_of F) (elem F 1)
  unfolding const
  constant_one p h e = fun_ext go
    where
      go : (i : ℕ) → p i ≡ const (ring_of F) (elem F 1) i
      go zero = e
      go (suc i) = h (suc i) (omega arith)

  scaled_normal : (f₁ f₂ : List ℕ) (c : ℕ) → Leads F f₁ f₂ c
      → Normal (ring_of F) (scale (ring_of F) (over F (elem F c)) (poly F f₁)) (scale (ring_of F) (over F (elem F c)) (poly F f₂))
  scaled_normal f₁ f₂ c l = go l.leads
    where
      i : Element F
      i = over F (elem F c)

      go : ((d : ℕ) × Degree (ring_of F) d (poly F f₂) × (poly F f₂ d ≡ elem F c))
          ⊎ ((poly F f₂ ≡ pzero (ring_of F)) × Below (ring_of F) 1 (poly F f₁) × (poly F f₁ 0 ≡ elem F c))
          → Normal (ring_of F) (scale (ring_of F) i (poly F f₁)) (scale (ring_of F) i (poly F f₂))
      go (inl (d, g, e)) =
          inl (d, scale_past i (suc d) (poly F f₂) g.below, scale_lead (elem F c) (poly F f₂) d l.nonzero e)
      go (inr (z, b, e)) =
          inr (scale_zero i (poly F f₂) z, constant_one (scale (ring_of F) i (poly F f₁)) (scale_past i 1 (poly F f₁) b) (scale_lead (elem F c) (poly F f₁) 0 l.nonzero e))

  inverse_nonzero : (c : Element F) → c ≢ elem F 0 → over F c ≢ elem F 0
  inverse_nonzero c h e =
      (field_of F).one≢zero (sym ((field_of F).mul_inv c h) ∙ ap (times F c) e ∙ L.mul_zero (ring_of F) c)

  -- both polynomials times the inverse of the leading coefficient
  pub normalised_is : (f₁ f₂ g₁ g₂ : List ℕ) (c r : ℕ) → Leads F f₁ f₂ c → r ≡ F.inv c
      → Reads F g₁ (scale (ring_of F) (elem F r) (poly F f₁)) → Reads F g₂ (scale (ring_of F) (elem F r) (poly F f₂))
      → Normalised F f₁ f₂ g₁ g₂
  normalised_is f₁ f₂ g₁ g₂ c r l e r₁ r₂ =
      let i : elem F r ≡ over F (elem F c) = ap (elem F) e ∙ elem_inv F c l.below in
      record {
        factor = elem F r;
        factor≢zero = subst (λ (x : Element F). x ≢ elem F 0) (sym i) (inverse_nonzero (elem F c) l.nonzero);
        first = r₁;
        second = r₂;
        normal =
            let N : (ℕ → Element F) → (ℕ → Element F) → Type 0 = Normal (ring_of F) in
            subst (λ (g : ℕ → Element F). N (poly F g₁) g) (sym r₂.is)
            (subst (λ (g : ℕ → Element F). N g (scale (ring_of F) (elem F r) (poly F f₂))) (sym r₁.is)
            (subst (λ (x : Element F). N (scale (ring_of F) x (poly F f₁)) (scale (ring_of F) x (poly F f₂))) (sym i) (scaled_normal f₁ f₂ c l)));
      }
