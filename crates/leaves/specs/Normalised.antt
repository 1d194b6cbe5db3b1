-- A pair of polynomials made normal by a constant factor, in this order: the coefficient by which it is divided, and the pair after the division.
use Rattle.std.specs.Prelude.{◌≡◌, ℕ, ◌<◌, ◌≢◌, ◌⊎◌, List}
use Rattle.algebra.specs.Poly.{scale, pzero, Below, Degree}
use Rattle.algebra.specs.Coprime.{Normal}
use Rattle.fields.specs.Numbers.{Numbers, Element, elem, ring_of}
use Rattle.polynomials.specs.Series.{poly, Reads}

-- c is the leading coefficient of f₂, or f₂ is zero and f₁ is the constant c, which is not zero
pub record Leads (F : Numbers) (f₁ f₂ : List ℕ) (c : ℕ) : Type 0 where
  pub below : c < F.q
  pub nonzero : elem F c ≢ elem F 0
  pub leads : ((d : ℕ) × Degree (ring_of F) d (poly F f₂) × (poly F f₂ d ≡ elem F c))
      ⊎ ((poly F f₂ ≡ pzero (ring_of F)) × Below (ring_of F) 1 (poly F f₁) × (poly F f₁ 0 ≡ elem F c))

-- (g₁, g₂) is (f₁, f₂) times a constant other than zero, and normal
pub record Normalised (F : Numbers) (f₁ f₂ g₁ g₂ : List ℕ) : Type 0 where
  pub factor : Element F
  pub factor≢zero : factor ≢ elem F 0
  pub first : Reads F g₁ (scale (ring_of F) factor (poly F f₁))
  pub second : Reads F g₂ (scale (ring_of F) factor (poly F f₂))
  pub normal : Normal (ring_of F) (poly F g₁) (poly F g₂)
