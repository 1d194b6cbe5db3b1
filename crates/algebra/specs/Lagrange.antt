-- Polynomials by their values at n points: ∏ (x - α h) over some of the places, and the barycentric weights of Lagrange's interpolation.
use Rattle.std.specs.Prelude.{Bool, ℕ}
use Rattle.algebra.specs.Ring.{Ring}
use Rattle.algebra.specs.Field.{Field}
use Rattle.algebra.specs.Sums.{all, but, prod}
use Rattle.algebra.specs.Poly.{lin}
use Rattle.algebra.specs.PolyRing.{Poly}

-- ∏ (x - α h) over the marked ones of the first n places
abbrev pub locator : (R : Ring) → ℕ → (ℕ → Bool) → (ℕ → R.El) → ℕ → R.El
locator R n b α = prod (Poly R) n b (λ h. lin R (α h))

-- the barycentric weight 1 / ∏ (α j - α h) over the other h < n
unfoldable pub barycentric : (𝓕 : Field) → ℕ → (ℕ → 𝓕.ring.El) → ℕ → 𝓕.ring.El
barycentric 𝓕 n α j = 𝓕.inv (prod 𝓕.ring n (but j all) (λ h. 𝓕.ring.◌⊕◌ (α j) (𝓕.ring.⊖◌ (α h))))
