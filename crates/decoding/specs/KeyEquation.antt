-- The key equation (Key), and the pair by which the rows of Euclid's algorithm give a solution of it (IsPair). That locator and evaluator solve it is
-- in proofs/KeyEquation, and that each solution has a pair in proofs/Pair.
use Rattle.std.specs.Prelude.{◌≢◌, ℕ, suc, ◌-◌, ◌≤◌}
use Rattle.algebra.specs.Ring.{Ring}
use Rattle.algebra.specs.Poly.{conv, padd, pneg, pzero, Below, Order, Degree}
use Rattle.algebra.specs.Coprime.{Coprime}
use Rattle.algebra.specs.Euclid.{Row, Combination}

-- Λ of the degree ε, and Ω of a lower one, solve the key equation: Λ S = Ω modulo x ^ D
pub record Key (R : Ring) (D : ℕ) (S : ℕ → R.El) (ε : ℕ) (Λ Ω : ℕ → R.El) : Type 0 where
  pub Λ_degree : Degree R ε Λ
  pub Ω_below : Below R ε Ω
  pub coprime : Coprime R Ω Λ
  pub divides : Order R D (padd R Ω (conv R (pneg R Λ) S))

-- (f₁, f₂) is the pair of a solution of the key equation, by the rows P and L at which Euclid's algorithm stops: (Ω, - Λ) = f₁ P + f₂ L,
-- where p is the degree of P.a and l that of L.b
pub record IsPair (R : Ring) (P L : Row R) (p l ε : ℕ) (Λ Ω f₁ f₂ : ℕ → R.El) : Type 0 where
  pub combination : Combination R P L Ω (pneg R Λ) f₁ f₂
  pub f₁_below : Below R (ε - p) f₁
  pub f₂_below : Below R (suc ε - l) f₂
  pub f₂≢zero : f₂ ≢ pzero R
  pub enough : l ≤ ε
  pub coprime : Coprime R f₁ f₂
