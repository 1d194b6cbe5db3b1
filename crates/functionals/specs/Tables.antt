-- What the numbers of a place are, by which a functional is computed: first a row of numbers, then a table of such rows, then the value.
use Rattle.std.specs.Prelude.{◌≡◌, ℕ, zero, suc, ◌+◌, ◌-◌, ◌*◌, ◌<◌, ◌≤◌, List, length}
use Rattle.fields.specs.Numbers.{Numbers, AllBelow, Element, elem, ring_of}
use Rattle.polynomials.specs.Series.{poly}
use Rattle.algebra.specs.Taylor.{tay}
use Rattle.decoding.specs.Multiplicity.{Slope as Point, finite, infinite, expansion, functional}
use Rattle.functionals.specs.Runs.{run, family}
use Rattle.functionals.specs.declared.Slope.{Slope}
use Rattle.functionals.specs.declared.Slope.TheVariants.{Finite, Infinite}

-- the number of the coefficient of u ^ a in (u + α) ^ m, that is of binomial (m, a) α ^ (m - a)
unfoldable pub coefficient : Numbers → ℕ → ℕ → ℕ → ℕ
coefficient F α zero zero = 1
coefficient F α zero (suc a) = 0
coefficient F α (suc m) zero = F.mul α (coefficient F α m zero)
coefficient F α (suc m) (suc a) = F.add (coefficient F α m a) (F.mul α (coefficient F α m (suc a)))

-- the row of the order a: its numbers are the coefficients of u ^ a in the powers of u + α
pub record Taylor (F : Numbers) (α a : ℕ) (xs : List ℕ) : Type 0 where
  pub below : AllBelow F.q xs
  pub is : (m : ℕ) → m < length xs → poly F xs m ≡ tay (ring_of F) (elem F α) m a

-- the ratio y / z that a slope stands for
abbrev pub point : (F : Numbers) → Slope → Point (Element F)
point F (Finite β) = finite (elem F β)
point F Infinite = infinite

-- a slope by a number below q
abbrev pub Proper : (F : Numbers) → Slope → Type 0
Proper F (Finite β) = β < F.q
Proper F Infinite = Unit {0}

-- the weights of the positions t ≤ ℓ at the order b, where ℓ + 1 is the count of the numbers
pub record Weights (F : Numbers) (σ : Point (Element F)) (b : ℕ) (xs : List ℕ) : Type 0 where
  pub below : AllBelow F.q xs
  pub is : (t : ℕ) → t < length xs → poly F xs t ≡ expansion (ring_of F) (length xs - 1) σ b t

-- tables of rows of one size, for the orders 0, 1, .. as far as the list goes
pub record TaylorTable (F : Numbers) (α size : ℕ) (xs : List ℕ) : Type 0 where
  pub below : AllBelow F.q xs
  pub row : (a : ℕ) → a * size + size ≤ length xs → Taylor F α a (run size xs a)

pub record WeightTable (F : Numbers) (σ : Point (Element F)) (size : ℕ) (xs : List ℕ) : Type 0 where
  pub below : AllBelow F.q xs
  pub row : (b : ℕ) → b * size + size ≤ length xs → Weights F σ b (run size xs b)

-- r is the functional of the row with the coefficients cs and, for a Taylor row xs, the orders of xs
abbrev pub Discrepancy : (F : Numbers) → (row xs cs : List ℕ) → ℕ → Type 0
Discrepancy F row xs cs r =
    (ℓ α a : ℕ) (c : ℕ → Element F) → suc ℓ ≡ length cs → Taylor F α a xs → ((t : ℕ) → t ≤ ℓ → poly F cs t ≡ c t)
    → elem F r ≡ functional (ring_of F) ℓ (length xs) (elem F α) c a (family F (length xs) row)
