-- How far the iteration has come: the state of its lists, and what each of its three loops does to it.
-- The loops go over the places i, over the orders b < s, and over the orders a < s - b; `Upto` has the constraints that are done.
use Rattle.std.specs.Prelude.{◌≡◌, ℕ, suc, ◌+◌, ◌<◌, ◌≤◌, List, length, slice_index}
use Rattle.fields.specs.Numbers.{Numbers, Element, elem, ring_of, field_of}
use Rattle.polynomials.specs.Series.{poly}
use Rattle.decoding.specs.Koetter.{Problem, Invariant, Upto, steps}
use Rattle.decoding.specs.Multiplicity.{Slope, slope, expansion}
use Rattle.functionals.specs.Tables.{WeightTable}
use Rattle.elimination.specs.Stepping.{rows_of, exponents, Ranked}

-- the constraints D are done, in n steps
pub record State (F : Numbers) (P : Problem (Element F)) (D : ℕ → ℕ → ℕ → Type 0) (n : ℕ) (rows ranks : List ℕ) : Type 0 where
  pub ranked : Ranked F P ranks
  pub holds : Invariant (field_of F) P D n (rows_of F P rows) (exponents F P ranks)

-- the loops have come to i, b, a
abbrev pub Reached : (F : Numbers) → Problem (Element F) → (s i b a : ℕ) → (rows ranks : List ℕ) → Type 0
Reached F P s i b a rows ranks = State F P (Upto s i b a) (steps s i b a) rows ranks

-- cs has the weights of the order b at the place i, which is at x = α, in a problem with the bound B
pub record OrderOf (F : Numbers) (P : Problem (Element F)) (B i b α : ℕ) (cs : List ℕ) : Type 0 where
  pub degree : suc P.ℓ ≡ length cs
  pub bound : P.B ≡ B
  pub place : P.α i ≡ elem F α
  pub weights : (t : ℕ) → t ≤ P.ℓ → poly F cs t ≡ P.c i b t

-- the constraints (a, b) at a place for a < n
abbrev pub Orders : (F : Numbers) → (B α : ℕ) → List ℕ → ℕ → (rows ranks rows' ranks' : List ℕ) → Type 0
Orders F B α cs n rows ranks rows' ranks' =
    (P : Problem (Element F)) (s i b : ℕ) → n + b ≤ s → OrderOf F P B i b α cs → Reached F P s i b 0 rows ranks → Reached F P s i b n rows' ranks'

-- the place i is (α; σ), in a problem with ℓ + 1 = count positions and the bound B
pub record PlaceOf (F : Numbers) (P : Problem (Element F)) (count B i α : ℕ) (σ : Slope (Element F)) : Type 0 where
  pub degree : suc P.ℓ ≡ count
  pub bound : P.B ≡ B
  pub place : P.α i ≡ elem F α
  pub weights : (b t : ℕ) → expansion (ring_of F) P.ℓ σ b t ≡ P.c i b t

-- all constraints at a place, where weights is its table
abbrev pub Passed : (F : Numbers) → (count B α s : ℕ) → (weights rows ranks rows' ranks' : List ℕ) → Type 0
Passed F count B α s weights rows ranks rows' ranks' =
    (σ : Slope (Element F)) → WeightTable F σ count weights → (P : Problem (Element F)) (i : ℕ) → PlaceOf F P count B i α σ
    → Reached F P s i 0 0 rows ranks → Reached F P s (suc i) 0 0 rows' ranks'

-- all constraints
abbrev pub Done : (F : Numbers) → (count B s : ℕ) → (points ys zs rows ranks rows' ranks' : List ℕ) → Type 0
Done F count B s points ys zs rows ranks rows' ranks' =
    (P : Problem (Element F))
    → ((i : ℕ) → i < length points → PlaceOf F P count B i (slice_index points i) (slope (field_of F) (poly F ys i) (poly F zs i)))
    → Reached F P s 0 0 0 rows ranks → Reached F P s (length points) 0 0 rows' ranks'
