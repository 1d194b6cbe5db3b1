-- How the lists of a program are read as the rows and exponents of Kötter's iteration, and what a step of it is to the lists.
use Rattle.std.specs.Prelude.{◌≡◌, ℕ, suc, ◌-◌, ◌*◌, ◌≤◌, List, length, slice_index}
use Rattle.fields.specs.Numbers.{Numbers, Element, elem, field_of}
use Rattle.polynomials.specs.Series.{poly}
use Rattle.decoding.specs.Koetter.{Problem, Step}
use Rattle.functionals.specs.Runs.{run, family}
use Rattle.functionals.specs.Tables.{Taylor}

-- row j is the run j of the list, of ℓ + 1 runs of B numbers
abbrev pub rows_of : (F : Numbers) → Problem (Element F) → List ℕ → ℕ → ℕ → ℕ → Element F
rows_of F P rows j = family F P.B (run (suc P.ℓ * P.B) rows j)

-- the rank of a row is its exponent and the weight of its position
abbrev pub exponents : (F : Numbers) → Problem (Element F) → List ℕ → ℕ → ℕ
exponents F P ranks j = slice_index ranks j - P.W j

abbrev pub Ranked : (F : Numbers) → Problem (Element F) → List ℕ → Type 0
Ranked F P ranks = (j : ℕ) → j ≤ P.ℓ → P.W j ≤ slice_index ranks j

-- the numbers are those of the constraint (i, a, b)
pub record Meets (F : Numbers) (P : Problem (Element F)) (i a b α : ℕ) (xs cs : List ℕ) : Type 0 where
  pub degree : suc P.ℓ ≡ length cs
  pub bound : P.B ≡ length xs
  pub place : P.α i ≡ elem F α
  pub orders : Taylor F α a xs
  pub weights : (t : ℕ) → t ≤ P.ℓ → poly F cs t ≡ P.c i b t

-- a step of the iteration, for each problem and constraint that the numbers fit
pub record Stepped (F : Numbers) (α : ℕ) (xs cs rows ranks rows' ranks' : List ℕ) : Type 0 where
  pub step : (P : Problem (Element F)) (i a b : ℕ) → Meets F P i a b α xs cs → Ranked F P ranks
      → Step (field_of F) P i a b (rows_of F P rows) (exponents F P ranks) (rows_of F P rows') (exponents F P ranks')
  pub ranked : (P : Problem (Element F)) → Ranked F P ranks → Ranked F P ranks'
