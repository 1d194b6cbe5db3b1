-- The question of the roots call: what it is given, and what refuses it, in the order of the checks.
use Rattle.std.specs.Prelude.{◌≡◌, ℕ, ◌+◌, ◌*◌, ◌<◌, ◌≤◌, Bool, false, not, List, length, Option, ◌==◌, nat_lt, slice_index}
use Rattle.std.specs.List.{list_all}
use Rattle.fields.specs.Numbers.{AllBelow}
use Rattle.codes.specs.First.{or_else, when, mapped}
use Rattle.codes.specs.Codewords.{first_beyond}
use Rattle.faults.specs.declared.ListingFault.{ListingFault}
use Rattle.faults.specs.declared.ListingFault.TheVariants.{Shape, NotAnElement, ZeroForm, ResultArea, WorkArea}
use Rattle.leaves.specs.declared.questions.Question.{Question}

-- ℓ + 1 runs of c numbers, and the bounds
pub record Asked : Type 0 where
  pub form : List ℕ
  pub ℓ : ℕ
  pub c : ℕ
  pub w₁ : ℕ
  pub w₂ : ℕ

abbrev pub asked : Question → Asked
asked q = record { form = q.form.now; ℓ = q.degree; c = q.length; w₁ = q.w1; w₂ = q.w2 }

abbrev pub all_zero : List ℕ → Bool
all_zero = list_all (λ x. x == 0)

-- 1 ≤ ℓ ≤ 8, 1 ≤ c ≤ 400, bounds from 0 to 31, and ℓ + 1 runs of c numbers
abbrev pub shape_fault : Asked → Option ListingFault
shape_fault a =
    or_else (when (a.ℓ == 0) Shape)
    (or_else (when (nat_lt 8 a.ℓ) Shape)
    (or_else (when (a.c == 0) Shape)
    (or_else (when (nat_lt 400 a.c) Shape)
    (or_else (when (nat_lt 31 a.w₁) Shape)
    (or_else (when (nat_lt 31 a.w₂) Shape)
    (when (not (length a.form == (a.ℓ + 1) * a.c)) Shape))))))

-- a number that is no element, the first of them; or no number but zero
abbrev pub numbers_fault : ℕ → Asked → Option ListingFault
numbers_fault q a =
    or_else (mapped (λ i. NotAnElement i (slice_index a.form i)) (first_beyond q a.form))
    (when (all_zero a.form) ZeroForm)

-- ℓ records, and 400,000 numbers to work with
abbrev pub areas_fault : Asked → ℕ → ℕ → Option ListingFault
areas_fault a records numbers =
    or_else (when (nat_lt records a.ℓ) (ResultArea records)) (when (nat_lt numbers 400000) (WorkArea numbers))

-- the first check that applies
abbrev pub roots_fault : ℕ → Asked → ℕ → ℕ → Option ListingFault
roots_fault q a records numbers = or_else (shape_fault a) (or_else (numbers_fault q a) (areas_fault a records numbers))

-- how many numbers to work with a question takes: the runs with room for w₁ + w₂ + 1 digits, the digits, the form turned, and three polynomials
-- of a leaf
abbrev pub need : Asked → ℕ
need a = (a.ℓ + 1) * (a.c + a.ℓ * (a.w₁ + a.w₂ + 1)) + (a.w₁ + a.w₂ + 1) + (a.ℓ + 1) * a.c + 3 * (a.c + a.ℓ * 31)

-- what a question has that nothing refuses
pub record Sized (q : ℕ) (a : Asked) (records numbers : ℕ) : Type 0 where
  pub degree : 0 < a.ℓ
  pub few : a.ℓ ≤ 8
  pub wide : 0 < a.c
  pub short : a.c ≤ 400
  pub first : a.w₁ ≤ 31
  pub second : a.w₂ ≤ 31
  pub long : length a.form ≡ (a.ℓ + 1) * a.c
  pub all : AllBelow q a.form
  pub some : all_zero a.form ≡ false
  pub enough : a.ℓ ≤ records
  pub work : 400000 ≤ numbers

-- what a question has that can be answered with result areas of so many records and so many numbers to work with
pub record Answerable (q : ℕ) (a : Asked) (records numbers : ℕ) : Type 0 where
  pub degree : 0 < a.ℓ
  pub few : a.ℓ ≤ 8
  pub wide : 0 < a.c
  pub short : a.c ≤ 400
  pub first : a.w₁ ≤ 31
  pub second : a.w₂ ≤ 31
  pub long : length a.form ≡ (a.ℓ + 1) * a.c
  pub all : AllBelow q a.form
  pub some : all_zero a.form ≡ false
  pub enough : a.ℓ ≤ records
  pub work : need a ≤ numbers
