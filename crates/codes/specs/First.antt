-- The first of some numbers that has an answer: over the n numbers i, i + 1, .. in their order.
use Rattle.std.specs.Prelude.{ℕ, zero, suc, ◌+◌, Bool, cond, Some, None, Err, Option, Result}

-- the first answer, else the second
abbrev pub or_else : {A : Type 0} → Option A → Option A → Option A
or_else None b = b
or_else (Some x) b = Some x

-- x, if the test holds
abbrev pub when : {A : Type 0} → Bool → A → Option A
when b x = cond b (Some x) None

-- the answer of the first of n numbers from i that has one
abbrev pub first_of : {A : Type 0} → (ℕ → Option A) → ℕ → ℕ → Option A
first_of f i zero = None
first_of f i (suc n) = or_else (f i) (first_of f (i + 1) n)

-- the first number below n that meets the test
abbrev pub first_below : ℕ → (ℕ → Bool) → Option ℕ
first_below n test = first_of (λ i. when (test i) i) 0 n

abbrev pub mapped : {A B : Type 0} → (A → B) → Option A → Option B
mapped f None = None
mapped f (Some x) = Some (f x)

-- the fault, if there is one, else the answer
abbrev pub unless : {A E : Type 0} → Option E → Result A E → Result A E
unless None r = r
unless (Some e) r = Err e
