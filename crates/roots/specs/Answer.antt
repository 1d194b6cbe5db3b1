-- The roots that the call lists, and what it leaves in the result area, in this order: the form that is asked about, when a record is one of
-- its roots, the list, and the areas after an accepted and after a refused call.
use Rattle.std.specs.Prelude.{◌≡◌, ℕ, ◌-◌, ◌≤◌, List, ◌++◌, length, take, replicate, Ok, Err, Result}
use Rattle.decoding.specs.Rational.{Root}
use Rattle.fields.specs.Numbers.{Numbers, AllBelow, Element, ring_of}
use Rattle.polynomials.specs.Series.{poly}
use Rattle.rolls.specs.Order.{Lists}
use Rattle.faults.specs.declared.ListingFault.{ListingFault}
use Rattle.digits.specs.Runs.{runs}
use Rattle.leaves.specs.declared.pairs.Pair.{Pair}
use Rattle.leaves.specs.Order.{in_order}
use Rattle.roots.specs.Asked.{Asked}

-- the coefficients Q_0 .. Q_ℓ of the form
abbrev pub form_of : (F : Numbers) → Asked → ℕ → ℕ → Element F
form_of F a = runs F a.c a.form

-- a record of twice 32 elements that is a coprime root within the bounds, normalised
pub record IsRoot (F : Numbers) (a : Asked) (p : Pair) : Type 0 where
  pub first_long : length p.first ≡ 32
  pub second_long : length p.second ≡ 32
  pub first_below : AllBelow F.q p.first
  pub second_below : AllBelow F.q p.second
  pub root : Root (ring_of F) a.ℓ a.w₁ a.w₂ (form_of F a) (poly F p.first) (poly F p.second)

-- 32 zeros and 32 zeros
abbrev pub blank : Pair
blank = record { first = replicate 32 0; second = replicate 32 0 }

-- the result area: the roots, all of them in order, each once, and blank records beyond them
pub record Listed (F : Numbers) (a : Asked) (n : ℕ) (area : List Pair) : Type 0 where
  pub fits : n ≤ a.ℓ
  pub roots : Lists in_order (IsRoot F a) (take n area)
  pub beyond : area ≡ take n area ++ replicate (length area - n) blank

-- an accepted call lists the roots, and a refused one changes nothing
abbrev pub Answered : (F : Numbers) → Asked → List Pair → Result ℕ ListingFault → List Pair → Type 0
Answered F a area (Ok n) area' = Listed F a n area' × (length area' ≡ length area)
Answered F a area (Err e) area' = area' ≡ area
