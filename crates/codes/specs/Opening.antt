-- Opening: what it is given, and the first of its checks that applies. Each of the checks of the places goes over all of them before the next begins.
use Rattle.std.specs.Prelude.{◌≡◌, ℕ, Bool, not, ◌||◌, List, length, take, is_some, Some, None, Ok, Err, Option, Result, ◌==◌, nat_eq, nat_le, nat_lt, slice_index}
use Rattle.faults.specs.declared.CodeFault.{CodeFault}
use Rattle.faults.specs.declared.CodeFault.TheVariants.{PlaceCount, Threshold, Point, RepeatedPoint, Multiplier, Setting as NotAccepted}
use Rattle.codes.specs.declared.Setting.{Setting}
use Rattle.codes.specs.declared.Opening.{Opening}
use Rattle.codes.specs.declared.Code.{Code}
use Rattle.codes.specs.First.{or_else, when, first_below, mapped}
use Rattle.codes.specs.Settings.{accepts}

-- all that opening is given
pub record Given : Type 0 where
  pub points : List ℕ
  pub multipliers : List ℕ
  pub threshold : ℕ
  pub setting : Setting

abbrev pub given : Opening → Given
given o = record { points = o.points.now; multipliers = o.multipliers.now; threshold = o.threshold; setting = o.setting }

-- the number at the place i is 0, or no element of a field of q elements
abbrev pub unfit : ℕ → List ℕ → ℕ → Bool
unfit q xs i = slice_index xs i == 0 || nat_le q (slice_index xs i)

-- the number at the place i stands at an earlier place too
abbrev pub repeats : List ℕ → ℕ → Bool
repeats xs i = is_some (first_below i (λ j. nat_eq (slice_index xs j) (slice_index xs i)))

abbrev pub first_unfit : ℕ → List ℕ → Option ℕ
first_unfit q xs = first_below (length xs) (unfit q xs)

abbrev pub first_repeat : List ℕ → Option ℕ
first_repeat xs = first_below (length xs) (repeats xs)

-- the checks, each with its fault where it applies
abbrev pub count_fault : ℕ → Given → Option CodeFault
count_fault q g =
    let n = length g.points in
    let m = length g.multipliers in
    when (nat_lt n 2 || (nat_lt 32 n || (nat_le q n || not (m == n)))) (PlaceCount n m)

abbrev pub threshold_fault : Given → Option CodeFault
threshold_fault g = when (g.threshold == 0 || nat_le (length g.points) g.threshold) (Threshold g.threshold)

abbrev pub place_fault : ℕ → Given → Option CodeFault
place_fault q g =
    or_else (mapped Point (first_unfit q g.points))
    (or_else (mapped RepeatedPoint (first_repeat g.points)) (mapped Multiplier (first_unfit q g.multipliers)))

abbrev pub setting_fault : Given → Option CodeFault
setting_fault g =
    let τ = g.setting.radius in
    let s = g.setting.multiplicity in
    let ℓ = g.setting.list_limit in
    when (not (accepts (length g.points) g.threshold τ s ℓ)) (NotAccepted τ s ℓ)

abbrev pub first_fault : ℕ → Given → Option CodeFault
first_fault q g =
    or_else (count_fault q g) (or_else (threshold_fault g) (or_else (place_fault q g) (setting_fault g)))

-- the fault of an answer that is refused
abbrev pub fault_of : {A E : Type 0} → Result A E → Option E
fault_of (Ok x) = None
fault_of (Err e) = Some e

-- the code is the given one, over a field of q elements
pub record Holds (q : ℕ) (g : Given) (c : Code) : Type 0 where
  pub field : c.q ≡ q
  pub count : c.count ≡ length g.points
  pub points : take c.count c.points ≡ g.points
  pub multipliers : take c.count c.multipliers ≡ g.multipliers
  pub threshold : c.threshold ≡ g.threshold
