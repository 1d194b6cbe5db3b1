-- Interpolating, by the book: the shape of the interpolant that shares ask for, the checks that refuse the call, in order, and what it writes.
use Rattle.std.specs.Prelude.{◌≡◌, ℕ, suc, ◌*◌, Bool, true, false, ◌||◌, List, length, take, drop, ℤ, pos, negsuc, Some, Ok, Err, Option, Result, nat_lt}
use Rattle.fields.specs.Numbers.{Numbers}
use Rattle.faults.specs.declared.CollectionFault.TheVariants.{Blank}
use Rattle.faults.specs.declared.ListingFault.{ListingFault}
use Rattle.faults.specs.declared.ListingFault.TheVariants.{Collection, NegativeWeight, ResultArea, WorkArea}
use Rattle.codes.specs.declared.Setting.{Setting}
use Rattle.codes.specs.First.{or_else, when}
use Rattle.codes.specs.Settings.{work_area}
use Rattle.stages.specs.Basis.{Basis, basis, w1 as first_weight, w2 as second_weight}
use Rattle.collections.specs.Book.{Book, unopened, opened}
use Rattle.gathering.specs.Shares.{numbers, gathering_fault}
use Rattle.interpolant.specs.declared.Shape.{Shape}
use Rattle.interpolant.specs.Problems.{basis_problem, Solution, Decodes}

abbrev pub negative : ℤ → Bool
negative (pos n) = false
negative (negsuc n) = true

-- a number that is not negative
abbrev pub amount : ℤ → ℕ
amount (pos n) = n
amount (negsuc n) = 0

-- degree ℓ in y and z, roots of multiplicity s, and weighted degrees below s τ
abbrev pub shape_of : Setting → ℤ → ℤ → Shape
shape_of x a b =
    record { degree = x.list_limit; multiplicity = x.multiplicity; w1 = amount a; w2 = amount b; bound = x.multiplicity * x.radius }

-- ℓ + 1 runs of s τ numbers
abbrev pub size_of : Setting → ℕ
size_of x = suc x.list_limit * (x.multiplicity * x.radius)

abbrev pub work_of : ℕ → Setting → ℕ
work_of n x = work_area n x

-- 25
abbrev pub weight_fault : ℤ → ℤ → Option ListingFault
weight_fault a b = when (negative a || negative b) NegativeWeight

-- 10, then 11, for a result area that has m of the z that are wanted and a work area of w numbers
abbrev pub room_fault : ℕ → Setting → ℕ → ℕ → ℕ → Option ListingFault
room_fault n x z m w = or_else (when (nat_lt m z) (ResultArea m)) (when (nat_lt w (work_of n x)) (WorkArea w))

-- the same for areas of m and w numbers
abbrev pub area_fault : ℕ → Setting → ℕ → ℕ → Option ListingFault
area_fault n x m w = room_fault n x (size_of x) m w

module _ (F : Numbers) where
  -- 25, 10, 11, for the points αs, the multipliers vs, the threshold k and the shares rs
  abbrev pub shares_fault : (αs vs : List ℕ) → ℕ → Setting → List ℕ → ℕ → ℕ → Option ListingFault
  shares_fault αs vs k x rs m w =
      let B : Basis = basis F αs vs k rs in
      or_else (weight_fault (first_weight x.radius B) (second_weight x.radius B)) (area_fault (length αs) x m w)

  -- an interpolant stands at the front of the area, and the rest of it is as it was
  pub record Interpolated (αs vs : List ℕ) (k : ℕ) (x : Setting) (rs before after : List ℕ) : Type 0 where
    pub solution : Solution F
        (basis_problem F (shape_of x (first_weight x.radius (basis F αs vs k rs)) (second_weight x.radius (basis F αs vs k rs))) αs (basis F αs vs k rs).rows.before.b (basis F αs vs k rs).rows.last.b)
        (length αs) x.multiplicity (take (size_of x) after)
    pub decodes : Decodes F (shape_of x (first_weight x.radius (basis F αs vs k rs)) (second_weight x.radius (basis F αs vs k rs))) αs
        (basis F αs vs k rs).rows.before.b (basis F αs vs k rs).rows.last.b (take (size_of x) after)
    pub rest : drop (size_of x) after ≡ drop (size_of x) before

  -- what stands in the area after the call
  abbrev pub Written : (αs vs : List ℕ) → ℕ → Setting → List ℕ → {U : Type 0} → Result U ListingFault → (before after : List ℕ) → Type 0
  Written αs vs k x rs (Ok _) before after = Interpolated αs vs k x rs before after
  Written αs vs k x rs (Err _) before after = after ≡ before

  -- 20, then 9, 24 and 8, then 25, 10 and 11
  abbrev pub interpolating_fault : Book → List (Option ℕ) → ℕ → ℕ → Option ListingFault
  interpolating_fault unopened told m w = Some (Collection Blank)
  interpolating_fault (opened g ps) told m w =
      or_else (gathering_fault F.q (length g.points) told)
      (shares_fault g.points g.multipliers g.threshold g.setting (numbers told) m w)

  abbrev pub WrittenBy : Book → List (Option ℕ) → {U : Type 0} → Result U ListingFault → (before after : List ℕ) → Type 0
  WrittenBy unopened told r before after = after ≡ before
  WrittenBy (opened g ps) told r before after = Written g.points g.multipliers g.threshold g.setting (numbers told) r before after
