-- The basis call on a book: which check refuses first, and the basis and the weights that an accepted call answers.
use Rattle.std.specs.Prelude.{◌≡◌, ℕ, ◌+◌, ◌-◌, ◌*◌, List, [], length, Some, Option, nat_lt}
use Rattle.faults.specs.declared.ListingFault.{ListingFault}
use Rattle.faults.specs.declared.ListingFault.TheVariants.{Collection, ResultArea}
use Rattle.faults.specs.declared.CollectionFault.TheVariants.{Blank}
use Rattle.fields.specs.Numbers.{Numbers}
use Rattle.codes.specs.First.{or_else, when}
use Rattle.collections.specs.Book.{Book, unopened, opened}
use Rattle.gathering.specs.Shares.{numbers, gathering_fault}
use Rattle.stages.specs.Basis.{Basis, basis, w1, w2}
use Rattle.basis_call.specs.declared.Weights.{Weights}

-- 10: five runs of d numbers do not fit into m
abbrev pub area_fault : ℕ → ℕ → ℕ → Option ListingFault
area_fault n k m = when (nat_lt m (5 * (n - k + 1))) (ResultArea m)

-- 20, then 9, 24 and 8, then 10
abbrev pub basis_fault : ℕ → Book → List (Option ℕ) → ℕ → Option ListingFault
basis_fault q unopened told m = Some (Collection Blank)
basis_fault q (opened g ps) told m =
    or_else (gathering_fault q (length g.points) told) (area_fault (length g.points) g.threshold m)

-- the basis of the numbers that are told, for the code of an open book
abbrev pub basis_of : Numbers → Book → List (Option ℕ) → Basis
basis_of F unopened told = basis F [] [] 0 []
basis_of F (opened g ps) told = basis F g.points g.multipliers g.threshold (numbers told)

abbrev pub radius_of : Book → ℕ
radius_of unopened = 0
radius_of (opened g ps) = g.setting.radius

-- the weights of the basis
pub record Weighs (F : Numbers) (b : Book) (told : List (Option ℕ)) (w : Weights) : Type 0 where
  pub first : w.w1 ≡ w1 (radius_of b) (basis_of F b told)
  pub second : w.w2 ≡ w2 (radius_of b) (basis_of F b told)
