-- What an insertion into a roll does: its answer, the items after it, and the slots. The items are the first of the slots.
use Rattle.std.specs.Prelude.{◌≡◌, ℕ, ◌+◌, ◌-◌, Bool, true, false, cond, List, ◌++◌, length, take, drop, replicate, Ok, Err, Result, ◌==◌, nat_lt}
use Rattle.rolls.specs.declared.slots.RollFault.{RollFault}
use Rattle.rolls.specs.declared.slots.RollFault.TheVariants.{Full}
use Rattle.rolls.specs.Order.{insert}

-- whether x is new, or that a new x finds no room; a full roll that has x says so
abbrev pub answer : {X : Type 0} → (X → X → Bool) → X → ℕ → List X → Result Bool RollFault
answer less x room items =
    cond (length (insert less x items) == length items) (Ok false) (cond (nat_lt (length items) room) (Ok true) (Err Full))

-- the items with x among them, or as they were where that does not fit
abbrev pub entered : {X : Type 0} → (X → X → Bool) → X → ℕ → List X → List X
entered less x room items = cond (nat_lt room (length (insert less x items))) items (insert less x items)

-- the slots with these items at their start, and beyond them what stood there
abbrev pub over : {X : Type 0} → List X → List X → List X
over items slots = items ++ drop (length items) slots

-- an insertion of x where the first n slots are the items
pub record Inserted {X : Type 0} (less : X → X → Bool) (x : X) (slots : List X) (n : ℕ) (r : Result Bool RollFault) (slots' : List X) (n' : ℕ) : Type 0 where
  pub answers : r ≡ answer less x (length slots) (take n slots)
  pub holds : slots' ≡ over (entered less x (length slots) (take n slots)) slots
  pub counts : n' ≡ length (entered less x (length slots) (take n slots))

-- the count of items after an insertion's answer
abbrev pub grown : ℕ → Result Bool RollFault → ℕ
grown n (Ok true) = n + 1
grown n (Ok false) = n
grown n (Err e) = n

-- the items of the slots, and blanks beyond them
abbrev pub cleared : {X : Type 0} → X → ℕ → List X → List X
cleared blank n slots = take n slots ++ replicate (length slots - n) blank
