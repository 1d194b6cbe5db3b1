-- Ordered lists without repeats, in this order: total orders, and what compares by one, ascending lists and their members, the list of all
-- items with a property, the list with one more item, and the two orders that records are built from.
use Rattle.std.specs.Prelude.{◌≡◌, ℕ, Bool, true, false, cond, ◌⊎◌, List, [], ◌∷◌, nat_lt}
use Rattle.std.specs.declared.cmp.Ordering.{Ordering}
use Rattle.std.specs.Ordering.{is_lt}

-- `less` is a strict total order
pub record TotalOrder {X : Type 0} (less : X → X → Bool) : Type 0 where
  pub irreflexive : (x : X) → less x x ≡ false
  pub transitive : (x y z : X) → less x y ≡ true → less y z ≡ true → less x z ≡ true
  pub total : (x y : X) → less x y ≡ false → less y x ≡ false → x ≡ y

-- `less` is a strict total order, and is what a type's `cmp` calls less
pub record Compares {X : Type 0} (cmp : X → X → Ordering) (less : X → X → Bool) : Type 0 where
  pub same : (x y : X) → is_lt (cmp x y) ≡ less x y
  pub order : TotalOrder less

-- x is less than each item
abbrev pub Leads : {X : Type 0} → (X → X → Bool) → X → List X → Type 0
Leads less x [] = Unit {0}
Leads less x (y ∷ ys) = (less x y ≡ true) × Leads less x ys

-- each item is less than all that follow it; so none is there twice
abbrev pub Ascending : {X : Type 0} → (X → X → Bool) → List X → Type 0
Ascending less [] = Unit {0}
Ascending less (x ∷ xs) = Leads less x xs × Ascending less xs

-- z is one of the items
abbrev pub Has : {X : Type 0} → X → List X → Type 0
Has z [] = ⊥
Has z (y ∷ ys) = (z ≡ y) ⊎ Has z ys

-- the items with the property P, all of them, in order and each once
pub record Lists {X : Type 0} (less : X → X → Bool) (P : X → Type 0) (items : List X) : Type 0 where
  pub ascending : Ascending less items
  pub sound : (z : X) → Has z items → P z
  pub complete : (z : X) → P z → Has z items

-- the ascending list with x in its place; as it was where x is there already
abbrev pub insert : {X : Type 0} → (X → X → Bool) → X → List X → List X
insert less x [] = x ∷ []
insert less x (y ∷ ys) = cond (less y x) (y ∷ insert less x ys) (cond (less x y) (x ∷ y ∷ ys) (y ∷ ys))

-- an insertion into an ascending list gives an ascending list whose items are x and the items before
abbrev pub InsertionExact : {X : Type 0} → (X → X → Bool) → Type 0
InsertionExact {X} less =
    (x : X) (ys : List X) → Ascending less ys → Lists less (λ z. (z ≡ x) ⊎ Has z ys) (insert less x ys)

-- two ascending lists with the same items are one list
abbrev pub OrderUnique : {X : Type 0} → (X → X → Bool) → Type 0
OrderUnique {X} less =
    (xs ys : List X) → Ascending less xs → Ascending less ys → ((z : X) → Has z xs → Has z ys) → ((z : X) → Has z ys → Has z xs) → xs ≡ ys

-- by a first order, and where neither comes first there by a second
abbrev pub before : Bool → Bool → Bool → Bool
before ahead behind next = cond ahead true (cond behind false next)

-- dictionary order of lists of numbers; a list comes before those that go on from it
abbrev pub dictionary : List ℕ → List ℕ → Bool
dictionary [] [] = false
dictionary [] (y ∷ ys) = true
dictionary (x ∷ xs) [] = false
dictionary (x ∷ xs) (y ∷ ys) = before (nat_lt x y) (nat_lt y x) (dictionary xs ys)
