-- What a caller of an insertion wants next: the items are the first of the slots again, and an accepted insertion is `insert`.
use Rattle.std.proofs.Common.{◌≡◌, ℕ, suc, ◌<◌, ◌≤◌, Bool, true, false, cond, ltb, List, [], ◌∷◌, length, take, drop, Ok, Err, Result, sym, ap, ◌∙◌, ⊎_elim, arith, length-append, length-drop, le-ltb, lt-ltb, ne_eqb}
use Rattle.std.proofs.lemmas.List.{take_at, length-take-le}
use Rattle.std.proofs.lemmas.Bool.{cases_lt}
use Rattle.rolls.specs.declared.slots.RollFault.{RollFault}
use Rattle.rolls.specs.declared.slots.RollFault.TheVariants.{Full}
use Rattle.rolls.specs.Order.{insert}
use Rattle.rolls.specs.Insertion.{answer, entered, Inserted}

module _ {X : Type 0} (less : X → X → Bool) (x : X) where
  insert_bound : (ys : List X) → length (insert less x ys) ≤ suc (length ys)
  insert_bound [] = omega arith
  insert_bound (y ∷ ys) =
      let h = insert_bound ys in
      elim (less y x) as (λ b. length (cond b (y ∷ insert less x ys) (cond (less x y) (x ∷ y ∷ ys) (y ∷ ys))) ≤ suc (suc (length ys))) [
        | true ↦ omega arith
        | false ↦ elim (less x y) as (λ b. length (cond b (x ∷ y ∷ ys) (y ∷ ys)) ≤ suc (suc (length ys))) [ true ↦ omega arith | false ↦ omega arith ]
      ]

  entered_bound : (room : ℕ) (items : List X) → length items ≤ room → length (entered less x room items) ≤ room
  entered_bound room items h =
      ⊎_elim
      (λ (k : room < length (insert less x items)). simp (lt-ltb room (length (insert less x items)) k) h)
      (λ (k : length (insert less x items) ≤ room). simp (le-ltb room (length (insert less x items)) k) k)
      (cases_lt room (length (insert less x items)))

  module _ (slots : List X) (n : ℕ) (r : Result Bool RollFault) (slots' : List X) (n' : ℕ) (fits : n ≤ length slots) (told : Inserted less x slots n r slots' n') where
    pub items_after : take n' slots' ≡ entered less x (length slots) (take n slots)
    items_after =
        ap (take n') told.holds
        ∙ take_at (entered less x (length slots) (take n slots)) (drop (length (entered less x (length slots) (take n slots))) slots) n' (sym told.counts)

    pub length_after : length slots' ≡ length slots
    length_after =
        let items = length-take-le n slots fits in
        let b = entered_bound (length slots) (take n slots) (omega arith) in
        let a = length-append (entered less x (length slots) (take n slots)) (drop (length (entered less x (length slots) (take n slots))) slots) in
        let d = length-drop (length (entered less x (length slots) (take n slots))) slots in
        omega (arith, ap length told.holds)

    pub fits_after : n' ≤ length slots'
    fits_after =
        let items = length-take-le n slots fits in
        omega (arith, entered_bound (length slots) (take n slots) (omega arith), told.counts, length_after)

    -- an insertion that is not refused puts x in its place
    pub accepted : (b : Bool) → r ≡ Ok b → take n' slots' ≡ insert less x (take n slots)
    accepted b e =
        let items = length-take-le n slots fits in
        let p = length (insert less x (take n slots)) in
        items_after
        ∙ ⊎_elim
        (λ (k : length slots < p).
        let bound = insert_bound (take n slots) in
        let full : answer less x (length slots) (take n slots) ≡ Err Full =
        ap (λ (t : Bool). cond t (Ok false) (cond (ltb (length (take n slots)) (length slots)) (Ok true) (Err Full))) (ne_eqb p (length (take n slots)) (λ q. omega arith))
        ∙ ap (λ (t : Bool). cond t (Ok true) (Err Full)) (le-ltb (length (take n slots)) (length slots) (omega arith)) in
        let was = told.answers in
        let z : ◌≡◌ {A = ℕ} 0 1 = cc in
        absurd (omega (arith, z)))
        (λ (k : p ≤ length slots). ap (λ (t : Bool). cond t (take n slots) (insert less x (take n slots))) (le-ltb (length slots) p k))
        (cases_lt (length slots) p)
