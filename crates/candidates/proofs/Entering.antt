-- Lists of candidates, as one after another is entered: how long an insertion makes a list, an insertion for which there is room, and what a list
-- has after the answer of one pair more.
use Rattle.std.proofs.Common.{◌≡◌, ℕ, zero, suc, ◌+◌, ◌-◌, ◌<◌, ◌≤◌, Bool, true, false, cond, eqb, ltb, ◌⊎◌, List, [], ◌∷◌, ◌++◌, length, get_or, take, replicate, Ok, Err, Result, sym, refl, ap, ◌∙◌, subst, inl, inr, ⊎_elim, arith, length-append, lt-ltb}
use Rattle.std.proofs.lemmas.List.{take_at, length-take-le}
use Rattle.rolls.specs.declared.slots.RollFault.{RollFault}
use Rattle.rolls.specs.declared.slots.RollFault.TheVariants.{Full}
use Rattle.rolls.specs.Order.{TotalOrder, Ascending, Has, Lists, insert}
use Rattle.rolls.specs.Insertion.{Inserted, answer, entered, over, cleared}
use Rattle.rolls.proofs.Accepted.{accepted, fits_after, length_after}
use Rattle.rolls.proofs.Unique.{insertion_exact}

-- an insertion for which there is room is not refused
abbrev Answer : Type 0
Answer = Result Bool RollFault

room_answer : (e : Bool) (n room : ℕ) → n < room → ◌≡◌ {A = Answer} (cond e (Ok false) (cond (ltb n room) (Ok true) (Err Full))) (Ok (cond e false true))
room_answer true n room h = refl
room_answer false n room h = ap (λ (t : Bool). cond t (Ok true) (Err Full)) (lt-ltb n room h)

module _ {X : Type 0} (less : X → X → Bool) (x : X) where
  pub with_room : (slots : List X) (n : ℕ) (r : Result Bool RollFault) (slots' : List X) (n' : ℕ) → n < length slots
      → Inserted less x slots n r slots' n' → take n' slots' ≡ insert less x (take n slots)
  with_room slots n r slots' n' h told =
      accepted less x slots n r slots' n' (omega arith) told
      (cond (eqb (length (insert less x (take n slots))) (length (take n slots))) false true)
      (told.answers
      ∙ room_answer (eqb (length (insert less x (take n slots))) (length (take n slots))) (length (take n slots)) (length slots)
      (let l = length-take-le n slots (omega arith) in omega arith))

  -- a list grows by one item at most
  pub insert_length : (ys : List X) → length (insert less x ys) ≤ suc (length ys)
  insert_length ys =
      let slots = ys ++ x ∷ [] in
      let n = length ys in
      let items : List X = entered less x (length slots) (take n slots) in
      let told : Inserted less x slots n (answer less x (length slots) (take n slots)) (over items slots) (length items) =
      record { answers = refl; holds = refl; counts = refl } in
      let l = length-append ys (x ∷ []) in
      let same : take n slots ≡ ys = take_at ys (x ∷ []) n refl in
      let inside = fits_after less x slots n (answer less x (length slots) (take n slots)) (over items slots) (length items) (omega arith) told in
      let long = length_after less x slots n (answer less x (length slots) (take n slots)) (over items slots) (length items) (omega arith) told in
      let got = with_room slots n (answer less x (length slots) (take n slots)) (over items slots) (length items) (omega arith) told in
      let most = length-take-le (length items) (over items slots) inside in
      omega (arith, ap length got, ap (λ (zs : List X). length (insert less x zs)) same)

  -- and so does the count of items
  pub count_after : (slots : List X) (n : ℕ) (r : Result Bool RollFault) (slots' : List X) (n' : ℕ) → n < length slots
      → Inserted less x slots n r slots' n' → n' ≤ n + 1
  count_after slots n r slots' n' h told =
      let got = with_room slots n r slots' n' h told in
      let inside = fits_after less x slots n r slots' n' (omega arith) told in
      let items = length-take-le n' slots' inside in
      let before = length-take-le n slots (omega arith) in
      let most = insert_length (take n slots) in
      omega (arith, ap length got)

-- the slots of a roll that was closed: the items as they were, and blanks beyond them
module _ {X : Type 0} (blank : X) (n : ℕ) (slots ys : List X) (h : n ≤ length slots) (e : ys ≡ cleared blank n slots) where
  pub closed_items : take n ys ≡ take n slots
  closed_items = ap (take n) e ∙ take_at (take n slots) (replicate (length slots - n) blank) n (length-take-le n slots h)

  pub closed_beyond : ys ≡ take n ys ++ replicate (length slots - n) blank
  closed_beyond = e ∙ ap (λ (xs : List X). xs ++ replicate (length slots - n) blank) (sym closed_items)

module _ {X : Type 0} {less : X → X → Bool} where
  -- the items and the one with the property P
  pub one_more : TotalOrder less → (P : X → Type 0) (x : X) (items : List X) → Ascending less items → P x → ((z : X) → P z → z ≡ x)
      → Lists less (λ z. Has z items ⊎ P z) (insert less x items)
  one_more o P x items a p only =
      let l = insertion_exact o x items a in
      record {
        ascending = l.ascending;
        sound = λ z h. ⊎_elim (λ (e : z ≡ x). inr (subst P (sym e) p)) (λ (k : Has z items). inl k) (l.sound z h);
        complete = λ z k. l.complete z (⊎_elim (λ (h : Has z items). inr h) (λ (q : P z). inl (only z q)) k);
      }

  -- the items, where none has the property P
  pub none_more : (P : X → Type 0) (items : List X) → Ascending less items → ((z : X) → P z → ⊥) → Lists less (λ z. Has z items ⊎ P z) items
  none_more P items a none =
      record {
        ascending = a;
        sound = λ z h. inl h;
        complete = λ z k. ⊎_elim (λ (h : Has z items). h) (λ (q : P z). absurd (none z q)) k;
      }

  -- a list of what has the property P, where P is said in another way
  pub restate : {P Q : X → Type 0} {items : List X} → Lists less P items → ((z : X) → P z → Q z) → ((z : X) → Q z → P z) → Lists less Q items
  restate l f g =
      record { ascending = l.ascending; sound = λ z h. f z (l.sound z h); complete = λ z q. l.complete z (g z q) }

module _ {X : Type 0} where
  pub has_first : (z : X) (xs ys : List X) → Has z xs → Has z (xs ++ ys)
  has_first z [] ys h = elim h [ ]
  has_first z (x ∷ xs) ys (inl e) = inl e
  has_first z (x ∷ xs) ys (inr h) = inr (has_first z xs ys h)

  pub has_last : (z : X) (xs : List X) → Has z (xs ++ z ∷ [])
  has_last z [] = inl refl
  has_last z (x ∷ xs) = inr (has_last z xs)

  pub has_cases : (z y : X) (xs : List X) → Has z (xs ++ y ∷ []) → Has z xs ⊎ (z ≡ y)
  has_cases z y [] (inl e) = inr e
  has_cases z y [] (inr h) = elim h [ ]
  has_cases z y (x ∷ xs) (inl e) = inl (inl e)
  has_cases z y (x ∷ xs) (inr h) = elim (has_cases z y xs h) [ inl k ↦ inl (inr k) | inr e ↦ inr e ]

  -- what stands at an index is an item
  pub has_at : (xs : List X) (i : ℕ) (d : X) → i < length xs → Has (get_or xs i d) xs
  has_at [] i d h = absurd (omega arith)
  has_at (x ∷ xs) zero d h = inl refl
  has_at (x ∷ xs) (suc i) d h = inr (has_at xs i d (omega arith))
