-- Visits that enter what they find into a roll: the items are in order and sound, nothing wanted is lost, and the roll is never full.
use Rattle.std.proofs.Common.{◌≡◌, ℕ, ◌≤◌, Bool, cond, ◌⊎◌, List, [], ◌∷◌, length, Some, None, Option, sym, refl, ap, subst, inl, inr, arith, le-ltb}
use Rattle.rolls.specs.Order.{TotalOrder, Ascending, Has, insert}
use Rattle.rolls.specs.Insertion.{entered}
use Rattle.rolls.proofs.Unique.{insertion_exact}
use Rattle.digits.specs.Walks.{Chain}

module _ {X : Type 0} {less : X → X → Bool} (order : TotalOrder less) (room : ℕ) (Good : X → Type 0)
    (few : (xs : List X) → Ascending less xs → ((z : X) → Has z xs → Good z) → length xs ≤ room) where
  -- the items after a visit that found this
  abbrev pub put : Option X → List X → List X
  put None items = items
  put (Some x) items = entered less x room items

  -- in order, all good, and all that are wanted
  pub record Holds (Wanted : X → Type 0) (items : List X) : Type 0 where
    pub ascending : Ascending less items
    pub sound : (z : X) → Has z items → Good z
    pub complete : (z : X) → Wanted z → Has z items

  pub holds_as : {A B : X → Type 0} {items : List X} → Holds A items → ((z : X) → B z → A z) → Holds B items
  holds_as h f = record { ascending = h.ascending; sound = h.sound; complete = λ z b. h.complete z (f z b) }

  enters : (x : X) (items : List X) → Ascending less items → ((z : X) → Has z items → Good z) → Good x → entered less x room items ≡ insert less x items
  enters x items a s g =
      let exact = insertion_exact order x items a in
      let short : length (insert less x items) ≤ room =
      few (insert less x items) exact.ascending (λ z h. elim (exact.sound z h) [ inl e ↦ subst Good (sym e) g | inr k ↦ s z k ]) in
      ap (λ (b : Bool). cond b items (insert less x items)) (le-ltb room (length (insert less x items)) short)

  holds_put : {A : X → Type 0} (r : Option X) (items : List X) → Holds A items → ((z : X) → r ≡ Some z → Good z) → Holds (λ z. A z ⊎ (r ≡ Some z)) (put r items)
  holds_put None items h g =
      record {
        ascending = h.ascending;
        sound = h.sound;
        complete = λ z w. elim w [ inl a ↦ h.complete z a | inr e ↦ absurd (let n : ◌≡◌ {A = ℕ} 0 1 = cc in omega arith) ];
      }
  holds_put {A} (Some x) items h g =
      let exact = insertion_exact order x items h.ascending in
      subst (Holds (λ z. A z ⊎ (Some x ≡ Some z))) (sym (enters x items h.ascending h.sound (g x refl)))
      (record {
        ascending = exact.ascending;
        sound = λ z k. elim (exact.sound z k) [ inl e ↦ subst Good (sym e) (g x refl) | inr m ↦ h.sound z m ];
        complete = λ z w. elim w [ inl a ↦ exact.complete z (inr (h.complete z a)) | inr e ↦ exact.complete z (inl (let q : z ≡ x = cc in q)) ];
      })

  -- a visit finds r at ds, which is good, and what is wanted there
  module _ {S : Type 0} (items : S → List X) (visits : S → List ℕ → S → Type 0) (WantedAt : List ℕ → X → Type 0) where
    pub record Finds (s : S) (ds : List ℕ) (s' : S) : Type 0 where
      pub found : Option X
      pub good : (z : X) → found ≡ Some z → Good z
      pub wanted : (z : X) → WantedAt ds z → found ≡ Some z
      pub after : items s' ≡ put found (items s)

    -- visits one after another, where something holds all along
    pub chain_holds : (I : S → Type 0) (leaves : List (List ℕ)) {A : X → Type 0} (s s' : S) → ((s : S) (ds : List ℕ) (s' : S) → I s → visits s ds s' → I s' × Finds s ds s') → Chain visits s leaves s' → I s → Holds A (items s) → I s' × Holds (λ z. A z ⊎ ((ds : List ℕ) × Has ds leaves × WantedAt ds z)) (items s')
    chain_holds I [] {A} s s' f c i h = (
      subst I c i,
      subst (λ (m : S). Holds (λ z. A z ⊎ ((ds : List ℕ) × Has ds [] × WantedAt ds z)) (items m)) c
          (holds_as h (λ z w. elim w [ inl a ↦ a | inr k ↦ elim k.1 [ ] ])),
    )
    chain_holds I (d ∷ ds) {A} s s' f (m, v, c) i h =
        let y = f s d m i v in
        let x = y.1 in
        let next : Holds (λ z. A z ⊎ (x.found ≡ Some z)) (items m) =
        subst (Holds (λ z. A z ⊎ (x.found ≡ Some z))) (sym x.after) (holds_put x.found (items s) h x.good) in
        let rest = chain_holds I ds m s' f c y.0 next in (
          rest.0,
          holds_as rest.1
              (λ z w. elim w [
                | inl a ↦ inl (inl a)
                | inr k ↦ elim k.1 [
                  | inl e ↦ inl (inr (x.wanted z (subst (λ (l : List ℕ). WantedAt l z) e k.2)))
                  | inr j ↦ inr (k.0, j, k.2)
                ]
              ]),
        )
