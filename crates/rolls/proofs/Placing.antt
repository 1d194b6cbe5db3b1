-- Where an item goes, and what an insertion there leaves.
use Rattle.std.proofs.Common.{◌≡◌, ℕ, suc, ◌+◌, ◌-◌, ◌<◌, ◌≤◌, Bool, true, false, cond, eqb, ltb, List, [], ◌∷◌, ◌++◌, length, get_or, take, drop, set, Ok, Err, Result, sym, refl, ap, ◌∙◌, subst, not-suc-le-zero, arith, length-drop, length-take, le-ltb, lt-ltb, eq-eqb, ne_eqb}
use borrow.Rule.Slice.PartMut.{put_mid, post_of, Post-is}
use Rattle.std.proofs.lemmas.List.{get_or_default, get_or-take, take-take, drop-take, length-append, length-take-le, take-append-drop, append_assoc}
use Rattle.std.specs.List.{prefix_len}
use Rattle.rolls.specs.declared.slots.RollFault.{RollFault}
use Rattle.rolls.specs.declared.slots.RollFault.TheVariants.{Full}
use Rattle.rolls.specs.Order.{insert}
use Rattle.rolls.specs.Insertion.{entered, over, Inserted}

module _ {X : Type 0} (less : X → X → Bool) (x : X) where
  -- the items before x, from the first on
  abbrev below : List X → ℕ
  below ys = prefix_len (λ y. less y x) ys

  next : (n : ℕ) → 1 + n ≡ suc n
  next n = omega arith

  -- x stands in the list already
  pub known : (ys : List X) (d : X) → below ys < length ys → less x (get_or ys (below ys) d) ≡ false → insert less x ys ≡ ys
  known [] d h e = absurd (not-suc-le-zero h)
  known (y ∷ ys) d h e =
      (elim (less y x)
      as (λ b. cond b (1 + below ys) 0 < suc (length ys) → less x (get_or (y ∷ ys) (cond b (1 + below ys) 0) d) ≡ false → cond b (y ∷ insert less x ys) (cond (less x y) (x ∷ y ∷ ys) (y ∷ ys)) ≡ y ∷ ys) [
        | true ↦ λ k f. ap (λ (l : List X). y ∷ l) (known ys d (let q : below ys < length ys = omega arith in q) (subst (λ (m : ℕ). less x (get_or (y ∷ ys) m d) ≡ false) (next (below ys)) f))
        | false ↦ λ k f. ap (λ (b : Bool). cond b (x ∷ y ∷ ys) (y ∷ ys)) f
      ])
      h e

  -- x is new, and stands where the items under it end
  pub new : (ys : List X) (d : X) → (below ys < length ys → less x (get_or ys (below ys) d) ≡ true) → insert less x ys ≡ take (below ys) ys ++ x ∷ drop (below ys) ys
  new [] d e = refl
  new (y ∷ ys) d e =
      (elim (less y x)
      as (λ b. (cond b (1 + below ys) 0 < suc (length ys) → less x (get_or (y ∷ ys) (cond b (1 + below ys) 0) d) ≡ true) → cond b (y ∷ insert less x ys) (cond (less x y) (x ∷ y ∷ ys) (y ∷ ys)) ≡ take (cond b (1 + below ys) 0) (y ∷ ys) ++ x ∷ drop (cond b (1 + below ys) 0) (y ∷ ys)) [
        | true ↦ λ f.
            subst (λ (m : ℕ). y ∷ insert less x ys ≡ take m (y ∷ ys) ++ x ∷ drop m (y ∷ ys)) (sym (next (below ys)))
            (ap (λ (l : List X). y ∷ l) (new ys d (λ k. subst (λ (m : ℕ). less x (get_or (y ∷ ys) m d) ≡ true) (next (below ys)) (f (omega arith)))))
        | false ↦ λ f. ap (λ (b : Bool). cond b (x ∷ y ∷ ys) (y ∷ ys)) (f (omega arith))
      ])
      e

  front : (a b : List X) → length a ≡ 1 → set (a ++ b) 0 x ≡ x ∷ b
  front [] b p = absurd (omega arith)
  front (y ∷ []) b p = refl
  front (y ∷ z ∷ zs) b p = absurd (omega arith)

  pub opened : (row turned : List X) → turned ≡ drop (length row - 1) row ++ take (length row - 1) row → 0 < length row → set turned 0 x ≡ x ∷ take (length row - 1) row
  opened row turned e h =
      let one : length (drop (length row - 1) row) ≡ 1 = simp length-drop (omega arith) in
      ap (λ (l : List X). set l 0 x) e ∙ front (drop (length row - 1) row) (take (length row - 1) row) one

  abbrev answered : ℕ → ℕ → ℕ → Result Bool RollFault
  answered p n room = cond (eqb p n) (Ok false) (cond (ltb n room) (Ok true) (Err Full))

  answered_known : (p n room : ℕ) → p ≡ n → Ok false ≡ answered p n room
  answered_known p n room e = sym (ap (λ (b : Bool). cond b (Ok false) (cond (ltb n room) (Ok true) (Err Full))) (eq-eqb p n e))

  answered_new : (p n room : ℕ) → p ≡ n + 1 → n < room → Ok true ≡ answered p n room
  answered_new p n room e h =
      sym (ap (λ (b : Bool). cond b (Ok false) (cond (ltb n room) (Ok true) (Err Full))) (ne_eqb p n (λ q. omega arith)) ∙ ap (λ (b : Bool). cond b (Ok true) (Err Full)) (lt-ltb n room h))

  answered_full : (p n room : ℕ) → p ≡ n + 1 → n ≡ room → Err Full ≡ answered p n room
  answered_full p n room e h =
      sym (ap (λ (b : Bool). cond b (Ok false) (cond (ltb n room) (Ok true) (Err Full))) (ne_eqb p n (λ q. omega arith)) ∙ ap (λ (b : Bool). cond b (Ok true) (Err Full)) (le-ltb n room (omega arith)))

  insert_length : (ys : List X) (i : ℕ) → i ≤ length ys → insert less x ys ≡ take i ys ++ x ∷ drop i ys → length (insert less x ys) ≡ length ys + 1
  insert_length ys i h e =
      let n = ap length e in
      let m : length (take i ys ++ x ∷ drop i ys) ≡ length ys + 1 = simp (length-append, length-take, length-drop) (omega arith) in
      n ∙ m

  module _ (slots : List X) (n i : ℕ) (d : X) (fits : n ≤ length slots) (found : i ≡ below (take n slots)) where
    items_length : length (take n slots) ≡ n
    items_length = length-take-le n slots fits

    kept : over (take n slots) slots ≡ slots
    kept = ap (λ (m : ℕ). take n slots ++ drop m slots) items_length ∙ take-append-drop n slots

    entered_fits : length (insert less x (take n slots)) ≤ length slots → entered less x (length slots) (take n slots) ≡ insert less x (take n slots)
    entered_fits h = ap (λ (b : Bool). cond b (take n slots) (insert less x (take n slots))) (le-ltb (length slots) (length (insert less x (take n slots))) h)

    entered_full : length slots < length (insert less x (take n slots)) → entered less x (length slots) (take n slots) ≡ take n slots
    entered_full h = ap (λ (b : Bool). cond b (take n slots) (insert less x (take n slots))) (lt-ltb (length slots) (length (insert less x (take n slots))) h)

    pub told_known : i < n → less x (get_or slots i d) ≡ false → Inserted less x slots n (Ok false) slots n
    told_known h e =
        let same : insert less x (take n slots) ≡ take n slots =
        known (take n slots) d (omega (arith, items_length))
        (subst (λ (k : ℕ). less x (get_or (take n slots) k d) ≡ false) found (ap (less x) (get_or-take n slots i d h) ∙ e)) in
        let after : entered less x (length slots) (take n slots) ≡ take n slots = entered_fits (omega (arith, ap length same, items_length)) ∙ same in
        record {
          answers = answered_known (length (insert less x (take n slots))) (length (take n slots)) (length slots) (ap length same);
          holds = sym (ap (λ (l : List X). over l slots) after ∙ kept);
          counts = sym (ap length after ∙ items_length);
        }

    split : (i < n → less x (get_or slots i d) ≡ true) → insert less x (take n slots) ≡ take i (take n slots) ++ x ∷ drop i (take n slots)
    split e =
        let at = new (take n slots) d (λ k. subst (λ (j : ℕ). less x (get_or (take n slots) j d) ≡ true) found (let h : i < n = omega (arith, items_length) in ap (less x) (get_or-take n slots i d h) ∙ e h)) in
        subst (λ (j : ℕ). insert less x (take n slots) ≡ take j (take n slots) ++ x ∷ drop j (take n slots)) (sym found) at

    pub told_full : i ≤ n → (i < n → less x (get_or slots i d) ≡ true) → n ≡ length slots → Inserted less x slots n (Err Full) slots n
    told_full h e full =
        let long = insert_length (take n slots) i (omega (arith, items_length)) (split e) in
        let after : entered less x (length slots) (take n slots) ≡ take n slots = entered_full (omega (arith, items_length)) in
        record {
          answers = answered_full (length (insert less x (take n slots))) (length (take n slots)) (length slots) long (omega (arith, items_length));
          holds = sym (ap (λ (l : List X). over l slots) after ∙ kept);
          counts = sym (ap length after ∙ items_length);
        }

    pub told_new : (row slots' : List X) → i ≤ n → (i < n → less x (get_or slots i d) ≡ true) → n < length slots → row ≡ x ∷ take (length (take (n + 1 - i) (drop i slots)) - 1) (take (n + 1 - i) (drop i slots)) → slots' ≡ put_mid i (n + 1 - i) slots row → Inserted less x slots n (Ok true) slots' (n + 1)
    told_new row slots' h e room er es =
        let long = insert_length (take n slots) i (omega (arith, items_length)) (split e) in
        let wide : length (take (n + 1 - i) (drop i slots)) ≡ n + 1 - i = simp (length-take, length-drop) (omega arith) in
        let inner : take (length (take (n + 1 - i) (drop i slots)) - 1) (take (n + 1 - i) (drop i slots)) ≡ drop i (take n slots) =
        ap (λ (m : ℕ). take m (take (n + 1 - i) (drop i slots))) (let q : length (take (n + 1 - i) (drop i slots)) - 1 ≡ n - i = omega arith in q)
        ∙ take-take (n - i) (n + 1 - i) (drop i slots) (omega arith)
        ∙ sym (drop-take i (n - i) slots)
        ∙ ap (λ (m : ℕ). drop i (take m slots)) (let q : i + (n - i) ≡ n = omega arith in q) in
        let cut : row ≡ x ∷ drop i (take n slots) = er ∙ ap (λ (l : List X). x ∷ l) inner in
        let front : take i slots ++ row ≡ insert less x (take n slots) =
        ap (λ (l : List X). l ++ row) (sym (take-take i n slots h))
        ∙ ap (λ (l : List X). take i (take n slots) ++ l) cut
        ∙ sym (split e) in
        let after : entered less x (length slots) (take n slots) ≡ insert less x (take n slots) = entered_fits (omega (arith, items_length)) in
        let count : length (insert less x (take n slots)) ≡ n + 1 = omega (arith, items_length) in
        let whole : slots' ≡ over (insert less x (take n slots)) slots =
        es
        ∙ sym (append_assoc (take i slots) row (post_of i (n + 1 - i) slots))
        ∙ ap (λ (l : List X). l ++ post_of i (n + 1 - i) slots) front
        ∙ ap (λ (l : List X). insert less x (take n slots) ++ l) (Post-is i (n + 1) slots (omega arith))
        ∙ ap (λ (m : ℕ). insert less x (take n slots) ++ drop m slots) (sym count) in
        record {
          answers = answered_new (length (insert less x (take n slots))) (length (take n slots)) (length slots) long (omega (arith, items_length));
          holds = whole ∙ ap (λ (l : List X). over l slots) (sym after);
          counts = sym (ap length after ∙ count);
        }

  pub exact : (slots : List X) (n i : ℕ) → i ≡ below (take (n - 0) slots) → i ≡ below (take n slots)
  exact slots n i e = e ∙ ap (λ (m : ℕ). below (take m slots)) (let q : n - 0 ≡ n = omega arith in q)

  pub within : (slots : List X) (n i : ℕ) → i ≤ length (take (n - 0) slots) → i ≤ n
  within slots n i h = omega (arith, length-take (n - 0) slots)

  pub by_default : (slots : List X) (i : ℕ) (d : X) (b : Bool) → i < length slots → b ≡ less x (get_or slots i d) → less x (get_or slots i x) ≡ b
  by_default slots i d b h e = ap (less x) (get_or_default slots i x d h) ∙ sym e

-- the same told of another name of the order
pub retold : {X : Type 0} {less less' : X → X → Bool} {x : X} {slots slots' : List X} {n n' : ℕ} {r : Result Bool RollFault} → ◌≡◌ {A = X → X → Bool} less less' → Inserted less x slots n r slots' n' → Inserted less' x slots n r slots' n'
retold {x = x} {slots = slots} {slots' = slots'} {n = n} {n' = n'} {r = r} e told = subst (λ l. Inserted l x slots n r slots' n') e told
