-- The rolls of the two walks: after the first it has every root with f₁ (0) not zero, and after the second every root, and nothing else.
use Rattle.std.proofs.Common.{◌≡◌, ℕ, suc, ◌+◌, ◌-◌, ◌*◌, ◌≤◌, false, ◌⊎◌, List, ◌++◌, length, take, replicate, Some, None, Option, sym, refl, ap, ◌∙◌, subst, ap₂, inl, inr, arith, length-append, length-take}
use lib.ListN.{length-replicate}
use Rattle.std.proofs.lemmas.List.{take_at, length-take-le}
use Rattle.fields.specs.Numbers.{Numbers, AllBelow, Element}
use Rattle.rolls.specs.Order.{Ascending, Has, Lists}
use Rattle.rolls.specs.Insertion.{entered, cleared}
use Rattle.rolls.proofs.Accepted.{items_after, length_after}
use Rattle.digits.specs.Runs.{runs}
use Rattle.digits.specs.Walks.{Walked}
use Rattle.digits.proofs.Arrays.{runs_below}
use Rattle.leaves.specs.declared.pairs.Pair.{Pair}
use Rattle.leaves.specs.declared.pairs.Chart.{Chart}
use Rattle.leaves.specs.declared.pairs.Chart.TheVariants.{Direct, Turned}
use Rattle.leaves.specs.Order.{in_order}
use Rattle.leaves.specs.Reached.{Reached}
use Rattle.roots.specs.Asked.{Asked, all_zero}
use Rattle.roots.specs.Answer.{IsRoot, blank, Listed}
use Rattle.roots.specs.Desk.{Desk, Stays, Entered, Visit, Walks}
use Rattle.leaves.specs.Ordering.{pair_order}
use Rattle.roots.proofs.Few.{few_roots}
use Rattle.roots.proofs.Collected.{put, Holds, Finds, chain_holds}
use Rattle.roots.proofs.Charts.{Wanted₁, Wanted₂, wanted_first, wanted_second, either_chart}
use Rattle.roots.proofs.Reaching.{good_direct, wanted_direct, good_turned, wanted_turned}

abbrev items : Desk → List Pair
items d = take d.len d.slots

reached_as : (F : Numbers) {ch ch' : Chart} {ℓ ℓ' w₁ w₁' w₂ w₂' : ℕ} {Q Q' : ℕ → ℕ → Element F} (ds : List ℕ) (r : Option Pair) → ch ≡ ch' → ℓ ≡ ℓ' → w₁ ≡ w₁' → w₂ ≡ w₂' → Q ≡ Q' → Reached F ch ℓ w₁ w₂ Q ds r → Reached F ch' ℓ' w₁' w₂' Q' ds r
reached_as F {ch} {ch'} {ℓ} {ℓ'} {w₁} {w₁'} {w₂} {w₂'} {Q} {Q'} ds r a b c d e x =
    subst (λ (z : Chart). Reached F z ℓ' w₁' w₂' Q' ds r) a
    (subst (λ (z : ℕ). Reached F ch z w₁' w₂' Q' ds r) b
    (subst (λ (z : ℕ). Reached F ch ℓ z w₂' Q' ds r) c
    (subst (λ (z : ℕ). Reached F ch ℓ w₁ z Q' ds r) d (subst (λ (z : ℕ → ℕ → Element F). Reached F ch ℓ w₁ w₂ z ds r) e x))))

module _ (F : Numbers) (a : Asked) (room : ℕ) (long : length a.form ≡ (a.ℓ + 1) * a.c) (all : AllBelow F.q a.form) (some : all_zero a.form ≡ false) (enough : a.ℓ ≤ room) where
  few : (xs : List Pair) → Ascending in_order xs → ((z : Pair) → Has z xs → IsRoot F a z) → length xs ≤ room
  few xs asc good = let h = few_roots F a long all some xs asc good in omega arith

  abbrev Held : (Pair → Type 0) → List Pair → Type 0
  Held W xs = Holds pair_order room (IsRoot F a) few W xs

  -- what stays along a walk
  abbrev Inv : Desk → Desk → Type 0
  Inv d₀ d = Stays d₀ d × (d.len ≤ length d.slots) × (length d.slots ≡ room)

  entered_items : (found : Option Pair) (slots slots' : List Pair) (n n' : ℕ) → n ≤ length slots → length slots ≡ room → Entered found slots n slots' n' → (take n' slots' ≡ put pair_order room (IsRoot F a) few found (take n slots)) × (length slots' ≡ room)
  entered_items None slots slots' n n' fits l e = (ap₂ (λ (m : ℕ) (s : List Pair). take m s) e.1 e.0, ap length e.0 ∙ l)
  entered_items (Some p) slots slots' n n' fits l e = (
    items_after in_order p slots n e.0 slots' n' fits e.1 ∙ ap (λ (m : ℕ). entered in_order p m (take n slots)) l,
    length_after in_order p slots n e.0 slots' n' fits e.1 ∙ l,
  )

  module _ (d₀ : Desk) (WantedAt : List ℕ → Pair → Type 0)
      (good : (ds : List ℕ) (r : Option Pair) → Reached F d₀.chart d₀.degree d₀.w₁ d₀.w₂ (runs F d₀.width d₀.form) ds r → (z : Pair) → r ≡ Some z → IsRoot F a z)
      (wanted : (ds : List ℕ) (r : Option Pair) → Reached F d₀.chart d₀.degree d₀.w₁ d₀.w₂ (runs F d₀.width d₀.form) ds r → (z : Pair) → WantedAt ds z → r ≡ Some z) where
    finds : (d : Desk) (ds : List ℕ) (d' : Desk) → Inv d₀ d → Visit F d ds d' → Inv d₀ d' × Finds pair_order room (IsRoot F a) few items (Visit F) WantedAt d ds d'
    finds d ds d' i v =
        let s = i.0 in
        let t = v.stays in
        let x : Reached F d₀.chart d₀.degree d₀.w₁ d₀.w₂ (runs F d₀.width d₀.form) ds v.found =
        reached_as F ds v.found s.0 s.3 s.4 s.5 (ap₂ (runs F) s.2 s.1) v.reached in
        let e = entered_items v.found d.slots d'.slots d.len d'.len i.1 i.2 v.entered in (
          ((t.0 ∙ s.0, t.1 ∙ s.1, t.2 ∙ s.2, t.3 ∙ s.3, t.4 ∙ s.4, t.5 ∙ s.5, t.6 ∙ s.6), v.fits, e.1),
          record { found = v.found; good = good ds v.found x; wanted = wanted ds v.found x; after = e.0 },
        )

    walk_holds : {P : List ℕ → Type 0} {A : Pair → Type 0} (d' : Desk) (w : Walked (Visit F) P d₀ d') → d₀.len ≤ length d₀.slots → length d₀.slots ≡ room → Held A (items d₀) → Inv d₀ d' × Held (λ z. A z ⊎ ((ds : List ℕ) × Has ds w.leaves × WantedAt ds z)) (items d')
    walk_holds d' w fits l h =
        chain_holds pair_order room (IsRoot F a) few items (Visit F) WantedAt (Inv d₀) w.leaves d₀ d' finds w.chain ((refl, refl, refl, refl, refl, refl, refl), fits, l) h

  abbrev NoneYet : Pair → Type 0
  NoneYet z = ⊥

  empty : (slots : List Pair) → Held NoneYet (take 0 slots)
  empty slots = record { ascending = tt; sound = λ z h. elim h [ ]; complete = λ z e. elim e [ ] }

  -- the desks of the two walks
  abbrev pub direct : ℕ → List Pair → ℕ → Desk
  direct r slots n = record { chart = Direct; form = a.form; width = a.c; degree = a.ℓ; w₁ = a.w₁; w₂ = a.w₂; room = r; slots = slots; len = n }

  abbrev pub turned_desk : List ℕ → ℕ → List Pair → ℕ → Desk
  turned_desk form r slots n = record { chart = Turned; form = form; width = a.c; degree = a.ℓ; w₁ = a.w₂; w₂ = a.w₁; room = r; slots = slots; len = n }

  abbrev N₁ : ℕ
  N₁ = suc (a.w₁ + a.w₂)

  abbrev N₂ : ℕ
  N₂ = suc (a.w₂ + a.w₁)

  module _ (r : ℕ) (slots slots₁ : List Pair) (n₁ : ℕ) (l : length slots ≡ room) (walks : Walks F (direct r slots 0) slots₁ n₁) where
    first : Inv (direct r slots 0) walks.0 × Held (λ z. NoneYet z ⊎ ((ds : List ℕ) × Has ds walks.1.leaves × Wanted₁ F a N₁ ds z)) (items walks.0)
    first = walk_holds (direct r slots 0) (Wanted₁ F a N₁) (good_direct F a) (wanted_direct F a) walks.0 walks.1 (omega arith) l (empty slots)

    pub direct_stays : Stays (direct r slots 0) walks.0
    direct_stays = first.0.0

    pub direct_fits : n₁ ≤ length slots₁
    direct_fits = let h = first.0.1 in omega (arith, ap length walks.2, walks.3)

    pub direct_room : length slots₁ ≡ room
    direct_room = sym (ap length walks.2) ∙ first.0.2

    direct_items : items walks.0 ≡ take n₁ slots₁
    direct_items = ap₂ (λ (m : ℕ) (s : List Pair). take m s) walks.3 walks.2

    module _ (r' : ℕ) (form : List ℕ) (slots₂ : List Pair) (n₂ : ℕ) (fl : length form ≡ (a.ℓ + 1) * a.c)
        (same : (t : ℕ) → t ≤ a.ℓ → runs F a.c form t ≡ runs F a.c a.form (a.ℓ - t))
        (further : Walks F (turned_desk form r' slots₁ n₁) slots₂ n₂) where
      second : Inv (turned_desk form r' slots₁ n₁) further.0 × Held (λ z. (NoneYet z ⊎ ((ds : List ℕ) × Has ds walks.1.leaves × Wanted₁ F a N₁ ds z)) ⊎ ((ds : List ℕ) × Has ds further.1.leaves × Wanted₂ F a N₂ ds z)) (items further.0)
      second =
          walk_holds (turned_desk form r' slots₁ n₁) (Wanted₂ F a N₂) (good_turned F a (runs F a.c form) same) (wanted_turned F a (runs F a.c form) same) further.0 further.1 direct_fits direct_room
          (subst (Held (λ z. NoneYet z ⊎ ((ds : List ℕ) × Has ds walks.1.leaves × Wanted₁ F a N₁ ds z))) direct_items first.1)

      reached : (z : Pair) → IsRoot F a z → Has z (items further.0)
      reached z x =
          elim (either_chart F a N₁ z x) [
            | inl nz ↦ second.1.complete z (inl (inr (wanted_first F a N₁ (runs F a.c a.form) (runs_below F a.c a.ℓ a.form long) (λ t u. refl) (Visit F) walks.1 z x nz)))
            | inr nz ↦ second.1.complete z (inr (wanted_second F a N₂ (runs F a.c form) (runs_below F a.c a.ℓ form fl) same (Visit F) further.1 z x nz))
          ]

      pub all_roots : Lists in_order (IsRoot F a) (take n₂ slots₂)
      all_roots =
          subst (Lists in_order (IsRoot F a)) (ap₂ (λ (m : ℕ) (s : List Pair). take m s) further.3 further.2)
          (record { ascending = second.1.ascending; sound = second.1.sound; complete = reached })

      roots_fit : n₂ ≤ length slots₂
      roots_fit = let h = second.0.1 in omega (arith, ap length further.2, further.3)

      pub roots_room : length slots₂ ≡ room
      roots_room = sym (ap length further.2) ∙ second.0.2

      pub roots_few : n₂ ≤ a.ℓ
      roots_few =
          let h = few_roots F a long all some (take n₂ slots₂) all_roots.ascending all_roots.sound in
          let m = length-take-le n₂ slots₂ roots_fit in
          omega arith

      -- the roll is closed
      pub listed : (m : ℕ) (area : List Pair) → m ≡ n₂ → area ≡ cleared blank n₂ slots₂ → Listed F a m area
      listed m area e f =
          let t : take n₂ area ≡ take n₂ slots₂ = ap (take n₂) f ∙ take_at (take n₂ slots₂) (replicate (length slots₂ - n₂) blank) n₂ (length-take-le n₂ slots₂ roots_fit) in
          let fit = roots_fit in
          let l : length area ≡ length slots₂ = ap length f ∙ simp (length-append, length-take, length-replicate) (omega arith) in
          subst (λ (k : ℕ). Listed F a k area) (sym e)
          (record {
            fits = roots_few;
            roots = subst (Lists in_order (IsRoot F a)) (sym t) all_roots;
            beyond = f ∙ ap₂ (λ (xs : List Pair) (k : ℕ). xs ++ replicate (k - n₂) blank) (sym t) (sym l);
          })
