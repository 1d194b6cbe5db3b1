-- A form that is not zero has ℓ roots at most, so that ℓ records hold them.
use Rattle.std.proofs.Common.{◌&&◌, ◌≡◌, ℕ, zero, suc, ◌+◌, ◌-◌, ◌*◌, ◌<◌, ◌≤◌, Bool, true, false, eqb, ◌≢◌, List, [], ◌∷◌, length, get_or, drop, sym, refl, ap, ◌∙◌, inl, inr, suc-mul, add-mul, one-mul, arith, length-drop, length-take}
use native.Mathlib.Decide.{dec_lt}
use borrow.Author.Tests.{eqb-false}
use Rattle.std.proofs.lemmas.List.{ext_get_or, get_or-take, get_or-drop}
use Rattle.fields.specs.Numbers.{Numbers, AllBelow, Element, pos, field_of, elem_inj}
use Rattle.polynomials.specs.Series.{poly}
use Rattle.polynomials.proofs.Readings.{poly_at, poly_past, all_at}
use Rattle.decoding.proofs.AtMost.{roots_at_most}
use Rattle.rolls.specs.Order.{Leads, Ascending, Has}
use Rattle.digits.specs.Runs.{run}
use Rattle.digits.proofs.Arrays.{all_take, all_drop}
use Rattle.leaves.specs.declared.pairs.Pair.{Pair}
use Rattle.leaves.specs.Order.{in_order}
use Rattle.leaves.specs.Ordering.{pair_order}
use Rattle.roots.specs.Asked.{Asked, all_zero}
use Rattle.roots.specs.Answer.{form_of, IsRoot}

module _ {X : Type 0} (less : X → X → Bool) where
  has_at : (xs : List X) (i : ℕ) (d : X) → i < length xs → Has (get_or xs i d) xs
  has_at [] i d h = absurd (let z : i < 0 = h in omega arith)
  has_at (x ∷ xs) zero d h = inl refl
  has_at (x ∷ xs) (suc i) d h = inr (has_at xs i d (omega arith))

  leads_at : (x : X) (xs : List X) (i : ℕ) (d : X) → Leads less x xs → i < length xs → less x (get_or xs i d) ≡ true
  leads_at x [] i d l h = absurd (let z : i < 0 = h in omega arith)
  leads_at x (y ∷ ys) zero d l h = l.0
  leads_at x (y ∷ ys) (suc i) d l h = leads_at x ys i d l.1 (omega arith)

  ascending_at : (xs : List X) (i j : ℕ) (d : X) → Ascending less xs → i < j → j < length xs → less (get_or xs i d) (get_or xs j d) ≡ true
  ascending_at [] i j d a u v = absurd (let z : j < 0 = v in omega arith)
  ascending_at (x ∷ xs) zero zero d a u v = absurd (omega arith)
  ascending_at (x ∷ xs) zero (suc j) d a u v = leads_at x xs j d a.0 (omega arith)
  ascending_at (x ∷ xs) (suc i) zero d a u v = absurd (let z : suc i < 0 = u in omega arith)
  ascending_at (x ∷ xs) (suc i) (suc j) d a u v = ascending_at xs i j d a.1 (omega arith) (omega arith)

module _ (F : Numbers) where
  -- a list of elements is known by its polynomial
  pub same_list : (xs ys : List ℕ) → length xs ≡ length ys → AllBelow F.q xs → AllBelow F.q ys → poly F xs ≡ poly F ys → xs ≡ ys
  same_list xs ys l a b e =
      ext_get_or 0 xs ys l
      (λ i u. elem_inj F (get_or xs i 0) (get_or ys i 0) (all_at F xs a i) (all_at F ys b i) (sym (poly_at F xs i) ∙ ap (λ (f : ℕ → Element F). f i) e ∙ poly_at F ys i))

  pub same_pair : (a : Asked) (p q : Pair) → IsRoot F a p → IsRoot F a q → poly F p.first ≡ poly F q.first → poly F p.second ≡ poly F q.second → p ≡ q
  same_pair a p q x y e f =
      let first = same_list p.first q.first (x.first_long ∙ sym y.first_long) x.first_below y.first_below e in
      let second = same_list p.second q.second (x.second_long ∙ sym y.second_long) x.second_below y.second_below f in
      ap (λ (l : List ℕ). let r : Pair = record { first = l; second = p.second } in r) first
      ∙ ap (λ (l : List ℕ). let r : Pair = record { first = q.first; second = l } in r) second

  -- a number that is not zero
  nonzero : (xs : List ℕ) → all_zero xs ≡ false → (i : ℕ) × (i < length xs) × (get_or xs i 0 ≢ 0)
  nonzero [] e = absurd (let z : ◌≡◌ {A = ℕ} 0 1 = cc in omega arith)
  nonzero (x ∷ xs) e = go (nonzero xs) (eqb x 0) refl e
    where
      go : (all_zero xs ≡ false → (i : ℕ) × (i < length xs) × (get_or xs i 0 ≢ 0)) → (b : Bool) → eqb x 0 ≡ b → (b && all_zero xs) ≡ false → (i : ℕ) × (i < suc (length xs)) × (get_or (x ∷ xs) i 0 ≢ 0)
      go more true t f = let k = more f in (suc k.0, let h = k.1 in omega arith, k.2)
      go more false t f = (0, omega arith, eqb-false x 0 t)

  -- it stands in some run
  in_run : (ℓ c i : ℕ) (xs : List ℕ) → length xs ≡ (ℓ + 1) * c → i < length xs → get_or xs i 0 ≢ 0 → (t : ℕ) × (t ≤ ℓ) × ((k : ℕ) × (get_or (run c t xs) k 0 ≢ 0))
  in_run zero c i xs l h nz =
      (0, omega arith, (i, λ z. nz (sym (get_or-take c xs i 0 (let m = one-mul c in omega arith)) ∙ z)))
  in_run (suc ℓ) c i xs l h nz = go (in_run ℓ c (i - c) (drop c xs)) (dec_lt i c)
    where
      go : (length (drop c xs) ≡ (ℓ + 1) * c → i - c < length (drop c xs) → get_or (drop c xs) (i - c) 0 ≢ 0 → (t : ℕ) × (t ≤ ℓ) × ((k : ℕ) × (get_or (run c t (drop c xs)) k 0 ≢ 0))) → Dec (i < c) → (t : ℕ) × (t ≤ suc ℓ) × ((k : ℕ) × (get_or (run c t xs) k 0 ≢ 0))
      go more (yes u) = (0, omega arith, (i, λ z. nz (sym (get_or-take c xs i 0 u) ∙ z)))
      go more (no u) =
          let d = length-drop c xs in
          let a = add-mul (suc ℓ) 1 c in
          let b = suc-mul ℓ c in
          let e = add-mul ℓ 1 c in
          let f = one-mul c in
          let k = more (omega arith) (omega arith) (λ z. nz (ap (λ (j : ℕ). get_or xs j 0) (let q : i ≡ c + (i - c) = omega arith in q) ∙ sym (get_or-drop c xs (i - c) 0) ∙ z)) in
          (suc k.0, let h = k.1 in omega arith, k.2)

  pub run_short : (c t : ℕ) (xs : List ℕ) → length (run c t xs) ≤ c
  run_short c zero xs = let l = length-take c xs in omega arith
  run_short c (suc t) xs = run_short c t (drop c xs)

  run_all : (c t : ℕ) (xs : List ℕ) → AllBelow F.q xs → AllBelow F.q (run c t xs)
  run_all c zero xs h = all_take F c xs h
  run_all c (suc t) xs h = run_all c t (drop c xs) (all_drop F c xs h)

  -- a roll of roots has ℓ items at most
  pub few_roots : (a : Asked) → length a.form ≡ (a.ℓ + 1) * a.c → AllBelow F.q a.form → all_zero a.form ≡ false → (xs : List Pair) → Ascending in_order xs → ((z : Pair) → Has z xs → IsRoot F a z) → length xs ≤ a.ℓ
  few_roots a l all nz [] asc good = omega arith
  few_roots a l all nz (x ∷ xs) asc good =
      let k = nonzero a.form nz in
      let (t, ht, (j, hj)) = in_run a.ℓ a.c k.0 a.form l k.1 k.2 in
      let at : ℕ → Pair = λ i. get_or (x ∷ xs) i x in
      let root : (i : ℕ) → i < length (x ∷ xs) → IsRoot F a (at i) = λ i h. good (at i) (has_at in_order (x ∷ xs) i x h) in
      roots_at_most (field_of F) a.ℓ a.w₁ a.w₂ a.c (form_of F a)
      (λ s u i v. poly_past F (run a.c s a.form) i (let z = run_short a.c s a.form in omega arith)) t j ht
      (λ z. hj (elem_inj F (get_or (run a.c t a.form) j 0) 0 (all_at F (run a.c t a.form) (run_all a.c t a.form all) j) (pos F) (sym (poly_at F (run a.c t a.form) j) ∙ z)))
      (length (x ∷ xs)) (λ i. poly F (at i).first) (λ i. poly F (at i).second) (λ i h. (root i h).root)
      (λ i m u v e.
      let same : at i ≡ at m = same_pair a (at i) (at m) (root i (omega arith)) (root m v) e.0 e.1 in
      let less : in_order (at i) (at m) ≡ true = ascending_at in_order (x ∷ xs) i m x asc u v in
      let none : in_order (at i) (at m) ≡ false = ap (in_order (at i)) (sym same) ∙ pair_order.irreflexive (at i) in
      let z : ◌≡◌ {A = ℕ} 0 1 = cc in
      omega arith)
