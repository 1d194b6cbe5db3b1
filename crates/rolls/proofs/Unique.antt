-- The theorem on insertion: it stays ascending, has exactly the union, and an ascending list is fixed by its items.
use Rattle.std.proofs.Common.{◌≡◌, ℕ, Bool, true, false, cond, ◌⊎◌, List, [], ◌∷◌, sym, refl, ap, ◌∙◌, inl, inr, arith}
use Rattle.rolls.specs.Order.{TotalOrder, insert, Leads, Ascending, Has, InsertionExact, OrderUnique}

module _ {X : Type 0} {less : X → X → Bool} (o : TotalOrder less) where
  leads_on : (w x : X) (ys : List X) → less w x ≡ true → Leads less x ys → Leads less w ys
  leads_on w x [] e a = tt
  leads_on w x (y ∷ ys) e a = (o.transitive w x y e a.0, leads_on w x ys e a.1)

  leads_insert : (w x : X) (ys : List X) → less w x ≡ true → Leads less w ys → Leads less w (insert less x ys)
  leads_insert w x [] e a = (e, tt)
  leads_insert w x (y ∷ ys) e a =
      elim (less y x) as (λ b. Leads less w (cond b (y ∷ insert less x ys) (cond (less x y) (x ∷ y ∷ ys) (y ∷ ys)))) [
        | true ↦ (a.0, leads_insert w x ys e a.1)
        | false ↦ elim (less x y) as (λ b. Leads less w (cond b (x ∷ y ∷ ys) (y ∷ ys))) [ true ↦ (e, a) | false ↦ a ]
      ]

  ascends_at : (x y : X) (ys : List X) (b c : Bool) → less y x ≡ b → less x y ≡ c → Ascending less (y ∷ ys) → Ascending less (insert less x ys) → Ascending less (cond b (y ∷ insert less x ys) (cond c (x ∷ y ∷ ys) (y ∷ ys)))
  ascends_at x y ys true c e f a h = (leads_insert y x ys e a.0, h)
  ascends_at x y ys false true e f a h = ((f, leads_on x y ys f a.0), a)
  ascends_at x y ys false false e f a h = a

  ascends : (x : X) (ys : List X) → Ascending less ys → Ascending less (insert less x ys)
  ascends x [] a = (tt, tt)
  ascends x (y ∷ ys) a = ascends_at x y ys (less y x) (less x y) refl refl a (ascends x ys a.1)

  from_at : (x y : X) (ys : List X) (z : X) (b c : Bool) → (Has z (insert less x ys) → (z ≡ x) ⊎ Has z ys) → Has z (cond b (y ∷ insert less x ys) (cond c (x ∷ y ∷ ys) (y ∷ ys))) → (z ≡ x) ⊎ Has z (y ∷ ys)
  from_at x y ys z true c r (inl e) = inr (inl e)
  from_at x y ys z true c r (inr h) = elim (r h) [ inl e ↦ inl e | inr k ↦ inr (inr k) ]
  from_at x y ys z false true r h = h
  from_at x y ys z false false r h = inr h

  from : (x : X) (ys : List X) (z : X) → Has z (insert less x ys) → (z ≡ x) ⊎ Has z ys
  from x [] z h = h
  from x (y ∷ ys) z h = from_at x y ys z (less y x) (less x y) (from x ys z) h

  to_at : (x y : X) (ys : List X) (z : X) (b c : Bool) → less y x ≡ b → less x y ≡ c → ((z ≡ x) ⊎ Has z ys → Has z (insert less x ys)) → (z ≡ x) ⊎ Has z (y ∷ ys) → Has z (cond b (y ∷ insert less x ys) (cond c (x ∷ y ∷ ys) (y ∷ ys)))
  to_at x y ys z true c e f r (inl q) = inr (r (inl q))
  to_at x y ys z true c e f r (inr (inl q)) = inl q
  to_at x y ys z true c e f r (inr (inr q)) = inr (r (inr q))
  to_at x y ys z false true e f r h = h
  to_at x y ys z false false e f r (inl q) = inl (q ∙ o.total x y f e)
  to_at x y ys z false false e f r (inr q) = q

  to : (x : X) (ys : List X) (z : X) → (z ≡ x) ⊎ Has z ys → Has z (insert less x ys)
  to x [] z h = h
  to x (y ∷ ys) z h = to_at x y ys z (less y x) (less x y) refl refl (to x ys z) h

  pub insertion_exact : InsertionExact less
  insertion_exact x ys a = record { ascending = ascends x ys a; sound = from x ys; complete = to x ys }

  leads_has : (x : X) (ys : List X) (z : X) → Leads less x ys → Has z ys → less x z ≡ true
  leads_has x [] z a h = elim h [ ]
  leads_has x (y ∷ ys) z a (inl e) = ap (less x) e ∙ a.0
  leads_has x (y ∷ ys) z a (inr h) = leads_has x ys z a.1 h

  never : (b : Bool) → b ≡ true → b ≡ false → ⊥
  never b p q = let z : ◌≡◌ {A = ℕ} 0 1 = cc in omega arith

  -- an item that the list has is its first, or less than no item before it
  not_both : (x y : X) → less x y ≡ true → less y x ≡ true → ⊥
  not_both x y p q = never (less x x) (o.transitive x y x p q) (o.irreflexive x)

  heads : (x y : X) (xs ys : List X) → Ascending less (x ∷ xs) → Ascending less (y ∷ ys) → Has x (y ∷ ys) → Has y (x ∷ xs) → x ≡ y
  heads x y xs ys a b (inl e) k = e
  heads x y xs ys a b (inr h) (inl e) = sym e
  heads x y xs ys a b (inr h) (inr k) = absurd (not_both x y (leads_has x xs y a.0 k) (leads_has y ys x b.0 h))

  -- what the rest has is not the first item
  rests : (x y : X) (xs ys : List X) → x ≡ y → Ascending less (x ∷ xs) → ((z : X) → Has z (x ∷ xs) → Has z (y ∷ ys)) → (z : X) → Has z xs → Has z ys
  rests x y xs ys e a f z h =
      elim (f z (inr h)) [
        | inl q ↦ absurd (never (less x z) (leads_has x xs z a.0 h) (ap (less x) (q ∙ sym e) ∙ o.irreflexive x))
        | inr k ↦ k
      ]

  pub order_unique : OrderUnique less
  order_unique [] [] a b f g = refl
  order_unique [] (y ∷ ys) a b f g = absurd (g y (inl refl))
  order_unique (x ∷ xs) [] a b f g = absurd (f x (inl refl))
  order_unique (x ∷ xs) (y ∷ ys) a b f g =
      let e = heads x y xs ys a b (f x (inl refl)) (g y (inl refl)) in
      let rest = order_unique xs ys a.1 b.1 (rests x y xs ys e a f) (rests y x ys xs (sym e) b g) in
      cc
