-- Total orders that records are built from: numbers, dictionary order, one order after another, and the order of a key.
use Rattle.std.proofs.Common.{◌≡◌, ℕ, Bool, true, false, ltb, List, [], ◌∷◌, Some, Option, sym, refl, ap, ◌∙◌, arith, ltb-false, ltb-true, le-ltb, lt-ltb}
use Rattle.std.specs.declared.cmp.Ordering.{Ordering}
use Rattle.std.specs.Cmp.{IsTotalOrder}
use Rattle.std.specs.Cmp.Lexicographic.{slice_cmp}
use Rattle.std.specs.Ordering.{is_lt, is_gt, is_some_and, nat_cmp, ordering_reverse, ordering_then, partial_lt}
use Rattle.std.specs.declared.cmp.Ordering.TheVariants.{Less, Equal, Greater}
use Rattle.std.proofs.lemmas.Bool.Decides.{nat_tests}
use Rattle.std.proofs.lemmas.Cmp.{same_from_slice_cmp}
use Rattle.rolls.specs.Order.{TotalOrder, Compares, before, dictionary}

pub ltb_total : TotalOrder ltb
ltb_total =
    record {
      irreflexive = λ x. le-ltb x x (omega arith);
      transitive = λ x y z p q. lt-ltb x z (omega (arith, ltb-true x y p, ltb-true y z q));
      total = λ x y p q. omega (arith, ltb-false x y p, ltb-false y x q);
    }

never : (b : Bool) → b ≡ true → b ≡ false → ⊥
never b p q = let z : ◌≡◌ {A = ℕ} 0 1 = cc in omega arith

-- a first order on one part and then a second on another, from what is known of the second at the values at hand
module _ {X Y : Type 0} {less : X → X → Bool} (o : TotalOrder less) (next : Y → Y → Bool) where
  abbrev in_turn : X → Y → X → Y → Bool
  in_turn x y x' y' = before (less x x') (less x' x) (next y y')

  pub turn_irreflexive : (x : X) (y : Y) → next y y ≡ false → in_turn x y x y ≡ false
  turn_irreflexive x y e = simp (o.irreflexive x, e)

  pub turn_total : (x x' : X) (y y' : Y) → (next y y' ≡ false → next y' y ≡ false → y ≡ y') → in_turn x y x' y' ≡ false → in_turn x' y' x y ≡ false → (x ≡ x') × (y ≡ y')
  turn_total x x' y y' t p q = by (less x x') (less x' x) refl refl p q
    where
      by : (a b : Bool) → less x x' ≡ a → less x' x ≡ b → before a b (next y y') ≡ false → before b a (next y' y) ≡ false → (x ≡ x') × (y ≡ y')
      by true b e f p q = absurd (never true refl p)
      by false true e f p q = absurd (never true refl q)
      by false false e f p q = (o.total x x' e f, t p q)

  -- the first part comes before, or is one and the second part comes before
  turn_cases : (x x' : X) (y y' : Y) (P : Type 0) → (less x x' ≡ true → P) → (x ≡ x' → next y y' ≡ true → P) → in_turn x y x' y' ≡ true → P
  turn_cases x x' y y' P k m p = by (less x x') (less x' x) refl refl p
    where
      by : (a b : Bool) → less x x' ≡ a → less x' x ≡ b → before a b (next y y') ≡ true → P
      by true b e f p = k e
      by false true e f p = absurd (never false p refl)
      by false false e f p = m (o.total x x' e f) p

  turn_first : (x x' : X) (y y' : Y) → less x x' ≡ true → in_turn x y x' y' ≡ true
  turn_first x x' y y' p = ap (λ (b : Bool). before b (less x' x) (next y y')) p

  turn_second : (x x' : X) (y y' : Y) → x ≡ x' → next y y' ≡ true → in_turn x y x' y' ≡ true
  turn_second x x' y y' e p =
      let a : less x x' ≡ false = ap (less x) (sym e) ∙ o.irreflexive x in
      let b : less x' x ≡ false = ap (less x') e ∙ o.irreflexive x' in
      ap (λ (b : Bool). before b (less x' x) (next y y')) a ∙ ap (λ (b : Bool). before false b (next y y')) b ∙ p

  pub turn_transitive : (x x' x'' : X) (y y' y'' : Y) → (next y y' ≡ true → next y' y'' ≡ true → next y y'' ≡ true) → in_turn x y x' y' ≡ true → in_turn x' y' x'' y'' ≡ true → in_turn x y x'' y'' ≡ true
  turn_transitive x x' x'' y y' y'' t p q =
      turn_cases x x' y y' (in_turn x y x'' y'' ≡ true)
      (λ a.
      turn_cases x' x'' y' y'' (in_turn x y x'' y'' ≡ true)
      (λ b. turn_first x x'' y y'' (o.transitive x x' x'' a b))
      (λ e b. turn_first x x'' y y'' (ap (less x) (sym e) ∙ a))
      q)
      (λ e a.
      turn_cases x' x'' y' y'' (in_turn x y x'' y'' ≡ true)
      (λ b. turn_first x x'' y y'' (ap (λ (w : X). less w x'') e ∙ b))
      (λ f b. turn_second x x'' y y'' (e ∙ f) (t a b))
      q)
      p

-- records with two parts, by the first and then by the second
pub in_turn_total : {X Y Z : Type 0} {less : X → X → Bool} {next : Y → Y → Bool} → TotalOrder less → TotalOrder next → (first : Z → X) (second : Z → Y) → ((a b : Z) → first a ≡ first b → second a ≡ second b → a ≡ b) → TotalOrder (λ a b. before (less (first a) (first b)) (less (first b) (first a)) (next (second a) (second b)))
in_turn_total {next = next} o n first second one =
    record {
      irreflexive = λ a. turn_irreflexive o next (first a) (second a) (n.irreflexive (second a));
      transitive = λ a b c. turn_transitive o next (first a) (first b) (first c) (second a) (second b) (second c) (n.transitive (second a) (second b) (second c));
      total = λ a b p q.
          let e = turn_total o next (first a) (first b) (second a) (second b) (n.total (second a) (second b)) p q in
          one a b e.0 e.1;
    }

dictionary_irreflexive : (xs : List ℕ) → dictionary xs xs ≡ false
dictionary_irreflexive [] = refl
dictionary_irreflexive (x ∷ xs) = turn_irreflexive ltb_total dictionary x xs (dictionary_irreflexive xs)

dictionary_transitive : (xs ys zs : List ℕ) → dictionary xs ys ≡ true → dictionary ys zs ≡ true → dictionary xs zs ≡ true
dictionary_transitive xs [] [] p q = absurd (never false q refl)
dictionary_transitive [] ys (z ∷ zs) p q = refl
dictionary_transitive (x ∷ xs) [] (z ∷ zs) p q = absurd (never false p refl)
dictionary_transitive xs (y ∷ ys) [] p q = absurd (never false q refl)
dictionary_transitive (x ∷ xs) (y ∷ ys) (z ∷ zs) p q = turn_transitive ltb_total dictionary x y z xs ys zs (dictionary_transitive xs ys zs) p q

dictionary_one : (xs ys : List ℕ) → dictionary xs ys ≡ false → dictionary ys xs ≡ false → xs ≡ ys
dictionary_one [] [] p q = refl
dictionary_one [] (y ∷ ys) p q = absurd (never true refl p)
dictionary_one (x ∷ xs) [] p q = absurd (never true refl q)
dictionary_one (x ∷ xs) (y ∷ ys) p q =
    let e = turn_total ltb_total dictionary x y xs ys (dictionary_one xs ys) p q in
    let first = e.0 in
    let rest = e.1 in
    cc

pub dictionary_total : TotalOrder dictionary
dictionary_total =
    record { irreflexive = dictionary_irreflexive; transitive = dictionary_transitive; total = dictionary_one }

-- a type's `<` is the order that its `cmp` goes by
pub goes_by : {X : Type 0} {cmp : X → X → Ordering} {partial-cmp : X → X → Option Ordering} {less : X → X → Bool} → Compares cmp less → ((x y : X) → partial-cmp x y ≡ Some (cmp x y)) → ◌≡◌ {A = X → X → Bool} (partial_lt partial-cmp) less
goes_by c a = λ i x y. (ap (is_some_and is_lt) (a x y) ∙ c.same x y) i

number_same : (x y : ℕ) → is_lt (nat_cmp x y) ≡ ltb x y
number_same x y = grind (arith, nat_tests)

-- `cmp` of numbers goes by `<`
pub numbers_compare : Compares nat_cmp ltb
numbers_compare = record { same = number_same; order = ltb_total }

dictionary_same : (xs ys : List ℕ) → is_lt (slice_cmp nat_cmp xs ys) ≡ dictionary xs ys
dictionary_same xs ys =
    same_from_slice_cmp nat_cmp is_lt dictionary refl (λ _ _. refl) (λ _ _. refl) (λ x y xs ys o h. grind (arith, nat_tests)) xs ys (slice_cmp nat_cmp xs ys) refl

-- `cmp` of lists of numbers goes by dictionary order
pub dictionary_compares : Compares (slice_cmp nat_cmp) dictionary
dictionary_compares = record { same = dictionary_same; order = dictionary_total }

then_before : (r s : Ordering) → is_lt (ordering_then r s) ≡ before (is_lt r) (is_gt r) (is_lt s)
then_before Less s = refl
then_before Equal s = refl
then_before Greater s = refl

back : (r : Ordering) → is_gt (ordering_reverse r) ≡ is_lt r
back Less = refl
back Equal = refl
back Greater = refl

-- `cmp` of two parts, the first and then the second, goes by their orders in turn
pub in_turn_compares : {X Y Z : Type 0} {cmp : X → X → Ordering} {less : X → X → Bool} {cmp' : Y → Y → Ordering} {next : Y → Y → Bool} → IsTotalOrder cmp → Compares cmp less → Compares cmp' next → (first : Z → X) (second : Z → Y) → ((a b : Z) → first a ≡ first b → second a ≡ second b → a ≡ b) → Compares (λ a b. ordering_then (cmp (first a) (first b)) (cmp' (second a) (second b))) (λ a b. before (less (first a) (first b)) (less (first b) (first a)) (next (second a) (second b)))
in_turn_compares {cmp = cmp} {cmp' = cmp'} o c n first second one =
    record {
      same = λ a b.
          let r = cmp (first a) (first b) in
          let s = cmp' (second a) (second b) in
          let behind = ap is_gt (o.antisymm (first a) (first b)) ∙ back (cmp (first b) (first a)) ∙ c.same (first b) (first a) in
          let ahead = c.same (first a) (first b) in
          let after = n.same (second a) (second b) in
          then_before r s ∙ (λ i. before (ahead i) (behind i) (after i));
      order = in_turn_total c.order n.order first second one;
    }
