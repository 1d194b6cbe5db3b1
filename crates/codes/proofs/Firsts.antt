-- The first of some numbers that has an answer: one number more in a loop over them, and what the answer says of all of them.
use Rattle.std.proofs.Common.{◌≡◌, ℕ, zero, suc, ◌+◌, ◌-◌, ◌<◌, ◌≤◌, Bool, true, false, cond, List, [], ◌∷◌, length, get_or, map, take, position, is_some, ◌||◌, Some, None, Option, sym, refl, ap, ap₂, ◌∙◌, arith}
use Rattle.std.specs.Option.{option_map}
use Rattle.std.specs.List.{position_from, find, list_any, range_with_len}
use Rattle.std.proofs.lemmas.List.{get_or-take, length-take-le}
use Rattle.std.proofs.lemmas.Iterator.Adapters.{position_from-zero}
use native.Mathlib.Decide.{ℕ_discrete}
use Rattle.codes.specs.First.{or_else, when, mapped, first_of, first_below}

pub when_true : {A : Type 0} (b : Bool) (x : A) → b ≡ true → when b x ≡ Some x
when_true b x e = ap (λ (t : Bool). when t x) e

pub when_false : {A : Type 0} (b : Bool) (x : A) → b ≡ false → when b x ≡ None
when_false b x e = ap (λ (t : Bool). when t x) e

module _ {A : Type 0} (f : ℕ → Option A) where
  -- a loop over m numbers from a, before n, has come to i with no answer yet
  abbrev pub Left : ℕ → ℕ → ℕ → ℕ → Type 0
  Left a m n i = first_of f a m ≡ first_of f i (n - i)

  pub left_none : (a m n : ℕ) → a + m ≡ n → Left a m n a
  left_none a m n e = let h : m ≡ n - a = omega arith in ap (first_of f a) h

  opened : (i n : ℕ) → i < n → first_of f i (n - i) ≡ or_else (f i) (first_of f (i + 1) (n - (i + 1)))
  opened i n h = let e : n - i ≡ suc (n - (i + 1)) = omega arith in ap (first_of f i) e

  pub left_more : (a m n i : ℕ) → i < n → f i ≡ None → Left a m n i → Left a m n (i + 1)
  left_more a m n i h e l = l ∙ opened i n h ∙ ap (λ (o : Option A). or_else o (first_of f (i + 1) (n - (i + 1)))) e

  pub left_found : (a m n i : ℕ) (x : A) → i < n → f i ≡ Some x → Left a m n i → first_of f a m ≡ Some x
  left_found a m n i x h e l = l ∙ opened i n h ∙ ap (λ (o : Option A). or_else o (first_of f (i + 1) (n - (i + 1)))) e

  -- the same, by an answer that is some
  pub left_some : (a m n i : ℕ) (o : Option A) → i < n → f i ≡ o → is_some o ≡ true → Left a m n i → first_of f a m ≡ o
  left_some a m n i None h e s l = absurd (let z : ◌≡◌ {A = ℕ} 0 1 = cc in omega arith)
  left_some a m n i (Some x) h e s l = left_found a m n i x h e l

  pub left_all : (a m n i : ℕ) → n ≤ i → Left a m n i → first_of f a m ≡ None
  left_all a m n i h l = let e : n - i ≡ 0 = omega arith in l ∙ ap (first_of f i) e

pub when_none : {A : Type 0} (b : Bool) (x : A) → when b x ≡ None → b ≡ false
when_none true x e = absurd (let z : ◌≡◌ {A = ℕ} 0 1 = cc in omega arith)
when_none false x e = refl

pub or_else_none : {A : Type 0} (o p : Option A) → or_else o p ≡ None → (o ≡ None) × (p ≡ None)
or_else_none None p e = (refl, e)
or_else_none (Some x) p e = absurd (let z : ◌≡◌ {A = ℕ} 0 1 = cc in omega arith)

pub mapped_none : {A B : Type 0} (f : A → B) (o : Option A) → mapped f o ≡ None → o ≡ None
mapped_none f None e = refl
mapped_none f (Some x) e = absurd (let z : ◌≡◌ {A = ℕ} 0 1 = cc in omega arith)

-- where there is no answer, no number has one
pub first_none : {A : Type 0} (f : ℕ → Option A) (a m : ℕ) → first_of f a m ≡ None → (i : ℕ) → a ≤ i → i < a + m → f i ≡ None
first_none f a zero e i h k = absurd (omega arith)
first_none f a (suc m) e i h k =
    let (here, rest) = or_else_none (f a) (first_of f (a + 1) m) e in
    elim (ℕ_discrete a i) [ yes u ↦ ap f (sym u) ∙ here | no u ↦ first_none f (a + 1) m rest i (omega arith) (omega arith) ]

pub below_none : (n : ℕ) (test : ℕ → Bool) → first_below n test ≡ None → (i : ℕ) → i < n → test i ≡ false
below_none n test e i h = when_none (test i) i (first_none (λ j. when (test j) j) 0 n e i (omega arith) (omega arith))

pub none_of : {A : Type 0} (o : Option A) → is_some o ≡ false → o ≡ None
none_of None e = refl
none_of (Some x) e = absurd (let z : ◌≡◌ {A = ℕ} 0 1 = cc in omega arith)

-- where a number is the first with an answer: which, and that none before it has one
pub record First {A : Type 0} (f : ℕ → Option A) (a m : ℕ) (x : A) : Type 0 where
  pub at : ℕ
  pub from : a ≤ at
  pub within : at < a + m
  pub here : f at ≡ Some x
  pub before : (j : ℕ) → a ≤ j → j < at → f j ≡ None

pub first_some : {A : Type 0} (f : ℕ → Option A) (a m : ℕ) (x : A) → first_of f a m ≡ Some x → First f a m x
first_some f a zero x e = absurd (let z : ◌≡◌ {A = ℕ} 0 1 = cc in omega arith)
first_some {A} f a (suc m) x e = go (λ t. first_some f (a + 1) m x t) (f a) refl e
  where
    later : f a ≡ None → First f (a + 1) m x → First f a (suc m) x
    later n r =
        record {
          at = r.at;
          from = let h = r.from in omega arith;
          within = let h = r.within in omega arith;
          here = r.here;
          before = λ j h k. elim (ℕ_discrete a j) [ yes u ↦ ap f (sym u) ∙ n | no u ↦ r.before j (omega arith) k ];
        }

    go : (first_of f (a + 1) m ≡ Some x → First f (a + 1) m x) → (o : Option A) → f a ≡ o → or_else o (first_of f (a + 1) m) ≡ Some x
        → First f a (suc m) x
    go r None n t = later n (r t)
    go r (Some y) n t =
        record { at = a; from = omega arith; within = omega arith; here = n ∙ t; before = λ j h k. absurd (omega arith) }

-- one number more, by the library's way to choose
chosen : {A : Type 0} (b : Bool) (x : A) (o : Option A) → cond b (Some x) o ≡ or_else (when b x) o
chosen true x o = refl
chosen false x o = refl

-- the library's first place that passes is the first number that meets a test
position_from_first : (p test : ℕ → Bool) (a : ℕ) (xs : List ℕ) → ((i : ℕ) → i < length xs → p (get_or xs i 0) ≡ test (a + i))
    → position_from p a xs ≡ first_of (λ i. when (test i) i) a (length xs)
position_from_first p test a [] same = refl
position_from_first p test a (x ∷ xs) same =
    let here : p x ≡ test a = same 0 (omega arith) ∙ ap test (omega arith) in
    let rest : position_from p (a + 1) xs ≡ first_of (λ i. when (test i) i) (a + 1) (length xs) =
    position_from_first p test (a + 1) xs (λ i h. let e : a + suc i ≡ a + 1 + i = omega arith in same (suc i) (omega arith) ∙ ap test e) in
    ap₂ (λ (b : Bool) (o : Option ℕ). cond b (Some a) o) here rest ∙ chosen (test a) a (first_of (λ i. when (test i) i) (a + 1) (length xs))

pub position_first : (p : ℕ → Bool) (xs : List ℕ) → position p xs ≡ first_below (length xs) (λ i. p (get_or xs i 0))
position_first p xs =
    position_from-zero p xs
    ∙ position_from_first p (λ i. p (get_or xs i 0)) 0 xs (λ i h. let e : i ≡ 0 + i = omega arith in ap (λ (j : ℕ). p (get_or xs j 0)) e)

-- whether any of the first n numbers passes
any_from_first : (p test : ℕ → Bool) (a : ℕ) (xs : List ℕ) → ((i : ℕ) → i < length xs → p (get_or xs i 0) ≡ test (a + i))
    → list_any p xs ≡ is_some (first_of (λ i. when (test i) i) a (length xs))
any_from_first p test a [] same = refl
any_from_first p test a (x ∷ xs) same =
    let here : p x ≡ test a = same 0 (omega arith) ∙ ap test (omega arith) in
    let rest : list_any p xs ≡ is_some (first_of (λ i. when (test i) i) (a + 1) (length xs)) =
    any_from_first p test (a + 1) xs (λ i h. let e : a + suc i ≡ a + 1 + i = omega arith in same (suc i) (omega arith) ∙ ap test e) in
    ap₂ (λ (b c : Bool). b || c) here rest ∙ either (test a) (first_of (λ i. when (test i) i) (a + 1) (length xs))
  where
    either : (b : Bool) (o : Option ℕ) → b || is_some o ≡ is_some (or_else (when b a) o)
    either true o = refl
    either false o = refl

pub any_first : (p : ℕ → Bool) (n : ℕ) (xs : List ℕ) → n ≤ length xs → list_any p (take n xs) ≡ is_some (first_below n (λ i. p (get_or xs i 0)))
any_first p n xs h =
    let few : length (take n xs) ≡ n = length-take-le n xs h in
    any_from_first p (λ i. p (get_or xs i 0)) 0 (take n xs)
    (λ i k. ap p (get_or-take n xs i 0 (omega arith) ∙ (let e : i ≡ 0 + i = omega arith in ap (λ (j : ℕ). get_or xs j 0) e)))
    ∙ ap (λ (m : ℕ). is_some (first_below m (λ i. p (get_or xs i 0)))) few

-- the library's search among the numbers from a, or among what they stand for
pub find_first : {A : Type 0} (test : A → Bool) (f : ℕ → A) (a m : ℕ)
    → find test (map f (range_with_len a m)) ≡ first_of (λ i. when (test (f i)) (f i)) a m
find_first test f a zero = refl
find_first test f a (suc m) =
    ap (cond (test (f a)) (Some (f a))) (find_first test f (a + 1) m)
    ∙ chosen (test (f a)) (f a) (first_of (λ i. when (test (f i)) (f i)) (a + 1) m)

pub find_number : (test : ℕ → Bool) (a m : ℕ) → find test (range_with_len a m) ≡ first_of (λ i. when (test i) i) a m
find_number test a zero = refl
find_number test a (suc m) = ap (cond (test a) (Some a)) (find_number test (a + 1) m) ∙ chosen (test a) a (first_of (λ i. when (test i) i) (a + 1) m)

-- of two tests that say the same below n
pub below_same : (n : ℕ) (p test : ℕ → Bool) → ((i : ℕ) → i < n → p i ≡ test i) → first_below n p ≡ first_below n test
below_same n p test same = go 0 n (λ i h k. same i (omega arith))
  where
    go : (a m : ℕ) → ((i : ℕ) → a ≤ i → i < a + m → p i ≡ test i) → first_of (λ i. when (p i) i) a m ≡ first_of (λ i. when (test i) i) a m
    go a zero s = refl
    go a (suc m) s =
        ap₂ (λ (b : Bool) (o : Option ℕ). or_else (when b a) o) (s a (omega arith) (omega arith)) (go (a + 1) m (λ i h k. s i (omega arith) (omega arith)))

pub same_option : {A : Type 0} (o : Option A) → o ≡ option_map (λ x. x) o
same_option None = refl
same_option (Some x) = refl

-- where no number has an answer, and where one has it and none before it
pub no_first : {A : Type 0} (f : ℕ → Option A) (a m : ℕ) → ((k : ℕ) → k < m → f (a + k) ≡ None) → first_of f a m ≡ None
no_first f a zero none = refl
no_first f a (suc m) none =
    let here : a ≡ a + 0 = omega arith in
    ap (λ (o : Option _). or_else o (first_of f (a + 1) m)) (ap f here ∙ none 0 (omega arith))
    ∙ no_first f (a + 1) m (λ k h. let e : a + 1 + k ≡ a + suc k = omega arith in ap f e ∙ none (suc k) (omega arith))

pub some_first : {A : Type 0} (f : ℕ → Option A) (a m i : ℕ) (x : A) → i < m → ((k : ℕ) → k < i → f (a + k) ≡ None) → f (a + i) ≡ Some x
    → first_of f a m ≡ Some x
some_first f a m zero x h none some =
    let e : a + 0 ≡ a = omega arith in left_found f a m (a + m) a x (omega arith) (ap f (sym e) ∙ some) (left_none f a m (a + m) refl)
some_first f a m (suc i) x h none some =
    let here : a ≡ a + 0 = omega arith in
    let less : m ≡ suc (m - 1) = omega arith in
    ap (first_of f a) less
    ∙ ap (λ (o : Option _). or_else o (first_of f (a + 1) (m - 1))) (ap f here ∙ none 0 (omega arith))
    ∙ some_first f (a + 1) (m - 1) i x (omega arith)
    (λ k j. let e : a + 1 + k ≡ a + suc k = omega arith in ap f e ∙ none (suc k) (omega arith))
    (let e : a + 1 + i ≡ a + suc i = omega arith in ap f e ∙ some)
