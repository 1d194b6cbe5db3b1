-- Trying every message: where the records of the messages near the shares stand in order, they are the listing of the shares.
use Rattle.std.proofs.Common.{◌≡◌, ℕ, zero, suc, ◌+◌, ◌<◌, ◌≤◌, Bool, true, false, cond, leb, ◌⊎◌, List, [], ◌∷◌, ◌++◌, map, length, filter, sym, refl, ap, ◌∙◌, subst, inl, inr, arith, le-leb, leb-true}
use lib.ListN.{length-map}
use Rattle.std.specs.List.{range_with_len as counting}
use Rattle.fields.specs.Numbers.{Numbers, AllBelow}
use Rattle.codes.specs.Opening.{Given}
use Rattle.codes.specs.Codewords.{codeword}
use Rattle.stages.specs.Words.{distance}
use Rattle.rolls.specs.Order.{Ascending, Has}
use Rattle.candidates.specs.declared.records.Candidate.{Candidate}
use Rattle.candidates.specs.Order.{in_order}
use Rattle.candidates.proofs.Entering.{has_first}
use Rattle.listings.specs.Listing.{candidate_of, Within, Listing}
use Rattle.examples.specs.Messages.{before_each, messages, near}

-- members of lists that are made from lists
has_map : {A B : Type 0} (f : A → B) (x : A) (xs : List A) → Has x xs → Has (f x) (map f xs)
has_map f x [] h = elim h [ ]
has_map f x (y ∷ ys) (inl e) = inl (ap f e)
has_map f x (y ∷ ys) (inr h) = inr (has_map f x ys h)

map_has : {A B : Type 0} (f : A → B) (z : B) (xs : List A) → Has z (map f xs) → (x : A) × Has x xs × (z ≡ f x)
map_has f z [] h = elim h [ ]
map_has f z (y ∷ ys) (inl e) = (y, inl refl, e)
map_has f z (y ∷ ys) (inr h) = let (x, m, e) = map_has f z ys h in (x, inr m, e)

has_second : {A : Type 0} (z : A) (xs ys : List A) → Has z ys → Has z (xs ++ ys)
has_second z [] ys h = h
has_second z (x ∷ xs) ys h = inr (has_second z xs ys h)

has_either : {A : Type 0} (z : A) (xs ys : List A) → Has z (xs ++ ys) → Has z xs ⊎ Has z ys
has_either z [] ys h = inr h
has_either z (x ∷ xs) ys (inl e) = inl (inl e)
has_either z (x ∷ xs) ys (inr h) = elim (has_either z xs ys h) [ inl k ↦ inl (inr k) | inr k ↦ inr k ]

has_counting : (a n c : ℕ) → a ≤ c → c < a + n → Has c (counting a n)
has_counting a zero c h k = absurd (omega arith)
has_counting a (suc n) c h k =
    elim (leb_cases a c h) [ inl e ↦ inl e | inr l ↦ inr (has_counting (a + 1) n c (omega arith) (omega arith)) ]
  where
    leb_cases : (a c : ℕ) → a ≤ c → (c ≡ a) ⊎ (a + 1 ≤ c)
    leb_cases zero zero h = inl refl
    leb_cases zero (suc c) h = inr (omega arith)
    leb_cases (suc a) zero h = absurd (omega arith)
    leb_cases (suc a) (suc c) h = elim (leb_cases a c (omega arith)) [ inl e ↦ inl (ap suc e) | inr l ↦ inr (omega arith) ]

counting_has : (a n c : ℕ) → Has c (counting a n) → c < a + n
counting_has a zero c h = elim h [ ]
counting_has a (suc n) c (inl e) = omega arith
counting_has a (suc n) c (inr h) = let z = counting_has (a + 1) n c h in omega arith

kept_one : {A : Type 0} (test : A → Bool) (x y : A) (rest : List A) (b : Bool) → test y ≡ b → test x ≡ true → (x ≡ y) ⊎ Has x rest
    → Has x (cond b (y ∷ rest) rest)
kept_one test x y rest true t e (inl p) = inl p
kept_one test x y rest true t e (inr m) = inr m
kept_one test x y rest false t e (inl p) =
    absurd (let z : ◌≡◌ {A = Bool} true false = sym e ∙ ap test p ∙ t in let w : ◌≡◌ {A = ℕ} 0 1 = cc in omega arith)
kept_one test x y rest false t e (inr m) = m

has_kept : {A : Type 0} (test : A → Bool) (x : A) (xs : List A) → Has x xs → test x ≡ true → Has x (filter test xs)
has_kept test x [] h e = elim h [ ]
has_kept test x (y ∷ ys) (inl p) e = kept_one test x y (filter test ys) (test y) refl e (inl p)
has_kept test x (y ∷ ys) (inr m) e = kept_one test x y (filter test ys) (test y) refl e (inr (has_kept test x ys m e))

one_kept : {A : Type 0} (test : A → Bool) (x y : A) (rest : List A) (b : Bool) → test y ≡ b → Has x (cond b (y ∷ rest) rest)
    → ((x ≡ y) × (test x ≡ true)) ⊎ Has x rest
one_kept test x y rest true t (inl p) = inl (p, ap test p ∙ t)
one_kept test x y rest true t (inr m) = inr m
one_kept test x y rest false t m = inr m

kept_has : {A : Type 0} (test : A → Bool) (x : A) (xs : List A) → Has x (filter test xs) → Has x xs × (test x ≡ true)
kept_has test x [] h = elim h [ ]
kept_has test x (y ∷ ys) h =
    elim (one_kept test x y (filter test ys) (test y) refl h) [
      | inl (p, e) ↦ (inl p, e)
      | inr m ↦ let (k, e) = kept_has test x ys m in (inr k, e)
    ]

-- all messages
has_before_each : (c : ℕ) (m : List ℕ) (cs : List ℕ) (ms : List (List ℕ)) → Has c cs → Has m ms → Has (c ∷ m) (before_each cs ms)
unfolding before_each
has_before_each c m [] ms h k = elim h [ ]
has_before_each c m (d ∷ ds) ms (inl e) k =
    has_first (c ∷ m) (map (λ (x : List ℕ). d ∷ x) ms) (before_each ds ms)
    (subst (λ (y : ℕ). Has (y ∷ m) (map (λ (x : List ℕ). d ∷ x) ms)) (sym e) (has_map (λ (x : List ℕ). d ∷ x) m ms k))
has_before_each c m (d ∷ ds) ms (inr h) k = has_second (c ∷ m) (map (λ (x : List ℕ). d ∷ x) ms) (before_each ds ms) (has_before_each c m ds ms h k)

before_each_has : (z : List ℕ) (cs : List ℕ) (ms : List (List ℕ)) → Has z (before_each cs ms) → (c : ℕ) × (m : List ℕ) × Has c cs × Has m ms × (z ≡ c ∷ m)
unfolding before_each
before_each_has z [] ms h = elim h [ ]
before_each_has z (d ∷ ds) ms h =
    elim (has_either z (map (λ (x : List ℕ). d ∷ x) ms) (before_each ds ms) h) [
      | inl k ↦ let (m, a, e) = map_has (λ (x : List ℕ). d ∷ x) z ms k in (d, m, inl refl, a, e)
      | inr k ↦ let (c, m, a, b, e) = before_each_has z ds ms k in (c, m, inr a, b, e)
    ]

has_message : (q k : ℕ) (m : List ℕ) → length m ≡ k → AllBelow q m → Has m (messages q k)
unfolding messages
has_message q zero [] l b = inl refl
has_message q zero (c ∷ cs) l b = absurd (omega arith)
has_message q (suc k) [] l b = absurd (omega arith)
has_message q (suc k) (c ∷ cs) l b =
    has_before_each c cs (counting 0 q) (messages q k) (has_counting 0 q c (omega arith) (let z = b 0 (omega arith) in omega arith))
    (has_message q k cs (omega arith) (λ i h. b (suc i) (omega arith)))

below_one : (q c : ℕ) (cs : List ℕ) → c < q → AllBelow q cs → AllBelow q (c ∷ cs)
below_one q c cs h t zero l = h
below_one q c cs h t (suc i) l = t i (omega arith)

message_has : (q k : ℕ) (m : List ℕ) → Has m (messages q k) → (length m ≡ k) × AllBelow q m
unfolding messages
message_has q zero m (inl e) = (ap length e, λ i h. absurd (let z = ap length e in omega arith))
message_has q zero m (inr h) = elim h [ ]
message_has q (suc k) m h =
    let (c, cs, a, b, e) = before_each_has m (counting 0 q) (messages q k) h in
    let (l, t) = message_has q k cs b in
    subst (λ (z : List ℕ). (length z ≡ suc k) × AllBelow q z) (sym e) (ap suc l, below_one q c cs (let z = counting_has 0 q c a in omega arith) t)

module _ (F : Numbers) (g : Given) (rs : List ℕ) where
  abbrev tries : List (List ℕ)
  tries = near F g.points g.multipliers rs g.threshold g.setting.radius

  pub tried : Ascending in_order (map (candidate_of F g rs) (near F g.points g.multipliers rs g.threshold g.setting.radius))
      → length (near F g.points g.multipliers rs g.threshold g.setting.radius) ≤ g.setting.list_limit
      → Listing F g rs (map (candidate_of F g rs) (near F g.points g.multipliers rs g.threshold g.setting.radius))
  unfolding near
  tried ascending few =
      record {
        all = record { ascending = ascending; sound = sound; complete = complete };
        few = subst (λ (n : ℕ). n ≤ g.setting.list_limit) (sym (length-map tries (candidate_of F g rs))) few;
      }
    where
      test : List ℕ → Bool
      test m = leb (distance (length g.points) rs (codeword F g.points g.multipliers m)) g.setting.radius

      sound : (z : Candidate) → Has z (map (candidate_of F g rs) tries) → Within F g rs z
      sound z h =
          let (m, a, e) = map_has (candidate_of F g rs) z tries h in
          let (b, t) = kept_has test m (messages F.q g.threshold) a in
          let (l, u) = message_has F.q g.threshold m b in
          record { message = m; count = l; elements = u; is = e; near = subst (λ (c : Candidate). c.distance ≤ g.setting.radius) (sym e) (leb-true _ _ t) }

      complete : (z : Candidate) → Within F g rs z → Has z (map (candidate_of F g rs) tries)
      complete z w =
          subst (λ (c : Candidate). Has c (map (candidate_of F g rs) tries)) (sym w.is)
          (has_map (candidate_of F g rs) w.message tries
          (has_kept test w.message (messages F.q g.threshold) (has_message F.q g.threshold w.message w.count w.elements)
          (le-leb _ _ (subst (λ (c : Candidate). c.distance ≤ g.setting.radius) w.is w.near))))
