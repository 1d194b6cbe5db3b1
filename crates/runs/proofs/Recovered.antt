-- What a list that is given has after a run, when a list is given, and the law of a whole run.
use Rattle.std.proofs.Common.{◌≡◌, ℕ, zero, suc, ◌+◌, ◌<◌, ◌≤◌, min, false, not, ltb, leb, List, [], ◌∷◌, map, length, get_or, take, drop, is_some, Some, None, Option, Result, sym, refl, ap, ◌∙◌, subst, arith, eq-eqb}
use lib.ListN.{length-map}
use Rattle.std.proofs.lemmas.List.{get_or-map}
use Rattle.std.proofs.lemmas.Bool.Decides.{nat_tests as tests}
use Rattle.std.proofs.lemmas.Option.{same_Some}
use Rattle.fields.specs.Numbers.{Numbers}
use Rattle.faults.specs.declared.ListingFault.{ListingFault}
use Rattle.faults.specs.declared.ListingFault.TheVariants.{EmptyPlace, NotAnElement, ResultArea, WorkArea}
use Rattle.faults.specs.Faults.{listing_refusal}
use Rattle.codes.specs.declared.Setting.{Setting}
use Rattle.codes.specs.First.{or_else, when, first_of}
use Rattle.codes.specs.Opening.{Given}
use Rattle.codes.proofs.Firsts.{when_false, when_none, or_else_none, first_none}
use Rattle.collections.specs.declared.Place.{Place}
use Rattle.collections.specs.declared.Place.TheVariants.{Empty, Filled}
use Rattle.collections.specs.Book.{Book, unopened, opened, Act, Fits, AllFit}
use Rattle.collections.specs.Standing.{share, shares}
use Rattle.gathering.specs.Shares.{number, numbers, count_fault, empty_fault, element_fault, gathering_fault}
use Rattle.interpolating.specs.Interpolation.{work_of}
use Rattle.candidates.specs.declared.records.Candidate.{Candidate}
use Rattle.listings.specs.Listing.{Listing}
use Rattle.listings.specs.Calls.{area_fault, listing_fault}
use Rattle.runs.specs.declared.Call.{Call}
use Rattle.runs.specs.declared.Call.TheVariants.{Read, List as ListAll}
use Rattle.runs.specs.declared.Outcome.{Outcome}
use Rattle.runs.specs.declared.CallFault.{CallFault}
use Rattle.runs.specs.Law.{Reply, reply, tells, lists, refuses, RightList, Answered, Runs}
use Rattle.runs.specs.Kinds.{EachBefits}
use Rattle.runs.specs.History.{history, latest, Full, Recovers, ListsComplete, ListsGiven, TrueAfter, Law}
use Rattle.runs.proofs.Histories.{Written, run_written, fair_after, place_after, given_after, reads_tell}
use Rattle.runs.proofs.Running.{up_to}

-- no fault comes of checks that all pass
both_none : {A : Type 0} (o p : Option A) → o ≡ None → p ≡ None → or_else o p ≡ None
both_none o p e f = ap (λ x. or_else x p) e ∙ f

all_none : {A : Type 0} (f : ℕ → Option A) (a m : ℕ) → ((i : ℕ) → a ≤ i → i < a + m → f i ≡ None) → first_of f a m ≡ None
all_none f a zero h = refl
all_none f a (suc m) h = both_none (f a) _ (h a (omega arith) (omega arith)) (all_none f (a + 1) m (λ i u v. h i (omega arith) (omega arith)))

-- the place of a share
shared : (x : Place) → not (is_some (share x)) ≡ false → x ≡ Filled (number (share x))
shared Empty e = cc
shared (Filled v) e = refl

made_last : (o : Option Place) (v : ℕ) → Some (Filled v) ≡ or_else o (Some Empty) → o ≡ Some (Filled v)
made_last None v e = cc
made_last (Some x) v e = sym e

last_made : (o : Option Place) (v : ℕ) (x : Place) → o ≡ Some (Filled v) → Some x ≡ or_else o (Some Empty) → x ≡ Filled v
last_made None v x e h = cc
last_made (Some y) v x e h = cc

-- the share and the number at a place
share_at : (ps : List Place) (p : ℕ) → p < length ps → get_or (map share ps) p None ≡ share (get_or ps p Empty)
share_at ps p h = get_or-map share ps p Empty None h

number_at : (ps : List Place) (p : ℕ) → p < length ps → get_or (numbers (map share ps)) p 0 ≡ number (share (get_or ps p Empty))
number_at ps p h = get_or-map number (map share ps) p None 0 (rw length-map h) ∙ ap number (share_at ps p h)

-- all places have a value, where that check passes
filled_at : (ps : List Place) → empty_fault (map share ps) ≡ None → (p : ℕ) → p < length ps → get_or ps p Empty ≡ Filled (get_or (numbers (map share ps)) p 0)
filled_at ps e p h =
    let told = map share ps in
    let k : p < 0 + length told = rw length-map (omega arith) in
    let none = first_none (λ i. when (not (is_some (get_or told i None))) (EmptyPlace i)) 0 (length told) e p (omega arith) k in
    let some : not (is_some (share (get_or ps p Empty))) ≡ false = ap (λ (o : Option ℕ). not (is_some o)) (sym (share_at ps p h)) ∙ when_none _ _ none in
    shared (get_or ps p Empty) some ∙ ap Filled (sym (number_at ps p h))

full_book : (acts : List Act) (q : ℕ) (g : Given) (ps : List Place) → Written q unopened acts (opened g ps) → length ps ≡ length g.points → empty_fault (map share ps) ≡ None → Full acts g (numbers (map share ps))
full_book acts q g ps s n e =
    record {
      open_with = sym (given_after q acts (opened g ps) s);
      count = length-map (map share ps) number ∙ length-map ps share ∙ n;
      entered = λ p h. made_last (latest p acts) _ (ap Some (sym (filled_at ps e p (omega arith))) ∙ place_after q p acts (opened g ps) s);
    }

not_refused : (items : List Candidate) (f : ListingFault) → lists items ≡ refuses (listing_refusal f) None → ⊥
not_refused items f e = let z : ◌≡◌ {A = ℕ} 0 1 = cc in omega arith

same_items : (xs ys : List Candidate) → lists xs ≡ lists ys → ys ≡ xs
same_items xs ys e = cc

recovers : (F : Numbers) (acts : List Act) (b : Book) (m w : ℕ) (items : List Candidate) (o : Option ListingFault) → Written F.q unopened acts b → listing_fault F.q b (shares b) m w ≡ o → RightList F b o (lists items) → Recovers F acts items
recovers F acts b m w items (Some f) s e l = absurd (not_refused items f l)
recovers F acts unopened m w items None s e l = absurd l.all
recovers F acts (opened g ps) m w items None s e l =
    let q = F.q in
    let told = map share ps in
    let (gathered, room) = or_else_none (gathering_fault q (length g.points) told) _ e in
    let (counted, rest) = or_else_none (count_fault (length g.points) told) _ gathered in
    let (filled, below) = or_else_none (empty_fault told) _ rest in
    record {
      g = g;
      values = numbers told;
      full = full_book acts q g ps s (fair_after q acts (opened g ps) s).count filled;
      listing = subst (Listing F g (numbers told)) (same_items items l.items l.replies) l.all;
    }

pub lists_complete : ListsComplete
lists_complete F tag lent m w cs rs b e items run s =
    recovers F (history cs rs) b m (min w lent) items (listing_fault F.q b (shares b) m (min w lent)) (run_written F.q F tag lent unopened b cs rs run) refl s.says

-- the checks of a listing pass
fits_at : (q : ℕ) (ps : List Place) (p : ℕ) → AllFit q ps → p < length ps → Fits q (get_or ps p Empty)
fits_at q [] p a h = absurd (let z : p < 0 = h in omega arith)
fits_at q (x ∷ ps) zero a h = a.0
fits_at q (x ∷ ps) (suc p) a h = fits_at q ps p a.1 (omega arith)

module _ (q : ℕ) (ps : List Place) (values : List ℕ) (has : (p : ℕ) → p < length ps → get_or ps p Empty ≡ Filled (get_or values p 0)) where
  none_empty : empty_fault (map share ps) ≡ None
  none_empty =
      all_none (λ i. when (not (is_some (get_or (map share ps) i None))) (EmptyPlace i)) 0 (length (map share ps))
      (λ i u h. let k : i < length ps = omega (arith, length-map ps share) in ap (λ (o : Option ℕ). when (not (is_some o)) (EmptyPlace i)) (share_at ps i k ∙ ap share (has i k)))

  none_beyond : AllFit q ps → element_fault q (numbers (map share ps)) ≡ None
  none_beyond a =
      all_none (λ i. when (leb q (get_or (numbers (map share ps)) i 0)) (NotAnElement i (get_or (numbers (map share ps)) i 0))) 0 (length (numbers (map share ps)))
      (λ i u h. let k : i < length ps = omega (arith, length-map ps share, length-map (map share ps) number) in when_false _ _ (is_below i k))
    where
      is_below : (i : ℕ) → i < length ps → leb q (get_or (numbers (map share ps)) i 0) ≡ false
      is_below i k =
          let v : get_or (numbers (map share ps)) i 0 ≡ get_or values i 0 = number_at ps i k ∙ ap (λ (x : Place). number (share x)) (has i k) in
          let below : get_or values i 0 < q = subst (Fits q) (has i k) (fits_at q ps i a k) in
          grind (arith, tests)

counted_right : (n : ℕ) (told : List (Option ℕ)) → length told ≡ n → count_fault n told ≡ None
counted_right n told e = when_false _ _ (ap not (eq-eqb (length told) n e))

room_enough : (n : ℕ) (x : Setting) (m w : ℕ) → x.list_limit ≤ m → work_of n x ≤ w → area_fault n x m w ≡ None
room_enough n x m w h k =
    both_none _ _ (when_false (ltb m x.list_limit) (ResultArea m) (grind (arith, tests))) (when_false (ltb w (work_of n x)) (WorkArea w) (grind (arith, tests)))

no_fault_full : (q : ℕ) (acts : List Act) (g : Given) (values : List ℕ) (ps : List Place) (m w : ℕ) → Written q unopened acts (opened g ps) → Full acts g values → g.setting.list_limit ≤ m → work_of (length g.points) g.setting ≤ w → listing_fault q (opened g ps) (map share ps) m w ≡ None
no_fault_full q acts g values ps m w s f h k =
    let fair = fair_after q acts (opened g ps) s in
    let n : length ps ≡ length g.points = fair.count in
    let has : (p : ℕ) → p < length ps → get_or ps p Empty ≡ Filled (get_or values p 0) = λ p u. last_made (latest p acts) _ _ (f.entered p (omega arith)) (place_after q p acts (opened g ps) s) in
    both_none _ _
    (both_none _ _ (counted_right (length g.points) (map share ps) (length-map ps share ∙ n)) (both_none _ _ (none_empty q ps values has) (none_beyond q ps values has fair.elements)))
    (room_enough (length g.points) g.setting m w h k)

opened_full : (q : ℕ) (acts : List Act) (g : Given) (values : List ℕ) (b : Book) (m w : ℕ) → Written q unopened acts b → Full acts g values → g.setting.list_limit ≤ m → work_of (length g.points) g.setting ≤ w → listing_fault q b (shares b) m w ≡ None
opened_full q acts g values unopened m w s f h k = let e : None ≡ Some g = given_after q acts unopened s ∙ f.open_with in cc
opened_full q acts g values (opened x ps) m w s f h k =
    let e : g ≡ x = sym (same_Some x g (given_after q acts (opened x ps) s ∙ f.open_with)) in
    subst (λ (z : Given). listing_fault q (opened z ps) (map share ps) m w ≡ None) e
    (no_fault_full q acts g values ps m w (subst (λ (z : Given). Written q unopened acts (opened z ps)) (sym e) s) f h k)

pub lists_given : ListsGiven
lists_given F tag lent m w cs rs b e r g values run s f h k =
    let all = subst (λ (o : Option ListingFault). RightList F b o r) (opened_full F.q (history cs rs) g values b m (min w lent) (run_written F.q F tag lent unopened b cs rs run) f h k) s.says in
    (all.items, all.replies)

-- each reply of a run, and the law of a whole run
true_after : (F : Numbers) (tag lent : ℕ) (cs : List Call) (rs : List Reply) (b e : Book) (c : Call) (r : Reply) → Runs F.q F tag lent unopened cs rs b → Answered F.q F tag lent b c r e → TrueAfter F lent (history cs rs) c r
true_after F tag lent cs rs b e c r run s =
    record {
      reads = λ p x u v. reads_tell F.q F tag lent p cs rs b e x run (as_said (Read p) (tells x) u v);
      complete = λ m w items u v. lists_complete F tag lent m w cs rs b e items run (as_said (ListAll m w) (lists items) u v);
      answered = λ m w g values u f h k. lists_given F tag lent m w cs rs b e r g values run (as_said (ListAll m w) r u refl) f h k;
    }
  where
    as_said : (d : Call) (t : Reply) → c ≡ d → r ≡ t → Answered F.q F tag lent b d t e
    as_said d t u v = subst (λ (z : Reply). Answered F.q F tag lent b d z e) v (subst (λ (z : Call). Answered F.q F tag lent b z r e) u s)

whole_law : (F : Numbers) (tag lent : ℕ) (cs : List Call) (rs : List Reply) (e : Book) → Runs F.q F tag lent unopened cs rs e → Law F tag lent cs rs e
whole_law F tag lent cs rs e run =
    record {
      runs = run;
      each = λ i c r h k. let u = up_to F.q F tag lent unopened e cs rs i c r run h k in true_after F tag lent _ _ u.here u.next c r u.runs u.answered;
    }

pub blank_law : (F : Numbers) (tag lent n k : ℕ) (b e : Book) (cs : List Call) (os : List (Result Outcome CallFault)) → b ≡ unopened → n ≡ k → Runs F.q F tag lent b (take n cs) (map reply (take n os)) e → Law F tag lent (take k cs) (map reply (take k os)) e
blank_law F tag lent n k b e cs os u c run =
    whole_law F tag lent _ _ e
    (subst (λ (i : ℕ). Runs F.q F tag lent unopened (take i cs) (map reply (take i os)) e) c
    (subst (λ (z : Book). Runs F.q F tag lent z (take n cs) (map reply (take n os)) e) u run))

pub same_kinds : (cs : List Call) (os : List (Result Outcome CallFault)) (n k : ℕ) → n ≡ k → EachBefits (take n cs) (take n os) → EachBefits (take k cs) (take k os)
same_kinds cs os n k e h = subst (λ (i : ℕ). EachBefits (take i cs) (take i os)) e h

pub same_rest : (xs ys : List (Result Outcome CallFault)) (n k : ℕ) → n ≡ k → drop n xs ≡ drop n ys → drop k xs ≡ drop k ys
same_rest xs ys n k e h = subst (λ (i : ℕ). drop i xs ≡ drop i ys) e h
