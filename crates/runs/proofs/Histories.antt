-- A run writes the acts of its history, one after another, and none of them is refused. So what a book shows after a run is what the latest act about it said.
use Rattle.std.proofs.Common.{◌≡◌, ℕ, zero, suc, ◌<◌, Bool, true, false, cond, eqb, leb, List, [], ◌∷◌, ◌++◌, length, get_or, set, replicate, Some, None, Option, unwrap_or, sym, refl, ap, ◌∙◌, subst, ⊎_elim, get_or-set_other, get_or-set_same, eq-eqb, ne_eqb, leb-false}
use Rattle.std.proofs.lemmas.Bool.{cases_eq}
use Rattle.fields.specs.Numbers.{Numbers}
use Rattle.faults.specs.declared.CollectionFault.{CollectionFault}
use Rattle.faults.specs.declared.CollectionFault.TheVariants.{Blank, NoSuchPlace}
use Rattle.faults.specs.declared.SheetFault.{SheetFault}
use Rattle.faults.specs.declared.SheetFault.TheVariants.{Collection}
use Rattle.faults.specs.Faults.{collection_refusal}
use Rattle.codes.specs.First.{or_else, when, mapped}
use Rattle.codes.specs.Opening.{Given, given}
use Rattle.codes.proofs.Firsts.{mapped_none}
use Rattle.collections.specs.declared.Place.{Place}
use Rattle.collections.specs.declared.Place.TheVariants.{Empty, Filled}
use Rattle.collections.specs.Book.{Book, unopened, opened, Act, opening, entering, withdrawing, reading, place_check, place_in, check, writes, accepts, said_by, left_by, Said, done, told, Fair}
use Rattle.collections.proofs.Fairness.{no_fault, neither_left, neither_right, test_failed, fair_writes}
use Rattle.sheets.specs.Sheet.{sheet_of, header_fault, field_fault}
use Rattle.transfer.specs.Loading.{acts_of, first_refused, all_written, load_fault, loaded, said_by as said_loading, left_by as left_loading}
use Rattle.runs.specs.declared.Call.{Call}
use Rattle.runs.specs.declared.Call.TheVariants.{Open, Load, Enter, Withdraw, Read, List as ListAll}
use Rattle.runs.specs.Law.{Reply, accepted, tells, refuses, plain, with_byte, Acted, LoadedBy, Answered, Runs, stop, go}
use Rattle.runs.specs.History.{acts_in, is_accepted, history, last_said, makes, latest, gives, given_by, ReadsTell}

-- acts that lead from one book to another, none of them refused
pub record Written (q : ℕ) (before : Book) (acts : List Act) (after : Book) : Type 0 where
  pub passed : first_refused q before acts ≡ None
  pub leaves : after ≡ all_written before acts

pub more : (q : ℕ) (b m e : Book) (xs ys : List Act) → Written q b xs m → Written q m ys e → Written q b (xs ++ ys) e
more q b m e [] ys s t = subst (λ (z : Book). Written q z ys e) s.leaves t
more q b m e (a ∷ xs) ys s t =
    let rest = first_refused q (writes b a) xs in
    let r = more q (writes b a) m e xs ys (record { passed = neither_right (check q b a) rest s.passed; leaves = s.leaves }) t in
    record {
      passed =
          ap (λ (o : Option CollectionFault). or_else o (first_refused q (writes b a) (xs ++ ys))) (neither_left (check q b a) rest s.passed) ∙ r.passed;
      leaves = r.leaves;
    }

-- what a reply counts for
abbrev done_in : List Act → Reply → List Act
done_in acts r = cond (is_accepted r) acts []

by_reply : (q : ℕ) (b : Book) (acts : List Act) (e : Book) (r s : Reply) → r ≡ s → Written q b (done_in acts s) e → Written q b (done_in acts r) e
by_reply q b acts e r s h = subst (λ (y : Reply). Written q b (done_in acts y) e) (sym h)

-- nothing is asked, and nothing changes
stays : (q : ℕ) (b e : Book) (t : Bool) → e ≡ b → Written q b (cond t [] []) e
stays q b e true h = record { passed = refl; leaves = h }
stays q b e false h = record { passed = refl; leaves = h }

-- an act that says done
act_by : (q : ℕ) (b : Book) (a : Act) (o : Option CollectionFault) (e : Book) → accepts b a ≡ done → check q b a ≡ o → e ≡ left_by o (writes b a) b
    → Written q b (done_in (a ∷ []) (plain (said_by o (accepts b a)))) e
act_by q b a None e d h l =
    by_reply q b (a ∷ []) e (plain (accepts b a)) accepted (ap plain d)
    (record { passed = ap (λ (o : Option CollectionFault). or_else o None) h; leaves = l })
act_by q b a (Some f) e d h l = record { passed = refl; leaves = l }

acted : (q : ℕ) (b : Book) (a : Act) (r : Reply) (e : Book) → accepts b a ≡ done → Acted q b a r e → Written q b (done_in (a ∷ []) r) e
acted q b a r e d s =
    by_reply q b (a ∷ []) e r _ (s.replies ∙ ap plain s.right.answers) (act_by q b a (check q b a) e d refl s.right.leaves)

left_same : (o : Option CollectionFault) (b : Book) → left_by o b b ≡ b
left_same None b = refl
left_same (Some f) b = refl

-- a loading
load_passed : (q tag : ℕ) (b : Book) (bs : List ℕ) → load_fault q tag b bs ≡ None → first_refused q b (acts_of (sheet_of bs)) ≡ None
load_passed q tag b bs e =
    let s = sheet_of bs in
    let last = mapped Collection (first_refused q b (acts_of s)) in
    let later : or_else (field_fault tag s) last ≡ None = neither_right (header_fault bs) (or_else (field_fault tag s) last) e in
    mapped_none Collection (first_refused q b (acts_of s)) (neither_right (field_fault tag s) last later)

load_by : (q tag : ℕ) (b : Book) (bs : List ℕ) (o : Option SheetFault) (e : Book) → load_fault q tag b bs ≡ o → e ≡ left_loading o (loaded b bs) b
    → Written q b (done_in (acts_of (sheet_of bs)) (with_byte (said_loading o))) e
load_by q tag b bs None e h l = record { passed = load_passed q tag b bs h; leaves = l }
load_by q tag b bs (Some f) e h l = record { passed = refl; leaves = l }

loads : (q tag : ℕ) (b : Book) (bs : List ℕ) (r : Reply) (e : Book) → LoadedBy q tag b bs r e → Written q b (done_in (acts_of (sheet_of bs)) r) e
loads q tag b bs r e s =
    by_reply q b (acts_of (sheet_of bs)) e r _ (s.replies ∙ ap with_byte s.loads.answers)
    (load_by q tag b bs (load_fault q tag b bs) e refl s.loads.leaves)

-- one call, and a run
one : (q : ℕ) (F : Numbers) (tag lent : ℕ) (b : Book) (c : Call) (r : Reply) (e : Book) → Answered q F tag lent b c r e → Written q b (done_in (acts_in c) r) e
one q F tag lent b (Open o) r e s = acted q b (opening (given o)) r e refl s
one q F tag lent b (Load bytes) r e s = loads q tag b bytes.now r e s
one q F tag lent b (Enter i v) r e s = acted q b (entering i v) r e refl s
one q F tag lent b (Withdraw i) r e s = acted q b (withdrawing i) r e refl s
one q F tag lent b (Read i) r e s = stays q b e (is_accepted r) (s.right.leaves ∙ left_same (check q b (reading i)) b)
one q F tag lent b (ListAll m w) r e s = stays q b e (is_accepted r) s.leaves

pub run_written : (q : ℕ) (F : Numbers) (tag lent : ℕ) (b e : Book) (cs : List Call) (rs : List Reply) → Runs q F tag lent b cs rs e → Written q b (history cs rs) e
run_written q F tag lent b e cs rs stop = record { passed = refl; leaves = refl }
run_written q F tag lent b e cs rs (go {m = m} {c} {cs = ds} {r} {rs = qs} st run) =
    more q b m e (done_in (acts_in c) r) (history ds qs) (one q F tag lent b c r m st) (run_written q F tag lent m e ds qs run)

-- acts keep a book fair
fair_acts : (q : ℕ) (b : Book) (acts : List Act) → first_refused q b acts ≡ None → Fair q b → Fair q (all_written b acts)
fair_acts q b [] h f = f
fair_acts q b (a ∷ acts) h f =
    let rest = first_refused q (writes b a) acts in
    fair_acts q (writes b a) acts (neither_right (check q b a) rest h) (fair_writes q b a (neither_left (check q b a) rest h) f)

pub fair_after : (q : ℕ) (acts : List Act) (e : Book) → Written q unopened acts e → Fair q e
fair_after q acts e s = subst (Fair q) (sym s.leaves) (fair_acts q unopened acts s.passed tt)

-- what a book shows, where each act that is not refused says what is shown after it
else_assoc : {X : Type 0} (x y z : Option X) → or_else x (or_else y z) ≡ or_else (or_else x y) z
else_assoc None y z = refl
else_assoc (Some v) y z = refl

module _ {X : Type 0} (q : ℕ) (shows : Book → Option X) (says : Act → Option X)
    (step : (b : Book) (a : Act) → check q b a ≡ None → shows (writes b a) ≡ or_else (says a) (shows b)) where
  shown : (b : Book) (acts : List Act) → first_refused q b acts ≡ None → shows (all_written b acts) ≡ or_else (last_said says acts) (shows b)
  shown b [] h = refl
  shown b (a ∷ acts) h =
      let rest = first_refused q (writes b a) acts in
      shown (writes b a) acts (neither_right (check q b a) rest h)
      ∙ ap (or_else (last_said says acts)) (step b a (neither_left (check q b a) rest h))
      ∙ else_assoc (last_said says acts) (says a) (shows b)

  pub shown_after : (b e : Book) (acts : List Act) → Written q b acts e → shows e ≡ or_else (last_said says acts) (shows b)
  shown_after b e acts s = ap shows s.leaves ∙ shown b acts s.passed

-- the place p
nones : (n p : ℕ) → get_or {A = Place} (replicate n Empty) p Empty ≡ Empty
nones zero p = refl
nones (suc n) zero = refl
nones (suc n) (suc p) = nones n p

at_set : (ps : List Place) (i p : ℕ) (x : Place) → i < length ps → Some (get_or (set ps i x) p Empty) ≡ or_else (when (eqb i p) x) (Some (get_or ps p Empty))
at_set ps i p x h =
    ⊎_elim
    (λ (e : i ≡ p). rw (eq-eqb i p e, ← e) (ap Some (get_or-set_same ps i x Empty h)))
    (λ (d : i ≡ p → ⊥). rw (ne_eqb i p d) (ap Some (get_or-set_other ps i p x Empty (λ f. d (sym f)))))
    (cases_eq i p)

within : (g : Given) (ps : List Place) (i : ℕ) (rest : Option CollectionFault) → or_else (place_check (opened g ps) i) rest ≡ None → i < length ps
within g ps i rest e = leb-false (length ps) i (test_failed (leb (length ps) i) (NoSuchPlace i) (neither_left (place_check (opened g ps) i) rest e))

place_step : (q p : ℕ) (b : Book) (a : Act) → check q b a ≡ None → Some (place_in (writes b a) p) ≡ or_else (makes p a) (Some (place_in b p))
place_step q p b (opening g) e = ap Some (nones (length g.points) p)
place_step q p unopened (entering i v) e = absurd (no_fault Blank e)
place_step q p (opened g ps) (entering i v) e = at_set ps i p (Filled v) (within g ps i _ e)
place_step q p unopened (withdrawing i) e = absurd (no_fault Blank e)
place_step q p (opened g ps) (withdrawing i) e = at_set ps i p Empty (within g ps i _ e)
place_step q p b (reading i) e = refl

pub place_after : (q p : ℕ) (acts : List Act) (e : Book) → Written q unopened acts e → Some (place_in e p) ≡ or_else (latest p acts) (Some Empty)
place_after q p acts e s = shown_after q (λ b. Some (place_in b p)) (makes p) (place_step q p) unopened e acts s

-- what the book was opened with
abbrev pub given_in : Book → Option Given
given_in unopened = None
given_in (opened g ps) = Some g

given_step : (q : ℕ) (b : Book) (a : Act) → check q b a ≡ None → given_in (writes b a) ≡ or_else (gives a) (given_in b)
given_step q b (opening g) e = refl
given_step q unopened (entering i v) e = refl
given_step q (opened g ps) (entering i v) e = refl
given_step q unopened (withdrawing i) e = refl
given_step q (opened g ps) (withdrawing i) e = refl
given_step q b (reading i) e = refl

else_none : {X : Type 0} (o : Option X) → or_else o None ≡ o
else_none None = refl
else_none (Some x) = refl

-- what the latest of two lists of acts says: that of the second, and where it says nothing that of the first
latest_more : (p : ℕ) (xs ys : List Act) → latest p (xs ++ ys) ≡ or_else (latest p ys) (latest p xs)
latest_more p [] ys = sym (else_none (latest p ys))
latest_more p (a ∷ xs) ys =
    ap (λ (o : Option Place). or_else o (makes p a)) (latest_more p xs ys) ∙ sym (else_assoc (latest p ys) (latest p xs) (makes p a))

pub given_after : (q : ℕ) (acts : List Act) (e : Book) → Written q unopened acts e → given_in e ≡ given_by acts
given_after q acts e s = shown_after q given_in gives (given_step q) unopened e acts s ∙ else_none (given_by acts)

-- a reading
told_same : (x y : Place) → tells x ≡ tells y → x ≡ y
told_same x y e = cc

told_refused : (x y : Place) (f : CollectionFault) → tells x ≡ refuses (collection_refusal f) None → x ≡ y
told_refused x y f e = cc

tells_it : (x y : Place) (s : Said) (o : Option CollectionFault) → tells x ≡ plain s → s ≡ said_by o (told y) → x ≡ y
tells_it x y s None e h = told_same x y (e ∙ ap plain h)
tells_it x y s (Some f) e h = told_refused x y f (e ∙ ap plain h)

value_is : (x y : Place) (o : Option Place) → Some x ≡ or_else o (Some y) → x ≡ unwrap_or o y
value_is x y None e = cc
value_is x y (Some z) e = cc

pub reads_tell : ReadsTell
reads_tell q F tag lent p cs rs b e x run s =
    tells_it x (place_in b p) s.says (check q b (reading p)) s.replies s.right.answers
    ∙ value_is (place_in b p) Empty (latest p (history cs rs)) (place_after q p (history cs rs) b (run_written q F tag lent unopened b cs rs run))
