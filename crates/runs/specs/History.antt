-- The law on runs in the words of the subject, by the history of what was accepted: an accepted loading counts as the opening and the enterings of its sheet.
-- In order: the history; what the latest acts say; what a reading and a listing tell, as theorems about any run; and the law of a whole run.
use Rattle.std.specs.Prelude.{◌≡◌, ℕ, ◌<◌, ◌≤◌, min, Bool, true, false, cond, List, [], ◌∷◌, ◌++◌, length, take, Some, None, Option, ◌==◌, slice_index}
use Rattle.std.specs.List.{slice_get}
use Rattle.std.specs.Option.{unwrap_or}
use Rattle.fields.specs.Numbers.{Numbers}
use Rattle.codes.specs.First.{or_else, when}
use Rattle.codes.specs.Opening.{Given, given}
use Rattle.collections.specs.declared.Place.{Place}
use Rattle.collections.specs.declared.Place.TheVariants.{Empty, Filled}
use Rattle.collections.specs.Book.{Book, unopened, Act, opening, entering, withdrawing, reading}
use Rattle.sheets.specs.Sheet.{sheet_of}
use Rattle.transfer.specs.Loading.{acts_of}
use Rattle.interpolating.specs.Interpolation.{work_of}
use Rattle.candidates.specs.declared.records.Candidate.{Candidate}
use Rattle.listings.specs.Listing.{Listing}
use Rattle.runs.specs.declared.Call.{Call}
use Rattle.runs.specs.declared.Call.TheVariants.{Open, Load, Enter, Withdraw, Read, List as ListAll}
use Rattle.runs.specs.Law.{Reply, accepted, tells, lists, refuses, Answered, Runs}

-- the acts that a call asks for
abbrev pub acts_in : Call → List Act
acts_in (Open o) = opening (given o) ∷ []
acts_in (Load bytes) = acts_of (sheet_of bytes.now)
acts_in (Enter p v) = entering p v ∷ []
acts_in (Withdraw p) = withdrawing p ∷ []
acts_in (Read p) = []
acts_in (ListAll m w) = []

abbrev pub is_accepted : Reply → Bool
is_accepted accepted = true
is_accepted (tells x) = false
is_accepted (lists items) = false
is_accepted (refuses r byte) = false

-- the acts of the calls that were accepted, in order
abbrev pub history : List Call → List Reply → List Act
history [] rs = []
history (c ∷ cs) [] = []
history (c ∷ cs) (r ∷ rs) = cond (is_accepted r) (acts_in c) [] ++ history cs rs

-- what the latest of the acts that say something says
abbrev pub last_said : {X : Type 0} → (Act → Option X) → List Act → Option X
last_said says [] = None
last_said says (a ∷ acts) = or_else (last_said says acts) (says a)

-- what an act makes of place p, if it is about p
abbrev pub makes : ℕ → Act → Option Place
makes p (opening g) = Some Empty
makes p (entering i v) = when (i == p) (Filled v)
makes p (withdrawing i) = when (i == p) Empty
makes p (reading i) = None

-- what the latest act about p made of it
abbrev pub latest : ℕ → List Act → Option Place
latest p acts = last_said (makes p) acts

-- what an opening gives
abbrev pub gives : Act → Option Given
gives (opening g) = Some g
gives (entering i v) = None
gives (withdrawing i) = None
gives (reading i) = None

abbrev pub given_by : List Act → Option Given
given_by acts = last_said gives acts

-- after the acts there is an opening with g, and at each place a value that was entered and not withdrawn since
pub record Full (acts : List Act) (g : Given) (values : List ℕ) : Type 0 where
  pub open_with : given_by acts ≡ Some g
  pub count : length values ≡ length g.points
  pub entered : (p : ℕ) → p < length g.points → latest p acts ≡ Some (Filled (slice_index values p))

-- the items are the records of all messages whose codewords are near those values, in order and each once
pub record Recovers (F : Numbers) (acts : List Act) (items : List Candidate) : Type 0 where
  pub g : Given
  pub values : List ℕ
  pub full : Full acts g values
  pub listing : Listing F g values items

-- After any run on a blank collection: a reading tells what the latest act at its place left there.
abbrev pub ReadsTell : Type 0
ReadsTell =
    (q : ℕ) (F : Numbers) (tag lent p : ℕ) (cs : List Call) (rs : List Reply) (b e : Book) (x : Place)
    → Runs q F tag lent unopened cs rs b → Answered q F tag lent b (Read p) (tells x) e → x ≡ unwrap_or (latest p (history cs rs)) Empty

-- A list that is given has all candidates that are near the values entered and not withdrawn since, and no others.
abbrev pub ListsComplete : Type 0
ListsComplete =
    (F : Numbers) (tag lent m w : ℕ) (cs : List Call) (rs : List Reply) (b e : Book) (items : List Candidate)
    → Runs F.q F tag lent unopened cs rs b → Answered F.q F tag lent b (ListAll m w) (lists items) e → Recovers F (history cs rs) items

-- A list is given whenever every place has a value, the result area has room for ℓ records, and the work area has what the setting needs.
abbrev pub ListsGiven : Type 0
ListsGiven =
    (F : Numbers) (tag lent m w : ℕ) (cs : List Call) (rs : List Reply) (b e : Book) (r : Reply) (g : Given) (values : List ℕ)
    → Runs F.q F tag lent unopened cs rs b → Answered F.q F tag lent b (ListAll m w) r e
    → Full (history cs rs) g values → g.setting.list_limit ≤ m → work_of (length g.points) g.setting ≤ min w lent
    → (items : List Candidate) × (r ≡ lists items)

-- the same of one call and its reply, after the acts before it
pub record TrueAfter (F : Numbers) (lent : ℕ) (acts : List Act) (c : Call) (r : Reply) : Type 0 where
  pub reads : (p : ℕ) (x : Place) → c ≡ Read p → r ≡ tells x → x ≡ unwrap_or (latest p acts) Empty
  pub complete : (m w : ℕ) (items : List Candidate) → c ≡ ListAll m w → r ≡ lists items → Recovers F acts items
  pub answered : (m w : ℕ) (g : Given) (values : List ℕ) → c ≡ ListAll m w → Full acts g values
      → g.setting.list_limit ≤ m → work_of (length g.points) g.setting ≤ min w lent → (items : List Candidate) × (r ≡ lists items)

-- The whole law of a run on a blank collection, whatever the calls: each call is answered by the book that the calls before it left, and each reading and
-- listing tells the truth about the history before it.
pub record Law (F : Numbers) (tag lent : ℕ) (cs : List Call) (rs : List Reply) (after : Book) : Type 0 where
  pub runs : Runs F.q F tag lent unopened cs rs after
  pub each : (i : ℕ) (c : Call) (r : Reply) → slice_get cs i ≡ Some c → slice_get rs i ≡ Some r → TrueAfter F lent (history (take i cs) (take i rs)) c r
