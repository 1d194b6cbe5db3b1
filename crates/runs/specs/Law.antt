-- The law on runs: each call is answered by the share book that the calls before it left.
-- In order: what an answer says, one call against the book, what a call leaves in the work area, and runs.
use Rattle.std.specs.Prelude.{◌≡◌, ℕ, min, List, [], ◌∷◌, take, Some, None, Ok, Err, Option, Result}
use Rattle.fields.specs.Numbers.{Numbers}
use Rattle.areas.specs.Zeros.{AllZero}
use Rattle.faults.specs.declared.Refusal.{Refusal}
use Rattle.faults.specs.declared.ListingFault.{ListingFault}
use Rattle.faults.specs.Faults.{listing_refusal}
use Rattle.codes.specs.Opening.{given}
use Rattle.collections.specs.declared.Place.{Place}
use Rattle.collections.specs.Book.{Book, unopened, opened, Act, opening, entering, withdrawing, reading, Said, done, told, refused, Right}
use Rattle.collections.specs.Standing.{shares}
use Rattle.transfer.specs.Loading.{Loads, Said as SaidLoading, done as load_done, refused as load_refused}
use Rattle.gathering.specs.Shares.{numbers}
use Rattle.candidates.specs.declared.records.Candidate.{Candidate}
use Rattle.listings.specs.Listing.{Listing}
use Rattle.listings.specs.Calls.{listing_fault}
use Rattle.runs.specs.declared.Call.{Call}
use Rattle.runs.specs.declared.Call.TheVariants.{Open, Load, Enter, Withdraw, Read, List as ListAll}
use Rattle.runs.specs.declared.Found.{Found}
use Rattle.runs.specs.declared.Outcome.{Outcome}
use Rattle.runs.specs.declared.Outcome.TheVariants.{Done, Told, Listed}
use Rattle.runs.specs.declared.CallFault.{CallFault}
use Rattle.runs.specs.Faults.{call_refusal, call_byte}

-- accepted, or told what a place has, or given the list of candidates, or refused with number, place and layer, and from loading also the sheet's byte
pub data Reply : Type 0 where
  accepted : Reply
  tells : Place → Reply
  lists : List Candidate → Reply
  refuses : Refusal → Option ℕ → Reply

abbrev pub found : Found → List Candidate
found x = take x.count x.records

abbrev pub reply : Result Outcome CallFault → Reply
reply (Ok Done) = accepted
reply (Ok (Told x)) = tells x
reply (Ok (Listed x)) = lists (found x)
reply (Err f) = refuses (call_refusal f) (call_byte f)

-- what a listing answers, as a reply
abbrev pub listing_reply : Result Found ListingFault → Reply
listing_reply (Ok x) = lists (found x)
listing_reply (Err f) = refuses (listing_refusal f) None

-- what the book says, as a reply
abbrev pub plain : Said → Reply
plain done = accepted
plain (told x) = tells x
plain (refused r f) = refuses r None

abbrev pub with_byte : SaidLoading → Reply
with_byte load_done = accepted
with_byte (load_refused r byte f) = refuses r (Some byte)

-- one act, and one loading, against the book
pub record Acted (q : ℕ) (before : Book) (act : Act) (r : Reply) (after : Book) : Type 0 where
  pub says : Said
  pub replies : r ≡ plain says
  pub right : Right q before act says after

pub record LoadedBy (q tag : ℕ) (before : Book) (bs : List ℕ) (r : Reply) (after : Book) : Type 0 where
  pub says : SaidLoading
  pub replies : r ≡ with_byte says
  pub loads : Loads q tag before bs says after

-- the items are all candidates near the shares of an open book
abbrev pub AllNear : Numbers → Book → List Candidate → Type 0
AllNear F unopened items = ⊥
AllNear F (opened g ps) items = Listing F g (numbers (shares (opened g ps))) items

pub record GivesAll (F : Numbers) (b : Book) (r : Reply) : Type 0 where
  pub items : List Candidate
  pub replies : r ≡ lists items
  pub all : AllNear F b items

-- the refusal of the fault, or else the list
abbrev pub RightList : Numbers → Book → Option ListingFault → Reply → Type 0
RightList F b (Some f) r = r ≡ refuses (listing_refusal f) None
RightList F b None r = GivesAll F b r

-- One listing against the book, with a result area of m records and a work area of w numbers: refused by the first check that applies, else all
-- candidates; the book is left as it was
pub record ListedBy (F : Numbers) (before : Book) (m w : ℕ) (r : Reply) (after : Book) : Type 0 where
  pub says : RightList F before (listing_fault F.q before (shares before) m w) r
  pub leaves : after ≡ before

-- One call against the book, in a field of q elements with the sheet number tag, where lists are over the field F and a work area of so many numbers is
-- lent. A program has q ≡ F.q; nothing that is no listing speaks of F.
abbrev pub Answered : (q : ℕ) → Numbers → (tag lent : ℕ) → Book → Call → Reply → Book → Type 0
Answered q F tag lent b (Open o) r e = Acted q b (opening (given o)) r e
Answered q F tag lent b (Load bytes) r e = LoadedBy q tag b bytes.now r e
Answered q F tag lent b (Enter p v) r e = Acted q b (entering p v) r e
Answered q F tag lent b (Withdraw p) r e = Acted q b (withdrawing p) r e
Answered q F tag lent b (Read p) r e = Acted q b (reading p) r e
Answered q F tag lent b (ListAll m w) r e = ListedBy F b m (min w lent) r e

-- only a listing works in the work area, and leaves zeros
abbrev pub WorkAfter : Call → (before after : List ℕ) → Type 0
WorkAfter (Open o) before after = after ≡ before
WorkAfter (Load bytes) before after = after ≡ before
WorkAfter (Enter p v) before after = after ≡ before
WorkAfter (Withdraw p) before after = after ≡ before
WorkAfter (Read p) before after = after ≡ before
WorkAfter (ListAll m w) before after = AllZero after

-- calls in their order, with the reply to each
pub data Runs (q : ℕ) (F : Numbers) (tag lent : ℕ) : Book → List Call → List Reply → Book → Type 0 where
  stop : {b : Book} → Runs q F tag lent b [] [] b
  go : {b m e : Book} {c : Call} {cs : List Call} {r : Reply} {rs : List Reply}
      → Answered q F tag lent b c r m → Runs q F tag lent m cs rs e → Runs q F tag lent b (c ∷ cs) (r ∷ rs) e
