-- What two replies, to a loading on a blank collection and to a listing after it, tell by the law on runs.
use Rattle.std.proofs.Common.{◌≡◌, ℕ, min, List, [], ◌∷◌, map, length, get_or, take, Some, None, Option, Result, sym, refl, ap, ◌∙◌, subst, arith, Bor, Ok, Err, IfErr, ◌⊎◌, ⊎_elim}
use Rattle.fields.specs.Numbers.{Numbers}
use Rattle.faults.specs.declared.ListingFault.{ListingFault}
use Rattle.faults.specs.declared.SheetFault.{SheetFault}
use Rattle.collections.specs.Book.{Book, unopened}
use Rattle.collections.specs.Standing.{shares}
use Rattle.transfer.specs.Loading.{load_fault, loaded, said_by, left_by}
use Rattle.listings.specs.Calls.{listing_fault}
use Rattle.runs.specs.declared.Call.{Call}
use Rattle.runs.specs.declared.Call.TheVariants.{Load, List as ListAll}
use Rattle.runs.specs.declared.CallFault.{CallFault}
use Rattle.runs.specs.declared.CallFault.TheVariants.{Collection, Sheet, Listing}
use Rattle.runs.specs.declared.Outcome.{Outcome}
use Rattle.runs.specs.Kinds.{OfSheet, OfListing, Befits, EachBefits}
use Rattle.runs.specs.Law.{Reply, reply, with_byte, RightList, Answered, Runs, stop, go}
use Rattle.console.specs.declared.Listed.{Listed}
use Rattle.console.specs.Output.{PrintsListing, PrintsLoading, PrintsSheet}
use Rattle.console.specs.Replies.{reply_text, answers_text, ToListing}
use Rattle.console.specs.Reports.{OfSheetOrListing}

-- the book between two calls
pub record Between (F : Numbers) (tag lent : ℕ) (b : Book) (c d : Call) (r s : Reply) (e : Book) : Type 0 where
  pub book : Book
  pub first : Answered F.q F tag lent b c r book
  pub second : Answered F.q F tag lent book d s e

between : {F : Numbers} {tag lent : ℕ} {b e : Book} {c d : Call} {r s : Reply} → Runs F.q F tag lent b (c ∷ d ∷ []) (r ∷ s ∷ []) e → Between F tag lent b c d r s e
between (go {m = m} x (go y stop)) = record { book = m; first = x; second = y }

-- the replies in an area of two
two_replies : (xs : List (Result Outcome CallFault)) (d : Result Outcome CallFault) → length xs ≡ 2 → map reply (take 2 xs) ≡ reply (get_or xs 0 d) ∷ reply (get_or xs 1 d) ∷ []
two_replies [] d h = absurd (omega arith)
two_replies (a ∷ []) d h = absurd (omega arith)
two_replies (a ∷ b ∷ xs) d h = refl

module _ (F : Numbers) (b : Book) where
  to_listing : (o : Option ListingFault) (r : Reply) → RightList F b o r → ToListing r
  to_listing None r h = subst ToListing (sym h.replies) tt
  to_listing (Some f) r h = subst ToListing (sym h) tt

  lists_so : (k n : ℕ) (o : Option ListingFault) (r : Reply) → RightList F b o r → PrintsListing F k n b o (reply_text k n r)
  lists_so k n None r h = (h.items, h.all, ap (reply_text k n) h.replies)
  lists_so k n (Some f) r h = ap (reply_text k n) h

module _ (F : Numbers) (k n w : ℕ) (bs : List ℕ) where
  loads_so : (o : Option SheetFault) (m : Book) (r s : Reply) → r ≡ with_byte (said_by o) → m ≡ left_by o (loaded unopened bs) unopened
      → RightList F m (listing_fault F.q m (shares m) 8 w) s → PrintsLoading F k n w bs o (answers_text k n r s)
  loads_so (Some f) m r s e l h = ap (λ x. answers_text k n x s) e
  loads_so None m r s e l h =
      subst (λ (x : Reply). PrintsListing F k n (loaded unopened bs) (listing_fault F.q (loaded unopened bs) (shares (loaded unopened bs)) 8 w) (answers_text k n x s)) (sym e)
      (lists_so F (loaded unopened bs) k n _ s (subst (λ (x : Book). RightList F x (listing_fault F.q x (shares x) 8 w) s) l h))

-- after a run of both calls: what the answers say is what is to be printed
pub record Told (F : Numbers) (tag k n w : ℕ) (bs : List ℕ) (loading listing : Reply) : Type 0 where
  pub listed : ToListing listing
  pub prints : PrintsSheet F tag k n w bs (answers_text k n loading listing)

told_between : (F : Numbers) (tag lent k n : ℕ) (bytes : Bor (List ℕ)) (e : Book) (r s : Reply)
    → Between F tag lent unopened (Load bytes) (ListAll 8 32000) r s e → Told F tag k n (min 32000 lent) bytes.now r s
told_between F tag lent k n bytes e r s b =
    let l = b.first in
    record {
      listed = to_listing F b.book _ s b.second.says;
      prints =
          loads_so F k n (min 32000 lent) bytes.now (load_fault F.q tag unopened bytes.now) b.book r s (l.replies ∙ ap with_byte l.loads.answers) l.loads.leaves
          b.second.says;
    }

pub told : (F : Numbers) (tag lent k n : ℕ) (bytes : Bor (List ℕ)) (e : Book) (answers : List (Result Outcome CallFault)) (d : Result Outcome CallFault) → length answers ≡ 2
    → Runs F.q F tag lent unopened (Load bytes ∷ ListAll 8 32000 ∷ []) (map reply (take 2 answers)) e
    → Told F tag k n (min 32000 lent) bytes.now (reply (get_or answers 0 d)) (reply (get_or answers 1 d))
told F tag lent k n bytes e answers d h run =
    told_between F tag lent k n bytes e _ _
    (between (subst (λ (rs : List Reply). Runs F.q F tag lent unopened (Load bytes ∷ ListAll 8 32000 ∷ []) rs e) (two_replies answers d h) run))

pub printed : {F : Numbers} {tag k n w : ℕ} {bs : List ℕ} {r s : Reply} (text : List ℕ) → text ≡ answers_text k n r s → Told F tag k n w bs r s
    → PrintsSheet F tag k n w bs text
printed {F} {tag} {k} {n} {w} {bs} text e t = subst (PrintsSheet F tag k n w bs) (sym e) t.prints

-- the two answers in the area befit their calls; so a fault that is one of theirs is the sheet's or the listing's
pub two_befit : (bytes : Bor (List ℕ)) (answers : List (Result Outcome CallFault)) (d : Result Outcome CallFault) → length answers ≡ 2
    → EachBefits (Load bytes ∷ ListAll 8 32000 ∷ []) (take 2 answers)
    → Befits (Load bytes) (get_or answers 0 d) × Befits (ListAll 8 32000) (get_or answers 1 d)
two_befit bytes [] d h e = absurd (omega arith)
two_befit bytes (a ∷ []) d h e = absurd (omega arith)
two_befit bytes (a ∷ b ∷ xs) d h e = (e 0 (Load bytes) a refl refl, e 1 (ListAll 8 32000) b refl refl)

of_sheet : (f : CallFault) → OfSheet f → OfSheetOrListing f
of_sheet (Collection f) h = h
of_sheet (Sheet f) h = h
of_sheet (Listing f) h = tt

of_listing : (f : CallFault) → OfListing f → OfSheetOrListing f
of_listing (Collection f) h = h
of_listing (Sheet f) h = tt
of_listing (Listing f) h = h

pub of_either : (r : Result Listed CallFault) (bytes : Bor (List ℕ)) (a b : Result Outcome CallFault) → IfErr r (λ f. (a ≡ Err f) ⊎ (b ≡ Err f))
    → Befits (Load bytes) a → Befits (ListAll 8 32000) b → IfErr r OfSheetOrListing
of_either (Ok x) bytes a b h s l = tt
of_either (Err f) bytes a b h s l =
    ⊎_elim (λ (e : a ≡ Err f). of_sheet f (subst (Befits (Load bytes)) e s)) (λ (e : b ≡ Err f). of_listing f (subst (Befits (ListAll 8 32000)) e l)) h
