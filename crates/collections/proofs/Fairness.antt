-- Every accepted call leaves a book that calls lead to.
use Rattle.std.proofs.Common.{◌≡◌, ℕ, zero, suc, ◌<◌, Bool, true, false, leb, List, [], ◌∷◌, length, set, replicate, Some, None, Option, sym, refl, ◌∙◌, subst, arith, length-set, leb-false}
use lib.ListN.{length-replicate}
use Rattle.faults.specs.declared.CodeFault.{CodeFault}
use Rattle.faults.specs.declared.CollectionFault.{CollectionFault}
use Rattle.faults.specs.declared.CollectionFault.TheVariants.{NotAnElement, AlreadyOpen}
use Rattle.codes.specs.First.{or_else, when}
use Rattle.codes.specs.Opening.{Given, first_fault}
use Rattle.collections.specs.declared.Place.{Place}
use Rattle.collections.specs.declared.Place.TheVariants.{Empty, Filled}
use Rattle.collections.specs.Book.{Book, unopened, opened, Act, opening, entering, withdrawing, reading, blank_check, of_code, place_check, place_in, number_check, other_check, check, writes, left_by, Said, Right, Fits, AllFit, FairPage, Fair}

pub no_fault : {E : Type 0} (f : E) → Some f ≡ None → ⊥
no_fault f e = let z : ◌≡◌ {A = ℕ} 0 1 = cc in omega arith

-- no check applies, so neither of two does
pub neither_left : {E : Type 0} (a b : Option E) → or_else a b ≡ None → a ≡ None
neither_left None b e = refl
neither_left (Some f) b e = absurd (no_fault f e)

pub neither_right : {E : Type 0} (a b : Option E) → or_else a b ≡ None → b ≡ None
neither_right None b e = e
neither_right (Some f) b e = absurd (no_fault f e)

pub test_failed : {E : Type 0} (t : Bool) (f : E) → when t f ≡ None → t ≡ false
test_failed true f e = absurd (no_fault f e)
test_failed false f e = refl

pub code_passed : (o : Option CodeFault) → of_code o ≡ None → o ≡ None
code_passed None e = refl
code_passed (Some f) e = cc

-- an entered value is below q
pub below : (q : ℕ) (b : Book) (p v : ℕ) → check q b (entering p v) ≡ None → v < q
below q b p v e =
    let rest = or_else (number_check q p v) (other_check p v (place_in b p)) in
    let later : rest ≡ None = neither_right (place_check b p) rest e in
    leb-false q v (test_failed (leb q v) (NotAnElement p v) (neither_left (number_check q p v) (other_check p v (place_in b p)) later))

fit_set : (q : ℕ) (ps : List Place) (p : ℕ) (x : Place) → Fits q x → AllFit q ps → AllFit q (set ps p x)
fit_set q [] p x h a = a
fit_set q (y ∷ ps) zero x h a = (h, a.1)
fit_set q (y ∷ ps) (suc p) x h a = (a.0, fit_set q ps p x h a.1)

fit_none : (q n : ℕ) → AllFit q (replicate n Empty)
fit_none q zero = tt
fit_none q (suc n) = (tt, fit_none q n)

fair_set : (q : ℕ) (g : Given) (ps : List Place) (p : ℕ) (x : Place) → Fits q x → FairPage q g ps → FairPage q g (set ps p x)
fair_set q g ps p x h f = record { passed = f.passed; count = length-set ps p x ∙ f.count; elements = fit_set q ps p x h f.elements }

pub fair_writes : (q : ℕ) (b : Book) (act : Act) → check q b act ≡ None → Fair q b → Fair q (writes b act)
fair_writes q unopened (opening g) e f = record {
  passed = code_passed (first_fault q g) (neither_right (blank_check unopened) (of_code (first_fault q g)) e);
  count = length-replicate (length g.points) Empty;
  elements = fit_none q (length g.points);
}
fair_writes q (opened h ps) (opening g) e f = absurd (no_fault AlreadyOpen e)
fair_writes q unopened (entering p v) e f = tt
fair_writes q (opened g ps) (entering p v) e f = fair_set q g ps p (Filled v) (below q (opened g ps) p v e) f
fair_writes q unopened (withdrawing p) e f = tt
fair_writes q (opened g ps) (withdrawing p) e f = fair_set q g ps p Empty tt f
fair_writes q b (reading p) e f = f

by_check : (q : ℕ) (b : Book) (act : Act) (o : Option CollectionFault) → check q b act ≡ o → Fair q b → Fair q (left_by o (writes b act) b)
by_check q b act None e f = fair_writes q b act e f
by_check q b act (Some r) e f = f

pub fair_kept : (q : ℕ) (b : Book) (act : Act) (a : Said) (e : Book) → Right q b act a e → Fair q b → Fair q e
fair_kept q b act a e r f = subst (Fair q) (sym r.leaves) (by_check q b act (check q b act) refl f)
