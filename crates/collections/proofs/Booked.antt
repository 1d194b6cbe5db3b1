-- What each way through a call on a collection is to the book.
use Rattle.std.proofs.Common.{◌≡◌, ℕ, zero, suc, ◌<◌, ◌≤◌, Bool, true, false, not, leb, List, [], ◌∷◌, map, length, get_or, take, set, replicate, Some, None, Ok, Option, unwrap_or, sym, refl, ap, ◌∙◌, arith, length-take, eq-eqb, leb-true}
use lib.Seq.{set-get_or}
use borrow.Author.Tests.{lt-leb}
use Rattle.std.proofs.lemmas.List.{get_or-take, get_or_past, length-map, take-replicate}
use Rattle.faults.specs.declared.CollectionFault.{CollectionFault}
use Rattle.faults.specs.declared.CollectionFault.TheVariants.{NoSuchPlace, OtherValue, NotAnElement}
use Rattle.codes.specs.declared.Setting.{Setting}
use Rattle.codes.specs.First.{or_else, when}
use Rattle.codes.specs.Opening.{Given, first_fault, Holds}
use Rattle.collections.specs.declared.Place.{Place}
use Rattle.collections.specs.declared.Place.TheVariants.{Empty, Filled}
use Rattle.collections.specs.declared.Opened.{Opened}
use Rattle.collections.specs.declared.Page.{Page}
use Rattle.collections.specs.declared.Kept.{Kept}
use Rattle.collections.specs.Book.{Book, unopened, opened, Act, places_in, opening, entering, withdrawing, blank_check, of_code, place_check, place_in, number_check, other_check, nothing_check, check, writes, putting, accepts, said_by, left_by, done, Right}
use Rattle.collections.specs.Standing.{given_of, page, opened_in, standing, share, shares, TellsPlace}

-- an accepted call
pub takes : (q : ℕ) (b : Book) (act : Act) (e : Book) → check q b act ≡ None → e ≡ writes b act → Right q b act (accepts b act) e
takes q b act e h w = record {
  answers = sym (ap (λ (o : Option CollectionFault). said_by o (accepts b act)) h);
  leaves = w ∙ sym (ap (λ (o : Option CollectionFault). left_by o (writes b act) b) h);
}

-- what is written at a place of the collection is written at that place of the book
take_set : {A : Type 0} (n : ℕ) (xs : List A) (p : ℕ) (x : A) → take n (set xs p x) ≡ set (take n xs) p x
take_set zero xs p x = refl
take_set (suc n) [] p x = refl
take_set (suc n) (y ∷ ys) zero x = refl
take_set (suc n) (y ∷ ys) (suc p) x = ap (λ l. y ∷ l) (take_set n ys p x)

pub page_put : (o : Opened) (at new : List Place) (p : ℕ) (x : Place) → new ≡ set at p x
    → opened (given_of o) (take o.code.count new) ≡ putting (opened (given_of o) (take o.code.count at)) p x
page_put o at new p x e = ap (opened (given_of o)) (ap (take o.code.count) e ∙ take_set o.code.count at p x)

opened_same : (p o : Opened) → Some p ≡ Some o → p ≡ o
opened_same p o e = ap (λ (s : Option Opened). unwrap_or s p) e

-- the book of a collection that was opened with o
pub on_page : (p : Option Page) (o : Opened) → opened_in p ≡ Some o → page p ≡ opened (given_of o) (places_in (page p))
on_page None o e = cc
on_page (Some p) o e =
    ap (λ (x : Opened). opened (given_of x) (take p.opened.code.count p.places.at)) (opened_same p.opened o e)

put_same : (b : Book) (p : ℕ) (x : Place) → x ≡ place_in b p → b ≡ putting b p x
put_same unopened p x e = refl
put_same (opened g ps) p x e = ap (opened g) (sym (ap (set ps p) e ∙ set-get_or ps p Empty))

-- a place below the count
pub reads : (k : Kept) (page_of : Page) (p : ℕ) (x : Place) → k.page ≡ Some page_of → p < page_of.opened.code.count → x ≡ get_or page_of.places.at p Empty → TellsPlace (standing k) p (Ok x)
reads k page_of p x e h g =
    let at = page_of.places.at in
    let n = page_of.opened.code.count in
    let few = page_of.opened.code.places.1 in
    let full = page_of.places.full in
    let long : p < length (take n at) = simp length-take (omega arith) in
    let on : standing k ≡ opened (given_of page_of.opened) (take n at) = ap page e in (
      ap (λ (b : Book). place_check b p) on ∙ ap (λ (t : Bool). when t (NoSuchPlace p)) (lt-leb (length (take n at)) p long),
      g ∙ sym (get_or-take n at p Empty h) ∙ sym (ap (λ (b : Book). place_in b p) on),
    )

-- the checks of entering, given what the place has
pub enters : (q : ℕ) (b : Book) (p v : ℕ) (x : Place) → place_check b p ≡ None → v < q → x ≡ place_in b p → check q b (entering p v) ≡ other_check p v x
enters q b p v x h lt e =
    ap (λ (o : Option CollectionFault). or_else o (or_else (number_check q p v) (other_check p v (place_in b p)))) h
    ∙ ap (λ (t : Bool). or_else (when t (NotAnElement p v)) (other_check p v (place_in b p))) (lt-leb q v lt)
    ∙ sym (ap (other_check p v) e)

pub enters_equal : (q : ℕ) (b : Book) (p v : ℕ) (x : Place) (w : ℕ) → TellsPlace b p (Ok x) → x ≡ Filled w → v < q → w ≡ v → Right q b (entering p v) done b
enters_equal q b p v x w t is lt e =
    takes q b (entering p v) b
    (enters q b p v x t.0 lt t.1 ∙ ap (other_check p v) is ∙ ap (λ (s : Bool). when (not s) (OtherValue p w)) (eq-eqb w v e))
    (put_same b p (Filled v) (ap Filled (sym e) ∙ sym is ∙ t.1))

pub enters_empty : (q : ℕ) (b new : Book) (p v : ℕ) (x : Place) → TellsPlace b p (Ok x) → x ≡ Empty → v < q → new ≡ putting b p (Filled v) → Right q b (entering p v) done new
enters_empty q b new p v x t is lt e = takes q b (entering p v) new (enters q b p v x t.0 lt t.1 ∙ ap (other_check p v) is) e

pub withdraws : (q : ℕ) (b new : Book) (p : ℕ) (x : Place) (w : ℕ) → TellsPlace b p (Ok x) → x ≡ Filled w → new ≡ putting b p Empty → Right q b (withdrawing p) done new
withdraws q b new p x w t is e =
    takes q b (withdrawing p) new
    (ap (λ (o : Option CollectionFault). or_else o (nothing_check p (place_in b p))) t.0 ∙ sym (ap (nothing_check p) t.1) ∙ ap (nothing_check p) is)
    e

-- what a collection tells as a source
pub counts : (p : Page) → p.opened.code.count ≡ length (shares (page (Some p)))
counts p =
    let few = p.opened.code.places.1 in
    let full = p.places.full in
    let long : length (map share (take p.opened.code.count p.places.at)) ≡ p.opened.code.count = simp (length-map, length-take) (omega arith) in
    sym long

share_at : (ps : List Place) (i : ℕ) → get_or (map share ps) i None ≡ share (get_or ps i Empty)
share_at [] i = refl
share_at (x ∷ ps) zero = refl
share_at (x ∷ ps) (suc i) = share_at ps i

pub told_at : (b : Book) (i : ℕ) (x : Place) → TellsPlace b i (Ok x) → share x ≡ get_or (shares b) i None
told_at unopened i x t = ap share t.1
told_at (opened g ps) i x t = ap share t.1 ∙ sym (share_at ps i)

refused_past : (t : Bool) (f g : CollectionFault) → when t f ≡ Some g → t ≡ true
refused_past true f g e = refl
refused_past false f g e = cc

pub told_past : (b : Book) (i : ℕ) (f : CollectionFault) → place_check b i ≡ Some f → None ≡ get_or (shares b) i None
told_past unopened i f e = refl
told_past (opened g ps) i f e =
    let past : length ps ≤ i = leb-true (length ps) i (refused_past (leb (length ps) i) (NoSuchPlace i) f e) in
    let over : length (map share ps) ≤ i = simp length-map past in
    sym (get_or_past (map share ps) i None over)

abbrev given_as : List ℕ → List ℕ → ℕ → Setting → Given
given_as p m t s = record { points = p; multipliers = m; threshold = t; setting = s }

-- what an opened collection was given is what opening was given
pub given_is : (q : ℕ) (g : Given) (o : Opened) → Holds q g o.code → o.setting ≡ g.setting → given_of o ≡ g
given_is q g o h e =
    ap (λ (x : List ℕ). given_as x (take o.code.count o.code.multipliers) o.code.threshold o.setting) h.points
    ∙ ap (λ (x : List ℕ). given_as g.points x o.code.threshold o.setting) h.multipliers
    ∙ ap (λ (x : ℕ). given_as g.points g.multipliers x o.setting) h.threshold
    ∙ ap (given_as g.points g.multipliers g.threshold) e

pub opens : (q : ℕ) (b : Book) (g : Given) (o : Opened) (new : List Place) → None ≡ blank_check b → None ≡ first_fault q g → Holds q g o.code → o.setting ≡ g.setting → new ≡ replicate 32 Empty → Right q b (opening g) done (opened (given_of o) (take o.code.count new))
opens q b g o new e f h k z =
    let few = o.code.places.1 in
    let empties : take o.code.count new ≡ replicate (length g.points) Empty =
    ap (take o.code.count) z ∙ take-replicate o.code.count 32 Empty few ∙ ap (λ (n : ℕ). replicate n Empty) h.count in
    takes q b (opening g) (opened (given_of o) (take o.code.count new))
    (sym (ap (λ (x : Option CollectionFault). or_else x (of_code (first_fault q g))) e) ∙ sym (ap of_code f))
    (ap (λ (x : Given). opened x (take o.code.count new)) (given_is q g o h k) ∙ ap (opened g) empties)
