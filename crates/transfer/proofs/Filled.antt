-- The book that the acts of a sheet leave: its places are the sheet's shares. None of the enterings is refused where every share is an element.
use Rattle.std.proofs.Common.{◌≡◌, ℕ, ◌+◌, ◌<◌, Bool, List, [], ◌∷◌, ◌++◌, map, length, get_or, set, replicate, Some, None, Option, sym, refl, ap, ◌∙◌, ap₂, append_assoc, arith, length-append}
use lib.Seq.{get_or-append_seam}
use borrow.Author.Tests.{lt-leb}
use Rattle.faults.specs.declared.CollectionFault.{CollectionFault}
use Rattle.faults.specs.declared.CollectionFault.TheVariants.{NoSuchPlace, NotAnElement}
use Rattle.codes.specs.First.{or_else, when}
use Rattle.codes.specs.Opening.{Given}
use Rattle.collections.specs.declared.Place.{Place}
use Rattle.collections.specs.declared.Place.TheVariants.{Empty, Filled}
use Rattle.collections.specs.Book.{Book, opened, entering, check, number_check, other_check, writes}
use Rattle.collections.specs.Standing.{share}
use Rattle.transfer.specs.Loading.{enterings, first_refused, all_written}

abbrev pub place_of : Option ℕ → Place
place_of None = Empty
place_of (Some v) = Filled v

pub share_place : (xs : List (Option ℕ)) → map share (map place_of xs) ≡ xs
share_place [] = refl
share_place (None ∷ xs) = ap (λ (l : List (Option ℕ)). None ∷ l) (share_place xs)
share_place (Some v ∷ xs) = ap (λ (l : List (Option ℕ)). Some v ∷ l) (share_place xs)

pub place_share : (ps : List Place) → map place_of (map share ps) ≡ ps
place_share [] = refl
place_share (Empty ∷ ps) = ap (λ (l : List Place). Empty ∷ l) (place_share ps)
place_share (Filled v ∷ ps) = ap (λ (l : List Place). Filled v ∷ l) (place_share ps)

set_seam : (pre : List Place) (x y : Place) (rest : List Place) → set (pre ++ x ∷ rest) (length pre) y ≡ pre ++ y ∷ rest
set_seam [] x y rest = refl
set_seam (z ∷ pre) x y rest = ap (λ (l : List Place). z ∷ l) (set_seam pre x y rest)

longer : (pre : List Place) (x : Place) → length (pre ++ x ∷ []) ≡ length pre + 1
longer pre x = length-append pre (x ∷ [])

-- the places before are filled, those from here on are still empty
abbrev here : Given → List Place → List (Option ℕ) → Book
here g pre xs = opened g (pre ++ replicate (length xs) Empty)

moved : (g : Given) (pre : List Place) (x : Place) (ys : List (Option ℕ)) → opened g (pre ++ x ∷ replicate (length ys) Empty) ≡ here g (pre ++ x ∷ []) ys
moved g pre x ys = ap (opened g) (sym (append_assoc pre (x ∷ []) (replicate (length ys) Empty)))

entered : (g : Given) (pre : List Place) (v : ℕ) (ys : List (Option ℕ)) → writes (here g pre (Some v ∷ ys)) (entering (length pre) v) ≡ here g (pre ++ Filled v ∷ []) ys
entered g pre v ys = ap (opened g) (set_seam pre Empty (Filled v) (replicate (length ys) Empty)) ∙ moved g pre (Filled v) ys

pub fill : (g : Given) (pre : List Place) (xs : List (Option ℕ)) → all_written (here g pre xs) (enterings (length pre) xs) ≡ opened g (pre ++ map place_of xs)
fill g pre [] = refl
fill g pre (None ∷ ys) =
    ap₂ (λ (b : Book) (i : ℕ). all_written b (enterings i ys)) (moved g pre Empty ys) (sym (longer pre Empty))
    ∙ fill g (pre ++ Empty ∷ []) ys
    ∙ ap (opened g) (append_assoc pre (Empty ∷ []) (map place_of ys))
fill g pre (Some v ∷ ys) =
    ap₂ (λ (b : Book) (i : ℕ). all_written b (enterings i ys)) (entered g pre v ys) (sym (longer pre (Filled v)))
    ∙ fill g (pre ++ Filled v ∷ []) ys
    ∙ ap (opened g) (append_assoc pre (Filled v ∷ []) (map place_of ys))

-- each share is an element
abbrev pub AllElements : ℕ → List (Option ℕ) → Type 0
AllElements q [] = Unit {0}
AllElements q (None ∷ xs) = AllElements q xs
AllElements q (Some v ∷ xs) = (v < q) × AllElements q xs

enters : (q : ℕ) (g : Given) (pre : List Place) (v : ℕ) (ys : List (Option ℕ)) → v < q → check q (here g pre (Some v ∷ ys)) (entering (length pre) v) ≡ None
enters q g pre v ys h =
    let ps = pre ++ Empty ∷ replicate (length ys) Empty in
    let p = length pre in
    let within : p < length ps = omega (arith, length-append pre (Empty ∷ replicate (length ys) Empty)) in
    ap (λ (t : Bool). or_else (when t (NoSuchPlace p)) (or_else (number_check q p v) (other_check p v (get_or ps p Empty)))) (lt-leb (length ps) p within)
    ∙ ap (λ (t : Bool). or_else (when t (NotAnElement p v)) (other_check p v (get_or ps p Empty))) (lt-leb q v h)
    ∙ ap (other_check p v) (get_or-append_seam pre Empty (replicate (length ys) Empty) Empty)

pub none_refused : (q : ℕ) (g : Given) (pre : List Place) (xs : List (Option ℕ)) → AllElements q xs → first_refused q (here g pre xs) (enterings (length pre) xs) ≡ None
none_refused q g pre [] h = refl
none_refused q g pre (None ∷ ys) h =
    ap₂ (λ (b : Book) (i : ℕ). first_refused q b (enterings i ys)) (moved g pre Empty ys) (sym (longer pre Empty))
    ∙ none_refused q g (pre ++ Empty ∷ []) ys h
none_refused q g pre (Some v ∷ ys) h =
    ap (λ (o : Option CollectionFault). or_else o (first_refused q (writes (here g pre (Some v ∷ ys)) (entering (length pre) v)) (enterings (length pre + 1) ys))) (enters q g pre v ys h.0)
    ∙ ap₂ (λ (b : Book) (i : ℕ). first_refused q b (enterings i ys)) (entered g pre v ys) (sym (longer pre (Filled v)))
    ∙ none_refused q g (pre ++ Filled v ∷ []) ys h.1
