-- Bytes that are written one run behind the other into the front of an area.
use Rattle.std.proofs.Common.{◌≡◌, ℕ, zero, suc, ◌+◌, ◌*◌, ◌<◌, ◌≤◌, Bool, List, [], ◌∷◌, ◌++◌, length, get_or, take, drop, Some, None, Option, sym, refl, ap, ap₂, ◌∙◌, append_assoc, add-one, arith, length-append, length-drop, length-take, le-ltb}
use lib.Seq.{take-append_seam, drop-append_seam}
use Rattle.std.proofs.lemmas.List.{drop-drop}
use Rattle.faults.specs.declared.ListingFault.TheVariants.{ResultArea}
use Rattle.codes.specs.First.{when}
use Rattle.codes.specs.Opening.{Given}
use Rattle.collections.specs.declared.Opened.{Opened}
use Rattle.collections.specs.declared.Kept.{Kept}
use Rattle.collections.specs.Book.{Book}
use Rattle.collections.proofs.Booked.{on_page}
use Rattle.collections.specs.Standing.{given_of, opened_in, standing, shares}
use Rattle.transfer.specs.Writing.{pair, as_number, header_bytes, entry_bytes, entries_bytes, sheet_bytes, bytes_of, write_fault}

pub put_next : (front area out bs after : List ℕ) (at : ℕ) → out ≡ front ++ drop at area → at ≡ length front → after ≡ take at out ++ (bs ++ drop (at + length bs) out) → after ≡ (front ++ bs) ++ drop (at + length bs) area
put_next front area out bs after at o a p =
    let rest = drop at area in
    let before : take at out ≡ front = ap (take at) o ∙ ap (λ (n : ℕ). take n (front ++ rest)) a ∙ take-append_seam front rest in
    let behind : drop at out ≡ rest = ap (drop at) o ∙ ap (λ (n : ℕ). drop n (front ++ rest)) a ∙ drop-append_seam front rest in
    let beyond : drop (at + length bs) out ≡ drop (at + length bs) area =
    sym (drop-drop (length bs) at out) ∙ ap (drop (length bs)) behind ∙ drop-drop (length bs) at area in
    p
    ∙ ap (λ (l : List ℕ). l ++ (bs ++ drop (at + length bs) out)) before
    ∙ ap (λ (l : List ℕ). front ++ (bs ++ l)) beyond
    ∙ sym (append_assoc front bs (drop (at + length bs) area))

pub entries_length : (g : Given) (xs : List (Option ℕ)) (n : ℕ) → length (entries_bytes g xs n) ≡ 6 * n
entries_length g xs zero = refl
entries_length g xs (suc n) =
    let h = entries_length g xs n in
    length-append (entries_bytes g xs n) (entry_bytes g xs n) ∙ omega arith

pub front_length : (tag : ℕ) (g : Given) (xs : List (Option ℕ)) (n : ℕ) → length (header_bytes tag g ++ entries_bytes g xs n) ≡ 9 + 6 * n
front_length tag g xs n =
    length-append (header_bytes tag g) (entries_bytes g xs n) ∙ ap (λ (k : ℕ). 9 + k) (entries_length g xs n)

-- a list from the place k on begins with what stands there
pub drop_next : (k : ℕ) (xs : List ℕ) (x : ℕ) (rest : List ℕ) → drop k xs ≡ x ∷ rest → (k < length xs) × (x ≡ get_or xs k 0) × (rest ≡ drop (k + 1) xs)
drop_next zero [] x rest e = cc
drop_next zero (y ∷ ys) x rest e = (omega arith, cc, cc)
drop_next (suc k) [] x rest e = cc
drop_next (suc k) (y ∷ ys) x rest e =
    let (h, v, t) = drop_next k ys x rest e in
    let u : suc k + 1 ≡ suc (k + 1) = omega arith in (omega arith, v, t ∙ sym (ap (λ (n : ℕ). drop n (y ∷ ys)) u))

pub all_passed : (k : ℕ) (xs rest : List ℕ) → rest ≡ drop k xs → k ≤ length xs → length rest ≡ 0 → k ≡ length xs
all_passed k xs rest e h z = let l = ap length e ∙ length-drop k xs in omega arith

-- the entry of the place p, which is the k-th
pub entry_is : (g : Given) (xs : List (Option ℕ)) (k p a b : ℕ) (o : Option ℕ) (bs : List ℕ) → p ≡ k → a ≡ get_or g.points k 0 → b ≡ get_or g.multipliers k 0
    → o ≡ get_or xs p None → bs ≡ pair a ++ (pair b ++ pair (as_number o)) → bs ≡ entry_bytes g xs k
entry_is g xs k p a b o bs e f h s w =
    w ∙ ap₂ (λ (m n : ℕ). pair m ++ (pair n ++ pair (as_number o))) f h
    ∙ ap (λ (z : Option ℕ). pair (get_or g.points k 0) ++ (pair (get_or g.multipliers k 0) ++ pair (as_number z))) (s ∙ ap (λ (i : ℕ). get_or xs i None) e)

-- one entry more
pub entry_next : (tag : ℕ) (g : Given) (xs : List (Option ℕ)) (p : ℕ) (area out bs after : List ℕ) → out ≡ (header_bytes tag g ++ entries_bytes g xs p) ++ drop (9 + 6 * p) area → bs ≡ entry_bytes g xs p → after ≡ take (9 + 6 * p) out ++ (bs ++ drop (9 + 6 * p + length bs) out) → after ≡ (header_bytes tag g ++ entries_bytes g xs (p + 1)) ++ drop (9 + 6 * (p + 1)) area
entry_next tag g xs p area out bs after o e h =
    let front = header_bytes tag g ++ entries_bytes g xs p in
    let six : length bs ≡ 6 = ap length e in
    let further : 9 + 6 * p + length bs ≡ 9 + 6 * (p + 1) = omega arith in
    put_next front area out bs after (9 + 6 * p) o (sym (front_length tag g xs p)) h
    ∙ ap (λ (n : ℕ). (front ++ bs) ++ drop n area) further
    ∙ ap (λ (l : List ℕ). l ++ drop (9 + 6 * (p + 1)) area)
    (append_assoc (header_bytes tag g) (entries_bytes g xs p) bs
    ∙ ap (λ (l : List ℕ). header_bytes tag g ++ (entries_bytes g xs p ++ l)) e
    ∙ sym (ap (λ (n : ℕ). header_bytes tag g ++ entries_bytes g xs n) (add-one p)))

-- an open collection has as many points as its code has places
pub count_is : (o : Opened) → length (given_of o).points ≡ o.code.count
count_is o =
    let few = o.code.places.1 in
    let full = o.code.points_length in
    simp length-take (omega arith)

pub even : (o : Opened) → length (given_of o).multipliers ≡ length (given_of o).points
even o =
    let few = o.code.places.1 in
    let points = o.code.points_length in
    let multipliers = o.code.multipliers_length in
    simp length-take (omega arith)

pub room : (k : Kept) (o : Opened) (m : ℕ) → opened_in k.page ≡ Some o → 9 + 6 * o.code.count ≤ m → write_fault (standing k) m ≡ None
room k o m e h =
    let n = count_is o in
    let enough : 9 + 6 * length (given_of o).points ≤ m = omega arith in
    ap (λ (b : Book). write_fault b m) (on_page k.page o e)
    ∙ ap (λ (t : Bool). when t (ResultArea m)) (le-ltb m (9 + 6 * length (given_of o).points) enough)

pub bytes_open : (tag : ℕ) (k : Kept) (o : Opened) → opened_in k.page ≡ Some o → bytes_of tag (standing k) ≡ sheet_bytes tag (given_of o) (shares (standing k))
bytes_open tag k o e =
    ap (bytes_of tag) (on_page k.page o e)
    ∙ sym (ap (λ (b : Book). sheet_bytes tag (given_of o) (shares b)) (on_page k.page o e))

pub size_open : (tag : ℕ) (k : Kept) (o : Opened) → opened_in k.page ≡ Some o → length (bytes_of tag (standing k)) ≡ 9 + 6 * o.code.count
size_open tag k o e =
    ap length (bytes_open tag k o e)
    ∙ front_length tag (given_of o) (shares (standing k)) (length (given_of o).points)
    ∙ ap (λ (n : ℕ). 9 + 6 * n) (count_is o)

-- behind the header nothing has changed
pub kept_behind : (out head after : List ℕ) (k : ℕ) → length head ≡ 9 → after ≡ take 0 out ++ (head ++ drop (0 + length head) out) → drop (9 + k) after ≡ drop (9 + k) out
kept_behind out head after k h p =
    let nine : 0 + length head ≡ 9 = omega arith in
    let whole : after ≡ head ++ drop 9 out = p ∙ ap (λ (n : ℕ). head ++ drop n out) nine in
    let behind : drop 9 after ≡ drop 9 out =
    ap (drop 9) whole ∙ ap (λ (n : ℕ). drop n (head ++ drop 9 out)) (sym h) ∙ drop-append_seam head (drop 9 out) in
    sym (drop-drop k 9 after) ∙ ap (drop k) behind ∙ drop-drop k 9 out

pub all_written : (tag : ℕ) (g : Given) (xs : List (Option ℕ)) (p n : ℕ) (area out after : List ℕ) → after ≡ (header_bytes tag g ++ entries_bytes g xs p) ++ drop (9 + 6 * p) area → p ≡ length g.points → p ≡ n → drop (9 + 6 * p) area ≡ drop (9 + 6 * p) out → after ≡ sheet_bytes tag g xs ++ drop (9 + 6 * n) out
all_written tag g xs p n area out after w all end same =
    w
    ∙ ap (λ (l : List ℕ). (header_bytes tag g ++ entries_bytes g xs p) ++ l) same
    ∙ ap (λ (k : ℕ). (header_bytes tag g ++ entries_bytes g xs k) ++ drop (9 + 6 * p) out) all
    ∙ ap (λ (k : ℕ). sheet_bytes tag g xs ++ drop (9 + 6 * k) out) end
