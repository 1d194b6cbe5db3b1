-- A written sheet loads into a blank collection as the collection that it came from.
use Rattle.std.proofs.Common.{◌≡◌, ℕ, zero, suc, ◌+◌, ◌-◌, ◌*◌, ◌/◌, ◌%◌, ◌^◌, ◌<◌, ◌≤◌, Bool, not, List, [], ◌∷◌, map, length, get_or, replicate, Some, None, Option, sym, refl, ap, ◌∙◌, subst, ap₂, ⊎_elim, arith, eq-eqb, ne_eqb}
use Rattle.std.proofs.lemmas.Bool.{cases_lt}
use Rattle.std.proofs.lemmas.List.{same_lists, get_or_append_left, get_or-append_right, get_or-take, length-map}
use Rattle.std.proofs.lemmas.List.FromFn.{length-map-range_with_len, get_or-map-range_with_len}
use Rattle.std.specs.List.{range_with_len}
use Rattle.faults.specs.declared.SheetFault.{SheetFault}
use Rattle.faults.specs.declared.SheetFault.TheVariants.{OtherField, Collection}
use Rattle.codes.specs.declared.Setting.{Setting}
use Rattle.codes.specs.First.{or_else, when, mapped}
use Rattle.codes.specs.Opening.{Given}
use Rattle.collections.specs.declared.Place.{Place}
use Rattle.collections.specs.declared.Place.TheVariants.{Empty, Filled}
use Rattle.collections.specs.Book.{Book, unopened, opened, places_in, opening, of_code, writes, AllFit, FairPage, Fair}
use Rattle.collections.specs.declared.Opened.{Opened}
use Rattle.collections.specs.declared.Kept.{Kept}
use Rattle.collections.proofs.Booked.{on_page}
use Rattle.collections.specs.Standing.{given_of, opened_in, standing, share, Over, Sound}
use Rattle.sheets.specs.Sheet.{sheet_of, two, header_fault, field_fault, number, column, given_in, share_in, shares_in}
use Rattle.transfer.specs.Loading.{acts_of, enterings, first_refused, all_written, load_fault, loaded, done, said_by, left_by, Loads}
use Rattle.transfer.specs.Writing.{as_number, entry_bytes, entries_bytes, sheet_bytes, bytes_of}
use Rattle.sheets.proofs.Made.{no_fault}
use Rattle.transfer.proofs.Written.{entries_length, front_length, count_is, even}
use Rattle.transfer.proofs.Filled.{place_share, fill, AllElements, none_refused}

two_pair : (v : ℕ) → v < 2 ^ 16 → two (v / 256 % 256) (v % 256) ≡ v
two_pair v h = omega arith

-- the byte j of entry p
byte_at : (g : Given) (xs : List (Option ℕ)) (n p j : ℕ) → p < n → j < 6 → get_or (entries_bytes g xs n) (6 * p + j) 0 ≡ get_or (entry_bytes g xs p) j 0
byte_at g xs zero p j h k = absurd (let z : suc p ≤ 0 = h in omega arith)
byte_at g xs (suc n) p j h k =
    let before = entries_bytes g xs n in
    let size : length before ≡ 6 * n = entries_length g xs n in
    ⊎_elim
    (λ (l : p < n).
    let inside : 6 * p + j < length before = omega arith in
    get_or_append_left before (entry_bytes g xs n) 0 (6 * p + j) inside ∙ byte_at g xs n p j l k)
    (λ (l : n ≤ p).
    let last : p ≡ n = omega arith in
    let behind : 6 * n ≤ 6 * p + j = omega arith in
    let index : 6 * p + j - 6 * n ≡ j = omega arith in
    get_or-append_right before (entry_bytes g xs n) (6 * n) (6 * p + j) 0 size behind
    ∙ ap₂ (λ (i m : ℕ). get_or (entry_bytes g xs m) i 0) index (sym last))
    (cases_lt p n)

module _ (g : Given) (xs : List (Option ℕ)) (n : ℕ) where
  abbrev es : List ℕ
  es = entries_bytes g xs n

  number_at : (part next p v : ℕ) → p < n → part < 6 → next < 6 → 6 * p + part + 1 ≡ 6 * p + next → get_or (entry_bytes g xs p) part 0 ≡ v / 256 % 256 → get_or (entry_bytes g xs p) next 0 ≡ v % 256 → v < 2 ^ 16 → number es part p ≡ v
  number_at part next p v h k l e high low fits =
      ap₂ two
      (byte_at g xs n p part h k ∙ high)
      (ap (λ (i : ℕ). get_or es i 0) e ∙ byte_at g xs n p next h l ∙ low)
      ∙ two_pair v fits

  point_at : (p : ℕ) → p < n → get_or g.points p 0 < 2 ^ 16 → number es 0 p ≡ get_or g.points p 0
  point_at p h fits = number_at 0 1 p (get_or g.points p 0) h (omega arith) (omega arith) (omega arith) refl refl fits

  multiplier_at : (p : ℕ) → p < n → get_or g.multipliers p 0 < 2 ^ 16 → number es 2 p ≡ get_or g.multipliers p 0
  multiplier_at p h fits = number_at 2 3 p (get_or g.multipliers p 0) h (omega arith) (omega arith) (omega arith) refl refl fits

  share_at : (p : ℕ) → p < n → as_number (get_or xs p None) < 2 ^ 16 → number es 4 p ≡ as_number (get_or xs p None)
  share_at p h fits = number_at 4 5 p (as_number (get_or xs p None)) h (omega arith) (omega arith) (omega arith) refl refl fits

-- a number of a list, whatever stands for those beyond
get_or_in : {A : Type 0} (xs : List A) (k : ℕ) (d e : A) → k < length xs → get_or xs k d ≡ get_or xs k e
get_or_in [] k d e h = absurd (let z : suc k ≤ 0 = h in omega arith)
get_or_in (x ∷ xs) zero d e h = refl
get_or_in (x ∷ xs) (suc k) d e h = get_or_in xs k d e (omega arith)

abbrev Element : ℕ → Option ℕ → Type 0
Element q None = Unit {0}
Element q (Some v) = v < q

element_at : (q : ℕ) (xs : List (Option ℕ)) (k : ℕ) → AllElements q xs → Element q (get_or xs k None)
element_at q [] k h = tt
element_at q (None ∷ xs) zero h = tt
element_at q (Some v ∷ xs) zero h = h.0
element_at q (None ∷ xs) (suc k) h = element_at q xs k h
element_at q (Some v ∷ xs) (suc k) h = element_at q xs k h.1

number_fits : (q : ℕ) (x : Option ℕ) → Element q x → q < 2 ^ 16 → as_number x < 2 ^ 16
number_fits q None h b = omega arith
number_fits q (Some v) h b = omega arith

share_number : (q : ℕ) (x : Option ℕ) → Element q x → q < 2 ^ 16 → share_in (as_number x) ≡ x
share_number q None h b = refl
share_number q (Some v) h b = ap (λ (t : Bool). when (not t) v) (ne_eqb v 65535 (λ e. let z : v < q = h in omega arith))

elements : (q : ℕ) (ps : List Place) → AllFit q ps → AllElements q (map share ps)
elements q [] h = tt
elements q (Empty ∷ ps) h = elements q ps h.1
elements q (Filled v ∷ ps) h = (h.0, elements q ps h.1)

abbrev given_as : List ℕ → List ℕ → ℕ → Setting → Given
given_as p m t s = record { points = p; multipliers = m; threshold = t; setting = s }

-- a book over a field of q elements whose numbers have 16 bits
module _ (q tag : ℕ) (g : Given) (ps : List Place) (fair : FairPage q g ps) (few : length g.points ≤ 255) (even : length g.multipliers ≡ length g.points)
    (bits : q < 2 ^ 16) (points : (i : ℕ) → i < length g.points → get_or g.points i 0 < 2 ^ 16) (multipliers : (i : ℕ) → i < length g.points → get_or g.multipliers i 0 < 2 ^ 16) where
  abbrev n : ℕ
  n = length g.points

  abbrev xs : List (Option ℕ)
  xs = map share ps

  abbrev bs : List ℕ
  bs = sheet_bytes tag g xs

  all : AllElements q xs
  all = elements q ps fair.elements

  places : length xs ≡ n
  places = length-map ps share ∙ fair.count

  points_back : column (entries_bytes g xs n) 0 n ≡ g.points
  points_back =
      let size = length-map-range_with_len (number (entries_bytes g xs n) 0) 0 n in
      same_lists (column (entries_bytes g xs n) 0 n) g.points size
      (λ k d h. let l : k < n = omega arith in
      get_or-map-range_with_len (number (entries_bytes g xs n) 0) 0 n k k d l (omega arith) ∙ point_at g xs n k l (points k l) ∙ get_or_in g.points k 0 d l)

  multipliers_back : column (entries_bytes g xs n) 2 n ≡ g.multipliers
  multipliers_back =
      let size = length-map-range_with_len (number (entries_bytes g xs n) 2) 0 n in
      same_lists (column (entries_bytes g xs n) 2 n) g.multipliers (size ∙ sym even)
      (λ k d h. let l : k < n = omega arith in
      get_or-map-range_with_len (number (entries_bytes g xs n) 2) 0 n k k d l (omega arith) ∙ multiplier_at g xs n k l (multipliers k l) ∙ get_or_in g.multipliers k 0 d (omega arith))

  shares_back : shares_in (sheet_of bs) ≡ xs
  shares_back =
      let f : ℕ → Option ℕ = λ p. share_in (number (entries_bytes g xs n) 4 p) in
      let size = length-map-range_with_len f 0 n in
      same_lists (map f (range_with_len 0 n)) xs (size ∙ sym places)
      (λ k d h. let l : k < n = omega arith in
      let x = get_or xs k None in
      let el = element_at q xs k all in
      get_or-map-range_with_len f 0 n k k d l (omega arith)
      ∙ ap share_in (share_at g xs n k l (number_fits q x el bits))
      ∙ share_number q x el bits
      ∙ get_or_in xs k None d (omega (arith, places)))

  given_back : given_in (sheet_of bs) ≡ g
  given_back = ap₂ (λ (p m : List ℕ). given_as p m g.threshold g.setting) points_back multipliers_back

  acts_back : acts_of (sheet_of bs) ≡ opening g ∷ enterings 0 xs
  acts_back = ap₂ (λ (h : Given) (l : List (Option ℕ)). opening h ∷ enterings 0 l) given_back shares_back

  header_passes : header_fault bs ≡ None
  header_passes =
      let size = front_length tag g xs n in
      no_fault bs (omega arith) refl (two_pair (6 + 6 * n) (omega arith)) size

  opens : first_refused q unopened (opening g ∷ enterings 0 xs) ≡ None
  opens =
      ap (λ o. or_else (of_code o) (first_refused q (writes unopened (opening g)) (enterings 0 xs))) fair.passed
      ∙ ap (λ (m : ℕ). first_refused q (opened g (replicate m Empty)) (enterings 0 xs)) (sym places)
      ∙ none_refused q g [] xs all

  passes : load_fault q tag unopened bs ≡ None
  passes =
      let rest = mapped Collection (first_refused q unopened (acts_of (sheet_of bs))) in
      ap (λ (o : Option SheetFault). or_else o (or_else (field_fault tag (sheet_of bs)) rest)) header_passes
      ∙ ap (λ (t : Bool). or_else (when (not t) (OtherField tag)) rest) (eq-eqb tag tag refl)
      ∙ ap (mapped Collection) (ap (first_refused q unopened) acts_back ∙ opens)

  leaves : opened g ps ≡ loaded unopened bs
  leaves =
      sym (ap (all_written unopened) acts_back
      ∙ ap (λ (m : ℕ). all_written (opened g (replicate m Empty)) (enterings 0 xs)) (sym places)
      ∙ fill g [] xs
      ∙ ap (opened g) (place_share ps))

  pub loads_again : Loads q tag unopened bs done (opened g ps)
  loads_again = record {
    answers = sym (ap said_by passes);
    leaves = leaves ∙ sym (ap (λ (o : Option SheetFault). left_by o (loaded unopened bs) unopened) passes);
  }

-- the sheet of a sound collection that is open
pub kept_again : (q tag : ℕ) (k : Kept) (o : Opened) (written : List ℕ) → opened_in k.page ≡ Some o → Sound q k → written ≡ bytes_of tag (standing k) → Loads q tag unopened written done (standing k)
kept_again q tag k o written e sound w =
    let ps = places_in (standing k) in
    let g = given_of o in
    let on : standing k ≡ opened g ps = on_page k.page o e in
    let over : (o.code.q ≡ q) × (q < 2 ^ 16) = subst (Over q) e sound.0 in
    let fair : FairPage q g ps = subst (Fair q) on sound.1 in
    let few = o.code.places.1 in
    let size : length g.points ≡ o.code.count = count_is o in
    let points : (i : ℕ) → i < length g.points → get_or g.points i 0 < 2 ^ 16 =
    λ i h. let l : i < o.code.count = omega (arith, size) in
    (let b = o.code.points_non_zero i l in omega (arith, b.1, get_or-take o.code.count o.code.points i 0 l)) in
    let multipliers : (i : ℕ) → i < length g.points → get_or g.multipliers i 0 < 2 ^ 16 =
    λ i h. let l : i < o.code.count = omega (arith, size) in
    (let b = o.code.multipliers_non_zero i l in omega (arith, b.1, get_or-take o.code.count o.code.multipliers i 0 l)) in
    subst (λ (b : Book). Loads q tag unopened written done b) (sym on)
    (subst (λ (l : List ℕ). Loads q tag unopened l done (opened g ps)) (sym (w ∙ ap (bytes_of tag) on))
    (loads_again q tag g ps fair (omega (arith, size)) (even o) over.1 points multipliers))
