-- A sheet that passes its checks is written back byte for byte.
use Rattle.std.proofs.Common.{◌≡◌, ℕ, zero, suc, ◌+◌, ◌*◌, ◌/◌, ◌%◌, ◌<◌, ◌≤◌, Bool, true, false, not, ◌||◌, eqb, ltb, List, [], ◌∷◌, ◌++◌, map, length, get_or, drop, replicate, Some, None, Option, sym, refl, ap, ◌∙◌, subst, ap₂, append_assoc, append-nil, add-zero, arith, length-drop, eqb-true}
use Rattle.std.proofs.lemmas.Bool.Decides.{nat_tests}
use Rattle.std.proofs.lemmas.List.{drop_more, drop_all, get_or-drop}
use Rattle.std.proofs.lemmas.List.FromFn.{length-map-range_with_len, get_or-map-range_with_len}
use Rattle.faults.specs.declared.SheetFault.{SheetFault}
use Rattle.faults.specs.declared.SheetFault.TheVariants.{Version, Length, OtherField, Collection}
use Rattle.codes.specs.First.{or_else, when, mapped}
use Rattle.collections.specs.declared.Place.TheVariants.{Empty}
use Rattle.collections.specs.Book.{Book, opened}
use Rattle.collections.proofs.Fairness.{neither_left, neither_right, test_failed}
use Rattle.sheets.specs.Sheet.{Sheet, sheet_of, two, version_fault, length_fault, header_fault, field_fault, number, given_in, share_in, shares_in}
use Rattle.transfer.specs.Loading.{acts_of, enterings, first_refused, all_written, load_fault, loaded, done, said_by, left_by, Loads}
use Rattle.transfer.specs.Writing.{pair, as_number, header_bytes, entry_bytes, entries_bytes, sheet_bytes, bytes_of}
use Rattle.transfer.proofs.Filled.{place_of, share_place, fill}
use Rattle.sheets.proofs.Told.{told_count}

-- k bytes from i on
abbrev run : List ℕ → ℕ → ℕ → List ℕ
run bs i zero = []
run bs i (suc k) = get_or bs i 0 ∷ run bs (i + 1) k

run_drop : (bs : List ℕ) (i k : ℕ) → i + k ≤ length bs → drop i bs ≡ run bs i k ++ drop (i + k) bs
run_drop bs i zero h = ap (λ (n : ℕ). drop n bs) (sym (add-zero i))
run_drop bs i (suc k) h =
    let here : i < length bs = omega arith in
    let more : i + 1 + k ≤ length bs = omega arith in
    let same : i + 1 + k ≡ i + suc k = omega arith in
    drop_more bs i 0 here
    ∙ ap (λ (l : List ℕ). get_or bs i 0 ∷ l) (run_drop bs (i + 1) k more ∙ ap (λ (n : ℕ). run bs (i + 1) k ++ drop n bs) same)

pair_two : (high low : ℕ) → high < 256 → low < 256 → pair (two high low) ≡ high ∷ low ∷ []
pair_two high low h l =
    let a : (256 * high + low) / 256 % 256 ≡ high = omega arith in
    let b : (256 * high + low) % 256 ≡ low = omega arith in
    ap₂ (λ (x y : ℕ). x ∷ y ∷ []) a b

as_share : (v : ℕ) (t : Bool) → eqb v 65535 ≡ t → as_number (when (not t) v) ≡ v
as_share v true e = sym (eqb-true v 65535 e)
as_share v false e = refl

module _ (s : Sheet) (bytes : (i : ℕ) → get_or s.entries i 0 < 256) where
  abbrev es : List ℕ
  es = s.entries

  pair_at : (v part k i j : ℕ) → v ≡ number es part k → 6 * k + part ≡ i → 6 * k + part + 1 ≡ j → pair v ≡ get_or es i 0 ∷ get_or es j 0 ∷ []
  pair_at v part k i j e h l =
      ap pair e
      ∙ pair_two (get_or es (6 * k + part) 0) (get_or es (6 * k + part + 1) 0) (bytes (6 * k + part)) (bytes (6 * k + part + 1))
      ∙ ap₂ (λ (x y : ℕ). get_or es x 0 ∷ get_or es y 0 ∷ []) h l

  entry_back : (k : ℕ) → k < s.count → entry_bytes (given_in s) (shares_in s) k ≡ run es (6 * k) 6
  entry_back k h =
      let i = 6 * k in
      let p = get_or (given_in s).points k 0 in
      let m = get_or (given_in s).multipliers k 0 in
      let v = as_number (get_or (shares_in s) k None) in
      let at_point : p ≡ number es 0 k = get_or-map-range_with_len (number es 0) 0 s.count k k 0 h (omega arith) in
      let at_multiplier : m ≡ number es 2 k = get_or-map-range_with_len (number es 2) 0 s.count k k 0 h (omega arith) in
      let at_share : v ≡ number es 4 k =
      ap as_number (get_or-map-range_with_len (λ p. share_in (number es 4 p)) 0 s.count k k None h (omega arith)) ∙ as_share (number es 4 k) (eqb (number es 4 k) 65535) refl in
      let a = pair_at p 0 k i (i + 1) at_point (omega arith) (omega arith) in
      let b = pair_at m 2 k (i + 1 + 1) (i + 1 + 1 + 1) at_multiplier (omega arith) (omega arith) in
      let c = pair_at v 4 k (i + 1 + 1 + 1 + 1) (i + 1 + 1 + 1 + 1 + 1) at_share (omega arith) (omega arith) in
      ap (λ (l : List ℕ). l ++ (pair m ++ pair v)) a
      ∙ ap (λ (l : List ℕ). get_or es i 0 ∷ get_or es (i + 1) 0 ∷ (l ++ pair v)) b
      ∙ ap (λ (l : List ℕ). get_or es i 0 ∷ get_or es (i + 1) 0 ∷ get_or es (i + 1 + 1) 0 ∷ get_or es (i + 1 + 1 + 1) 0 ∷ l) c

  entries_back : (k : ℕ) → k ≤ s.count → length es ≡ 6 * s.count → es ≡ entries_bytes (given_in s) (shares_in s) k ++ drop (6 * k) es
  entries_back zero h w = refl
  entries_back (suc k) h w =
      let n : k ≤ s.count = omega arith in
      let here : k < s.count = omega arith in
      let room : 6 * k + 6 ≤ length es = omega arith in
      let next : 6 * k + 6 ≡ 6 * suc k = omega arith in
      let done = entries_bytes (given_in s) (shares_in s) k in
      let this = entry_bytes (given_in s) (shares_in s) k in
      entries_back k n w
      ∙ ap (λ (l : List ℕ). done ++ l) (run_drop es (6 * k) 6 room ∙ ap (λ (l : List ℕ). l ++ drop (6 * k + 6) es) (sym (entry_back k here)) ∙ ap (λ (m : ℕ). this ++ drop m es) next)
      ∙ sym (append_assoc done this (drop (6 * suc k) es))

  all_back : length es ≡ 6 * s.count → entries_bytes (given_in s) (shares_in s) s.count ≡ es
  all_back w =
      let past : drop (6 * s.count) es ≡ [] = drop_all (6 * s.count) es (omega arith) in
      let done = entries_bytes (given_in s) (shares_in s) s.count in
      sym (entries_back s.count (omega arith) w ∙ ap (λ (l : List ℕ). done ++ l) past ∙ append-nil done)

-- what the checks of a header have seen
read_version : (len version : ℕ) → (ltb len 9 || not (eqb version 1)) ≡ false → (9 ≤ len) × (version ≡ 1)
read_version len version e = (grind (arith, nat_tests), grind (arith, nat_tests))

read_length : (a b c d : ℕ) → (not (eqb a b) || not (eqb c d)) ≡ false → (a ≡ b) × (c ≡ d)
read_length a b c d e = (grind (arith, nat_tests), grind (arith, nat_tests))

read_field : (a b : ℕ) → not (eqb a b) ≡ false → a ≡ b
read_field a b e = grind (arith, nat_tests)

pub record Passed (tag : ℕ) (bs : List ℕ) : Type 0 where
  pub long : 9 ≤ length bs
  pub version : get_or bs 0 0 ≡ 1
  pub told : two (get_or bs 1 0) (get_or bs 2 0) ≡ 6 + 6 * get_or bs 4 0
  pub whole : length bs ≡ 9 + 6 * get_or bs 4 0
  pub field : get_or bs 3 0 ≡ tag

pub passed : (q tag : ℕ) (b : Book) (bs : List ℕ) → load_fault q tag b bs ≡ None → Passed tag bs
passed q tag b bs e =
    let s = sheet_of bs in
    let last = mapped Collection (first_refused q b (acts_of s)) in
    let header : header_fault bs ≡ None = neither_left (header_fault bs) (or_else (field_fault tag s) last) e in
    let later : or_else (field_fault tag s) last ≡ None = neither_right (header_fault bs) (or_else (field_fault tag s) last) e in
    let v =
    read_version (length bs) (get_or bs 0 0)
    (test_failed (ltb (length bs) 9 || not (eqb (get_or bs 0 0) 1)) Version (neither_left (version_fault bs) (length_fault bs) header)) in
    let l =
    read_length (two (get_or bs 1 0) (get_or bs 2 0)) (6 + 6 * get_or bs 4 0) (length bs) (9 + 6 * get_or bs 4 0)
    (test_failed (not (eqb (two (get_or bs 1 0) (get_or bs 2 0)) (6 + 6 * get_or bs 4 0)) || not (eqb (length bs) (9 + 6 * get_or bs 4 0))) Length (neither_right (version_fault bs) (length_fault bs) header)) in
    record {
      long = v.0;
      version = v.1;
      told = l.0;
      whole = l.1;
      field = read_field s.field tag (test_failed (not (eqb s.field tag)) (OtherField s.field) (neither_left (field_fault tag s) last later));
    }

header_back : (tag : ℕ) (bs : List ℕ) → ((i : ℕ) → get_or bs i 0 < 256) → Passed tag bs → header_bytes tag (given_in (sheet_of bs)) ≡ run bs 0 9
header_back tag bs bytes p =
    let n = length (given_in (sheet_of bs)).points in
    let count : n ≡ get_or bs 4 0 = length-map-range_with_len (number (drop 9 bs) 0) 0 (get_or bs 4 0) in
    let size : 6 + 6 * n ≡ two (get_or bs 1 0) (get_or bs 2 0) = ap (λ (k : ℕ). 6 + 6 * k) count ∙ sym p.told in
    let two_bytes : pair (6 + 6 * n) ≡ get_or bs 1 0 ∷ get_or bs 2 0 ∷ [] = ap pair size ∙ pair_two (get_or bs 1 0) (get_or bs 2 0) (bytes 1) (bytes 2) in
    let rest : ℕ → ℕ → List ℕ = λ t k. t ∷ k ∷ get_or bs 5 0 ∷ get_or bs 6 0 ∷ get_or bs 7 0 ∷ get_or bs 8 0 ∷ [] in
    ap (λ (v : ℕ). v ∷ (pair (6 + 6 * n) ++ rest tag n)) (sym p.version)
    ∙ ap (λ (l : List ℕ). get_or bs 0 0 ∷ (l ++ rest tag n)) two_bytes
    ∙ ap₂ (λ (t k : ℕ). get_or bs 0 0 ∷ get_or bs 1 0 ∷ get_or bs 2 0 ∷ rest t k) (sym p.field) count

bytes_behind : (bs : List ℕ) → ((i : ℕ) → get_or bs i 0 < 256) → (i : ℕ) → get_or (drop 9 bs) i 0 < 256
bytes_behind bs bytes i = subst (λ (v : ℕ). v < 256) (sym (get_or-drop 9 bs i 0)) (bytes (9 + i))

pub sheet_back : (tag : ℕ) (bs : List ℕ) → ((i : ℕ) → get_or bs i 0 < 256) → Passed tag bs → sheet_bytes tag (given_in (sheet_of bs)) (shares_in (sheet_of bs)) ≡ bs
sheet_back tag bs bytes p =
    let s = sheet_of bs in
    let size : length (drop 9 bs) ≡ 6 * get_or bs 4 0 = length-drop 9 bs ∙ (let w = p.whole in omega arith) in
    let count : length (given_in s).points ≡ get_or bs 4 0 = length-map-range_with_len (number (drop 9 bs) 0) 0 (get_or bs 4 0) in
    ap₂ (λ (h l : List ℕ). h ++ l) (header_back tag bs bytes p)
    (ap (entries_bytes (given_in s) (shares_in s)) count ∙ all_back s (bytes_behind bs bytes) size)
    ∙ sym (run_drop bs 0 9 p.long)

-- the places of a loaded book are the shares of its sheet
pub loaded_is : (b : Book) (bs : List ℕ) → loaded b bs ≡ opened (given_in (sheet_of bs)) (map place_of (shares_in (sheet_of bs)))
loaded_is b bs =
    let s = sheet_of bs in
    let same : length (given_in s).points ≡ length (shares_in s) = length-map-range_with_len (number s.entries 0) 0 s.count ∙ sym (told_count s) in
    ap (λ (n : ℕ). all_written (opened (given_in s) (replicate n Empty)) (enterings 0 (shares_in s))) same
    ∙ fill (given_in s) [] (shares_in s)

pub written_back : (q tag : ℕ) (b : Book) (bs : List ℕ) → ((i : ℕ) → get_or bs i 0 < 256) → load_fault q tag b bs ≡ None → bytes_of tag (loaded b bs) ≡ bs
written_back q tag b bs bytes e =
    let s = sheet_of bs in
    ap (bytes_of tag) (loaded_is b bs)
    ∙ ap (sheet_bytes tag (given_in s)) (share_place (shares_in s))
    ∙ sheet_back tag bs bytes (passed q tag b bs e)

-- what a loading that says done has left
done_by : (o : Option SheetFault) (e w b : Book) → done ≡ said_by o → e ≡ left_by o w b → (o ≡ None) × (e ≡ w)
done_by None e w b s l = (refl, l)
done_by (Some f) e w b s l = absurd (let z : ◌≡◌ {A = ℕ} 0 1 = cc in omega arith)

pub loads_back : (q tag : ℕ) (b : Book) (bs : List ℕ) (e : Book) → ((i : ℕ) → get_or bs i 0 < 256) → Loads q tag b bs done e → bytes_of tag e ≡ bs
loads_back q tag b bs e bytes r =
    let d = done_by (load_fault q tag b bs) e (loaded b bs) b r.answers r.leaves in
    ap (bytes_of tag) d.1 ∙ written_back q tag b bs bytes d.0
