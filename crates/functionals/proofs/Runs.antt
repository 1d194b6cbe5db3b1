-- Lists as runs of one length, loops over them, and sums over them.
use Rattle.std.proofs.Common.{◌≡◌, ℕ, suc, ◌+◌, ◌-◌, ◌*◌, ◌<◌, ◌≤◌, List, [], ◌∷◌, ◌++◌, length, get_or, take, drop, set, sym, refl, ap, ◌∙◌, subst, ap₂, mul-le-mul_right, add-one, arith, length-append, length-drop, length-take, get_or-drop, get_or-set_other, get_or-take, get_or-set_same, drop-drop}
use native.Mathlib.Decide.{ℕ_discrete, dec_lt}
use Rattle.std.proofs.Math.Seq.{take-append_seam, drop-append_seam}
use Rattle.algebra.specs.Sums.{sum}
use Rattle.algebra.specs.RingLaws as L
use Rattle.algebra.proofs.Sums.{sum_cong}
use Rattle.fields.specs.Numbers.{Numbers, AllBelow, Element, elem, plus, times, ring_of}
use Rattle.polynomials.specs.Series.{poly}
use Rattle.polynomials.proofs.Readings.{all_at, past, poly_at, elem_multiple}
use Rattle.algebra.specs.Taylor.{tay, taylor}
use Rattle.decoding.specs.Multiplicity.{functional}
use Rattle.functionals.specs.Runs.{family, run}
use Rattle.functionals.specs.Tables.{Discrepancy}

-- the run t ends within the list
pub run_room : (t n B l : ℕ) → t < n → n * B ≤ l → t * B + B ≤ l
run_room t n B l h k = let u : suc t * B ≤ n * B = mul-le-mul_right B h in omega arith

-- a loop that cuts run after run off
pub rest_none : (B : ℕ) (xs : List ℕ) → xs ≡ drop (0 * B) xs
rest_none B xs = ap (λ (n : ℕ). drop n xs) (let e : 0 ≡ 0 * B = omega arith in e)

pub rest_more : (B t : ℕ) (xs rest tail : List ℕ) → rest ≡ drop (t * B) xs → tail ≡ drop B rest → tail ≡ drop ((t + 1) * B) xs
rest_more B t xs rest tail e f =
    f ∙ ap (drop B) e ∙ drop-drop B (t * B) xs ∙ ap (λ (n : ℕ). drop n xs) (let k : t * B + B ≡ (t + 1) * B = omega arith in k)

pub rest_room : (B t n : ℕ) (xs rest : List ℕ) → rest ≡ drop (t * B) xs → t < n → n * B ≤ length xs → B ≤ length rest
rest_room B t n xs rest e h k =
    let u : t * B + B ≤ length xs = run_room t n B (length xs) h k in
    let v : length rest ≡ length xs - t * B = ap length e ∙ length-drop (t * B) xs in
    omega arith

pub rest_run : (B t : ℕ) (xs rest front : List ℕ) → rest ≡ drop (t * B) xs → front ≡ take B rest → front ≡ run B xs t
unfolding run
rest_run B t xs rest front e f = f ∙ ap (take B) e

-- a loop over an iterator that has given n numbers of a list, and what is left to it: a number more, and none more
pub given_more : (n : ℕ) (xs : List ℕ) {rest tail : List ℕ} {y : ℕ} → rest ≡ drop n xs → rest ≡ y ∷ tail
    → (n < length xs) × (get_or xs n 0 ≡ y) × (tail ≡ drop (n + 1) xs)
given_more n xs {rest} {tail} {y} d e =
    let u : length rest ≡ length xs - n = ap length d ∙ length-drop n xs in
    let v : length rest ≡ suc (length tail) = ap length e in (
      omega arith,
      ap (λ (k : ℕ). get_or xs k 0) (let z : n ≡ n + 0 = omega arith in z) ∙ sym (get_or-drop n xs 0 0) ∙ ap (λ (l : List ℕ). get_or l 0 0) (sym d ∙ e),
      sym (ap (drop 1) (sym d ∙ e)) ∙ drop-drop 1 n xs,
    )

pub given_all : (n : ℕ) (xs : List ℕ) {rest : List ℕ} → rest ≡ drop n xs → length rest ≡ 0 → length xs ≤ n
given_all n xs {rest} d e = let u : length rest ≡ length xs - n = ap length d ∙ length-drop n xs in omega arith

pub length_push : {A : Type 0} (xs : List A) (x : A) → length (xs ++ (x ∷ [])) ≡ length xs + 1
length_push xs x = length-append xs (x ∷ [])

-- a loop over the runs of a list of which a are done: a run more, and none more though n were left to do
pub chunk_more : (B a : ℕ) (xs : List ℕ) {rest front tail : List ℕ} → 0 < B → rest ≡ drop (a * B) xs → rest ≡ front ++ tail → length front ≡ B
    → (front ≡ run B xs a) × (tail ≡ drop ((a + 1) * B) xs) × (a * B + B ≤ length xs)
chunk_more B a xs {rest} {front} {tail} some d e l =
    let u : length rest ≡ length xs - a * B = ap length d ∙ length-drop (a * B) xs in
    let v : length rest ≡ length front + length tail = ap length e ∙ length-append front tail in (
      rest_run B a xs rest front d (sym (ap (take B) e ∙ ap (λ (n : ℕ). take n (front ++ tail)) (sym l) ∙ take-append_seam front tail)),
      rest_more B a xs rest tail d (sym (ap (drop B) e ∙ ap (λ (n : ℕ). drop n (front ++ tail)) (sym l) ∙ drop-append_seam front tail)),
      omega arith,
    )

pub chunk_count : (B a count n : ℕ) (xs : List ℕ) {rest : List ℕ} → rest ≡ drop (a * B) xs → n + a ≡ count → count * B ≤ length xs
    → (0 < n → length rest < B) → a ≡ count
chunk_count B a count n xs {rest} d e h f = go (dec_lt 0 n)
  where
    go : Dec (0 < n) → a ≡ count
    go (yes l) =
        let u : length rest ≡ length xs - a * B = ap length d ∙ length-drop (a * B) xs in
        let v : a * B + B ≤ length xs = run_room a count B (length xs) (omega arith) h in
        let w = f l in
        absurd (omega arith)
    go (no l) = omega arith

-- a loop that writes one number more
pub each_more : (P : ℕ → ℕ → Type 0) (xs : List ℕ) (j v : ℕ) → j < length xs → ((i : ℕ) → i < j → P i (get_or xs i 0)) → P j v
    → (i : ℕ) → i < j + 1 → P i (get_or (set xs j v) i 0)
each_more P xs j v h f p i l = go (ℕ_discrete i j)
  where
    go : Dec (i ≡ j) → P i (get_or (set xs j v) i 0)
    go (yes e) = subst (λ (n : ℕ). P n (get_or (set xs j v) n 0)) (sym e) (subst (P j) (sym (get_or-set_same xs j v 0 h)) p)
    go (no e) = subst (P i) (sym (get_or-set_other xs j i v 0 e)) (f i (omega arith))

-- the numbers of a run
pub run_at : (B : ℕ) (xs : List ℕ) (t m : ℕ) → m < B → get_or (run B xs t) m 0 ≡ get_or xs (t * B + m) 0
unfolding run
run_at B xs t m h = get_or-take B (drop (t * B) xs) m 0 h ∙ get_or-drop (t * B) xs m 0

pub run_length : (B : ℕ) (xs : List ℕ) (t : ℕ) → length (run B xs t) ≤ B
unfolding run
run_length B xs t = let e = length-take B (drop (t * B) xs) in omega arith

pub run_long : (B : ℕ) (xs : List ℕ) (t : ℕ) → t * B + B ≤ length xs → length (run B xs t) ≡ B
unfolding run
run_long B xs t h = let e = length-take B (drop (t * B) xs) in let d = length-drop (t * B) xs in omega arith

module _ (F : Numbers) where
  pub run_below : (B : ℕ) (xs : List ℕ) (t : ℕ) → AllBelow F.q xs → AllBelow F.q (run B xs t)
  run_below B xs t all k h =
      let l : k < B = omega (arith, run_length B xs t) in
      subst (λ (n : ℕ). n < F.q) (sym (run_at B xs t k l)) (all_at F xs all (t * B + k))

  pub family_at : (B : ℕ) (xs : List ℕ) (t m : ℕ) → m < B → family F B xs t m ≡ poly F xs (t * B + m)
  family_at B xs t m h = poly_at F (run B xs t) m ∙ ap (elem F) (run_at B xs t m h) ∙ sym (poly_at F xs (t * B + m))

  pub family_past : (B : ℕ) (xs : List ℕ) (t m : ℕ) → B ≤ m → family F B xs t m ≡ elem F 0
  family_past B xs t m h =
      poly_at F (run B xs t) m ∙ ap (elem F) (past F (run B xs t) m (omega (arith, run_length B xs t)))

  -- the term of the run t
  abbrev pub run_sum : (row xs : List ℕ) → ℕ → Element F
  run_sum row xs t = sum (ring_of F) (length xs) (λ m. times F (poly F xs m) (family F (length xs) row t m))

  abbrev pub term : (row xs cs : List ℕ) → ℕ → Element F
  term row xs cs t = times F (poly F cs t) (run_sum row xs t)

  pub term_is : (row xs cs front : List ℕ) (t v : ℕ) → front ≡ run (length xs) row t → length front ≡ length xs
      → elem F v ≡ sum (ring_of F) (length front) (λ m. times F (poly F xs m) (poly F front m))
      → times F (elem F (get_or cs t 0)) (elem F v) ≡ term row xs cs t
  term_is row xs cs front t v e l h =
      ap₂ (times F) (sym (poly_at F cs t))
      (h ∙ ap (λ (n : ℕ). sum (ring_of F) n (λ m. times F (poly F xs m) (poly F front m))) l
      ∙ ap (λ (f : List ℕ). sum (ring_of F) (length xs) (λ m. times F (poly F xs m) (poly F f m))) e)

  pub sum_none : (f : ℕ → Element F) → elem F 0 ≡ sum (ring_of F) 0 f
  unfolding sum
  sum_none f = refl

  -- a term more: x y
  pub sum_more : (f : ℕ → Element F) (i s x y r : ℕ) → s < F.q → x < F.q → y < F.q → elem F s ≡ sum (ring_of F) i f
      → times F (elem F x) (elem F y) ≡ f i → r ≡ F.add s (F.mul x y)
      → (r < F.q) × (elem F r ≡ sum (ring_of F) (i + 1) f)
  unfolding sum
  sum_more f i s x y r hs hx hy e t er = (
    subst (λ (n : ℕ). n < F.q) (sym er) (F.laws.add_below _ _),
    ap (elem F) er ∙ elem_multiple F s x y hs hx hy ∙ ap₂ (plus F) e t ∙ ap (λ (n : ℕ). sum (ring_of F) n f) (sym (add-one i)),
  )

  -- a term that is 0
  pub sum_pass : (f : ℕ → Element F) (i s : ℕ) → elem F s ≡ sum (ring_of F) i f → f i ≡ elem F 0 → elem F s ≡ sum (ring_of F) (i + 1) f
  unfolding sum
  sum_pass f i s e z =
      e ∙ sym ((ring_of F).add_zero _) ∙ ap (plus F (sum (ring_of F) i f)) (sym z) ∙ ap (λ (n : ℕ). sum (ring_of F) n f) (sym (add-one i))

  pub right_zero : (x : Element F) (y : ℕ) → y ≡ 0 → times F x (elem F y) ≡ elem F 0
  right_zero x y e = ap (λ (n : ℕ). times F x (elem F n)) e ∙ L.mul_zero (ring_of F) x

  pub left_zero : (x : ℕ) (y : Element F) → x ≡ 0 → times F (elem F x) y ≡ elem F 0
  left_zero x y e = ap (λ (n : ℕ). times F (elem F n) y) e ∙ L.zero_mul (ring_of F) y

  pub functional_is : (row xs cs : List ℕ) (r : ℕ) → elem F r ≡ sum (ring_of F) (length cs) (term row xs cs) → Discrepancy F row xs cs r
  unfolding functional taylor
  functional_is row xs cs r h ℓ α a c e x k =
      h ∙ ap (λ (n : ℕ). sum (ring_of F) n (term row xs cs)) (sym e)
      ∙ sum_cong (ring_of F) (suc ℓ) (term row xs cs)
      (λ t. times F (c t) (sum (ring_of F) (length xs) (λ m. times F (tay (ring_of F) (elem F α) m a) (family F (length xs) row t m))))
      (λ t l. ap₂ (times F) (k t (omega arith))
      (sum_cong (ring_of F) (length xs) (λ m. times F (poly F xs m) (family F (length xs) row t m))
      (λ m. times F (tay (ring_of F) (elem F α) m a) (family F (length xs) row t m))
      (λ m u. ap (λ z. times F z (family F (length xs) row t m)) (x.is m u))))
