-- The turns of the loops on rows: a multiple taken away, the division of a row, and the run.
use Rattle.std.proofs.Common.{◌≡◌, ℕ, zero, suc, ◌+◌, ◌-◌, ◌<◌, ◌≤◌, Bool, true, false, cond, not, eqb, leb, List, length, get_or, take, sym, refl, ap, ◌∙◌, subst, ap₂, arith, leb-false}
use native.Mathlib.Decide.{dec_lt}
use borrow.Author.Tests.{not-true}
use Rattle.std.proofs.lemmas.List.{ext_get_or, get_or-take, length-take}
use Rattle.algebra.specs.Division.{size as size_of}
use Rattle.fields.specs.Numbers.{Numbers, AllBelow, Element, field_of, elem_inj}
use Rattle.polynomials.specs.Series.{poly, Reads, plus_shifted}
use Rattle.polynomials.proofs.Readings.{all_at}
use Rattle.polynomials.proofs.Shapes.{up, up_at, up_under, elem_shifted_at}
use Rattle.stages.specs.Coefficients.{size_to, size, less}
use Rattle.stages.specs.Euclid.{Row, Rows, row, two_rows, row_less, divide, next, run}
use Rattle.stages.proofs.Coefficients.{size_is, less_at, less_length, less_below}
use Rattle.basis.specs.declared.euclid.LastRows.{LastRows}
use Rattle.basis.specs.Rows.{Fits, SameAreas}

pub size_within : (n : ℕ) (xs : List ℕ) → size_to n xs ≤ n
unfolding size_to
size_within zero xs = omega arith
size_within (suc n) xs = go (eqb (get_or xs n 0) 0) (size_within n xs)
  where
    go : (t : Bool) → size_to n xs ≤ n → cond t (size_to n xs) (suc n) ≤ suc n
    go true h = omega arith
    go false h = omega arith

-- the test of the run, on sizes that were counted
pub tested : (limit : ℕ → ℕ) (L : Row) (a b : ℕ) (t : Bool) {u : Bool} → a ≡ size L.a → b ≡ size L.b → t ≡ not (leb a (limit (b - 1))) → t ≡ u
    → not (leb (size L.a) (limit (size L.b - 1))) ≡ u
tested limit L a b t ea eb et eu = ap₂ (λ (x y : ℕ). not (leb x (limit (y - 1)))) (sym ea) (sym eb) ∙ sym et ∙ eu

pub on_some : (s n : ℕ) → not (leb s n) ≡ true → 0 < s
on_some s n e = let h : n < s = leb-false s n (not-true (leb s n) e) in omega arith

pub same_areas : {t t' t'' : LastRows} → SameAreas t t' → SameAreas t' t'' → SameAreas t t''
same_areas a b = record { pa = b.pa ∙ a.pa; pb = b.pb ∙ a.pb; la = b.la ∙ a.la; lb = b.lb ∙ a.lb }

module _ (F : Numbers) where
  pub take_below : (n : ℕ) (xs : List ℕ) → AllBelow F.q xs → AllBelow F.q (take n xs)
  take_below n xs h k u =
      subst (λ (x : ℕ). x < F.q) (sym (get_or-take n xs k 0 (let e = length-take n xs in omega arith))) (all_at F xs h k)

  -- what `size` answers
  pub size_by : (xs : List ℕ) (r : ℕ) → AllBelow F.q xs → r ≡ size_of (field_of F) (length xs) (poly F xs) → r ≡ size xs
  size_by xs r all e = e ∙ sym (size_is F (length xs) xs all)

  up_take : (k m : ℕ) (g : List ℕ) (i : ℕ) → i < k + m → get_or (up k (take m g)) i 0 ≡ get_or (up k g) i 0
  up_take k m g i h =
      elim (dec_lt i k) [
        | yes l ↦ up_under k (take m g) i l ∙ sym (up_under k g i l)
        | no l ↦
            ap (λ (j : ℕ). get_or (up k (take m g)) j 0) (let z : i ≡ k + (i - k) = omega arith in z)
            ∙ up_at k (take m g) (i - k) ∙ get_or-take m g (i - k) 0 (omega arith) ∙ sym (up_at k g (i - k))
            ∙ ap (λ (j : ℕ). get_or (up k g) j 0) (let z : k + (i - k) ≡ i = omega arith in z)
      ]

  -- what is left of p, by its reading
  pub taken : (c k n : ℕ) (g p p' : List ℕ) → AllBelow F.q g → AllBelow F.q p → AllBelow F.q (take (length p - k) g) → k ≤ length p
      → length p' ≡ length p → n ≡ F.neg c → Reads F p' (plus_shifted F (poly F p) n k (poly F (take (length p - k) g)))
      → p' ≡ less F c k g p
  unfolding poly
  taken c k n g p p' hg hp ht room long en r =
      ext_get_or 0 p' (less F c k g p) (long ∙ sym (less_length F c k g p)) (λ i h.
      let l : i < length p = omega arith in
      value i l ∙ ap (λ (x : ℕ). F.add (get_or p i 0) (F.mul (F.neg c) x)) (up_take k (length p - k) g i (omega arith))
      ∙ sym (less_at F c k g p hp i l))
    where
      value : (i : ℕ) → i < length p → get_or p' i 0 ≡ F.add (get_or p i 0) (F.mul (F.neg c) (get_or (up k (take (length p - k) g)) i 0))
      value i l =
          elem_inj F _ _ (all_at F p' r.below i) (F.laws.add_below _ _)
          (ap (λ (f : ℕ → Element F). f i) r.is
          ∙ ap (λ (m : ℕ). plus_shifted F (poly F p) m k (poly F (take (length p - k) g)) i) en
          ∙ sym (elem_shifted_at F p (take (length p - k) g) (F.neg c) k hp ht (F.laws.neg_below c) i))

  pub less_fits : {n : ℕ} (c k : ℕ) (L P : Row) → Fits F.q n P → Fits F.q n (row_less F c k L P)
  less_fits c k L P h =
      record {
        a_below = less_below F c k L.a P.a h.a_below;
        b_below = less_below F c k L.b P.b h.b_below;
        a_length = less_length F c k L.a P.a ∙ h.a_length;
        b_length = less_length F c k L.b P.b ∙ h.b_length;
      }

  -- the turn at i - 1 of the division
  pub divide_turn : (m i c v : ℕ) (L P Q : Row) (a b : List ℕ) → 0 < i → v ≡ F.inv (get_or L.a m 0) → c ≡ F.mul (get_or P.a (i - 1 + m) 0) v
      → a ≡ less F c (i - 1) L.a P.a → b ≡ less F c (i - 1) L.b P.b
      → divide F m L i P ≡ Q → divide F m L (i - 1) (row a b) ≡ Q
  unfolding divide
  divide_turn m zero c v L P Q a b h ev ec ea eb e = absurd (let z : 0 < 0 = h in omega arith)
  divide_turn m (suc i) c v L P Q a b h ev ec ea eb e =
      let k : suc i - 1 ≡ i = omega arith in
      let ci : c ≡ F.mul (get_or P.a (i + m) 0) (F.inv (get_or L.a m 0)) =
      ec ∙ ap₂ (λ (j w : ℕ). F.mul (get_or P.a (j + m) 0) w) k ev in
      ap₂ (λ (j : ℕ) (r : Row). divide F m L j r) k
      (ap₂ row ea eb ∙ ap₂ (λ (x j : ℕ). row_less F x j L P) ci k) ∙ e

  pub divide_none : (m : ℕ) (L P : Row) → divide F m L zero P ≡ P
  unfolding divide
  divide_none m L P = refl

  pub divide_fits : {n : ℕ} (m : ℕ) (L : Row) (k : ℕ) (P : Row) → Fits F.q n P → Fits F.q n (divide F m L k P)
  unfolding divide
  divide_fits m L zero P h = h
  divide_fits m L (suc k) P h = divide_fits m L k _ (less_fits _ k L P h)

  -- the run: it has come from the rows R to P and L, and f more steps would come to the end
  pub record Ran (limit : ℕ → ℕ) (n : ℕ) (end : Rows) (P L : Row) : Type 0 where
    pub before_fits : Fits F.q n P
    pub last_fits : Fits F.q n L
    pub left : ℕ
    pub enough : size L.a ≤ left
    pub same : run F limit left (two_rows P L) ≡ end

  pub ran_all : (limit : ℕ → ℕ) {n : ℕ} {end : Rows} {P L : Row} → Ran limit n end P L → not (leb (size L.a) (limit (size L.b - 1))) ≡ false
      → two_rows P L ≡ end
  unfolding run
  ran_all limit {n} {end} {P} {L} r e = go r.left r.same
    where
      go : (f : ℕ) → run F limit f (two_rows P L) ≡ end → two_rows P L ≡ end
      go zero s = s
      go (suc f) s = stop (leb (size L.a) (limit (size L.b - 1))) e s
        where
          stop : (t : Bool) → not t ≡ false → cond t (two_rows P L) (run F limit f (two_rows L (next F P L))) ≡ end → two_rows P L ≡ end
          stop true d s = s
          stop false d s = absurd (let z : ◌≡◌ {A = ℕ} 1 0 = ap (λ (t : Bool). cond t 1 0) d in omega arith)

  pub ran_none : (limit : ℕ → ℕ) (n : ℕ) (P L : Row) → Fits F.q n P → Fits F.q n L → Ran limit n (run F limit n (two_rows P L)) P L
  ran_none limit n P L hP hL =
      record {
        before_fits = hP;
        last_fits = hL;
        left = n;
        enough = let e = hL.a_length in let w = size_within (length L.a) L.a in omega arith;
        same = refl;
      }

  pub ran_more : (limit : ℕ → ℕ) {n : ℕ} {end : Rows} {P L P' L' : Row} → Ran limit n end P L
      → not (leb (size L.a) (limit (size L.b - 1))) ≡ true → P' ≡ L → L' ≡ next F P L → size (next F P L).a < size L.a
      → Ran limit n end P' L'
  unfolding run
  ran_more limit {n} {end} {P} {L} {P'} {L'} r e ep el falls = go r.left r.enough r.same
    where
      on : (t : Bool) (R R' : Rows) → not t ≡ true → cond t R R' ≡ end → R' ≡ end
      on true R R' d s = absurd (let z : ◌≡◌ {A = ℕ} 0 1 = ap (λ (t : Bool). cond t 1 0) d in omega arith)
      on false R R' d s = s

      go : (f : ℕ) → size L.a ≤ f → run F limit f (two_rows P L) ≡ end → Ran limit n end P' L'
      go zero h s = absurd (omega arith)
      go (suc f) h s =
          record {
            before_fits = subst (Fits F.q n) (sym ep) r.last_fits;
            last_fits = subst (Fits F.q n) (sym el) (divide_fits _ L _ P r.before_fits);
            left = f;
            enough = subst (λ (x : Row). size x.a ≤ f) (sym el) (let z : size (next F P L).a ≤ f = omega arith in z);
            same = ap₂ (λ (x y : Row). run F limit f (two_rows x y)) ep el
                ∙ on (leb (size L.a) (limit (size L.b - 1))) (two_rows P L) (run F limit f (two_rows L (next F P L))) e s;
          }
