-- The rows on lists are the theory's rows: one step, then the run.
use Rattle.std.proofs.Common.{◌≡◌, ℕ, zero, suc, ◌+◌, ◌-◌, ◌<◌, ◌≤◌, Bool, true, false, cond, leb, List, [], ◌∷◌, length, get_or, replicate, pos as nat, sym, refl, ap, ◌∙◌, subst, ap₂, add-one, arith, leb-false, leb-true}
use mathlib.Core.Path.{fun_ext}
use native.Mathlib.Decide.{dec_lt}
use Rattle.std.proofs.lemmas.List.{length-append, length-replicate}
use Rattle.std.proofs.lemmas.Int.{ints}
use Rattle.algebra.specs.Ring.{Ring}
use Rattle.algebra.specs.Poly.{conv, pzero, const, Below, mono, Degree}
use Rattle.algebra.specs.PolyRing.{Poly}
use Rattle.algebra.specs.Solve.{ring}
use Rattle.algebra.specs.PolyForms.{forms}
use Rattle.algebra.specs.Division.{quotient, reduce}
use Rattle.algebra.specs.Euclid.{Row as RowOf, Rows as RowsOf, top, second, next as next_of}
use Rattle.algebra.proofs.Degrees.{degree_less}
use Rattle.algebra.proofs.Rows as Theory
use Rattle.fields.specs.Numbers.{Numbers, AllBelow, Element, elem, pos, times, over, ring_of, field_of, elem_neg}
use Rattle.polynomials.specs.Series.{poly}
use Rattle.polynomials.proofs.Readings.{past}
use Rattle.polynomials.proofs.Shapes.{up_below, poly_up}
use Rattle.polynomials.proofs.Divides.{ratio_is}
use Rattle.stages.specs.Coefficients.{size, degree, less}
use Rattle.stages.specs.Euclid.{Row, row_less, divide, next, run, start}
use Rattle.stages.specs.Readings.{RowReads, Stops, RowsStop, DegreesRead}
use Rattle.stages.proofs.Coefficients.{less_length, less_below, less_reads, shifted_is, size_degree, size_under, size_has_degree}

-- the difference of two multiples, one after the other, over any ring
module _ (R : Ring) where
  infixl 60 ◌⊞◌
  infixl 70 ◌⊠◌
  infix 80 ⊟◌
  open Poly R use {◌⊕◌ as ◌⊞◌, ⊖◌ as ⊟◌, ◌⊗◌ as ◌⊠◌}

  none_less : (p g : ℕ → R.El) → p ≡ p ⊞ ⊟ (pzero R ⊠ g)
  none_less p g = ring (Poly R) (p ∷ g ∷ []) (search forms depth 20) tt

  twice_less : (p c q g : ℕ → R.El) → (p ⊞ ⊟ (c ⊠ g)) ⊞ ⊟ (q ⊠ g) ≡ p ⊞ ⊟ ((c ⊞ q) ⊠ g)
  twice_less p c q g = ring (Poly R) (p ∷ c ∷ q ∷ g ∷ []) (search forms depth 20) tt

module _ (F : Numbers) where
  infixl 60 ◌⊞◌
  infixl 70 ◌⊠◌
  infix 80 ⊟◌
  abbrev R : Ring
  R = ring_of F

  open Poly (ring_of F) use {◌⊕◌ as ◌⊞◌, ⊖◌ as ⊟◌, ◌⊗◌ as ◌⊠◌}

  -- P less a multiple of L
  abbrev without : (ℕ → Element F) → RowOf R → RowOf R → RowOf R
  without q P L = record { a = P.a ⊞ ⊟ (q ⊠ L.a); b = P.b ⊞ ⊟ (q ⊠ L.b) }

  entry_reads : (n c k s : ℕ) (g p : List ℕ) (g' p' : ℕ → Element F) (t : Element F) → c < F.q → elem F c ≡ t
      → AllBelow F.q g → AllBelow F.q p → length p ≡ n → poly F g ≡ g' → poly F p ≡ p' → Below R s g' → k + s ≤ n
      → poly F (less F c k g p) ≡ p' ⊞ ⊟ (const R t ⊠ mono R k ⊠ g')
  entry_reads n c k s g p g' p' t hc et hg hp en eg ep below fits =
      less_reads F c k g p hg hp (λ i h. ap (λ (f : ℕ → Element F). f i) eg ∙ below i (omega arith))
      ∙ shifted_is F c k (poly F p) (poly F g) hc
      ∙ ap₂ (λ (x y : ℕ → Element F). x ⊞ ⊟ (const R (elem F c) ⊠ mono R k ⊠ y)) ep eg
      ∙ ap (λ (u : Element F). p' ⊞ ⊟ (const R u ⊠ mono R k ⊠ g')) et

  quotient_none : (m : ℕ) (g p : ℕ → Element F) → quotient (field_of F) m g zero p ≡ pzero R
  unfolding quotient
  quotient_none m g p = refl

  quotient_suc : (m : ℕ) (g : ℕ → Element F) (k : ℕ) (p : ℕ → Element F) → quotient (field_of F) m g (suc k) p
      ≡ const R (times F (p (k + m)) (over F (g m))) ⊠ mono R k ⊞ quotient (field_of F) m g k (p ⊞ ⊟ (const R (times F (p (k + m)) (over F (g m))) ⊠ mono R k ⊠ g))
  unfolding quotient reduce
  quotient_suc m g k p = refl

  become : {n : ℕ} {r : Row} {A B : RowOf R} → RowReads F n r A → A.a ≡ B.a → A.b ≡ B.b → RowReads F n r B
  become h ea eb =
      record {
        a_below = h.a_below;
        b_below = h.b_below;
        a_length = h.a_length;
        b_length = h.b_length;
        a_is = h.a_is ∙ ea;
        b_is = h.b_is ∙ eb;
      }

  -- the division carried along the rows
  divide_reads : {n : ℕ} (m l : ℕ) {L : Row} {L' : RowOf R} (hL : RowReads F n L L') → Below R (suc m) L'.a → Below R (suc l) L'.b
      → (k : ℕ) {P : Row} {P' : RowOf R} → RowReads F n P P' → k + m ≤ n → k + l ≤ n
      → RowReads F n (divide F m L k P) (without (quotient (field_of F) m L'.a k P'.a) P' L')
  unfolding divide
  divide_reads m l {L} {L'} hL ha hb zero {P} {P'} hP am bl =
      become hP
      (none_less R P'.a L'.a ∙ ap (λ q. P'.a ⊞ ⊟ (q ⊠ L'.a)) (sym (quotient_none m L'.a P'.a)))
      (none_less R P'.b L'.b ∙ ap (λ q. P'.b ⊞ ⊟ (q ⊠ L'.b)) (sym (quotient_none m L'.a P'.a)))
  divide_reads {n} m l {L} {L'} hL ha hb (suc k) {P} {P'} hP am bl =
      become (divide_reads m l hL ha hb k step (omega arith) (omega arith))
      (twice_less R P'.a (const R t ⊠ mono R k) q L'.a ∙ ap (λ q. P'.a ⊞ ⊟ (q ⊠ L'.a)) (sym (quotient_suc m L'.a k P'.a)))
      (twice_less R P'.b (const R t ⊠ mono R k) q L'.b ∙ ap (λ q. P'.b ⊞ ⊟ (q ⊠ L'.b)) (sym (quotient_suc m L'.a k P'.a)))
    where
      c : ℕ
      c = F.mul (get_or P.a (k + m) 0) (F.inv (get_or L.a m 0))

      t : Element F
      t = times F (P'.a (k + m)) (over F (L'.a m))

      is_t : elem F c ≡ t
      is_t =
          ratio_is F P.a L.a (k + m) m hP.a_below hL.a_below
          ∙ ap₂ (λ (x y : ℕ → Element F). times F (x (k + m)) (over F (y m))) hP.a_is hL.a_is

      q : ℕ → Element F
      q = quotient (field_of F) m L'.a k (P'.a ⊞ ⊟ (const R t ⊠ mono R k ⊠ L'.a))

      step : RowReads F n (row_less F c k L P) (without (const R t ⊠ mono R k) P' L')
      step =
          record {
            a_below = less_below F c k L.a P.a hP.a_below;
            b_below = less_below F c k L.b P.b hP.b_below;
            a_length = less_length F c k L.a P.a ∙ hP.a_length;
            b_length = less_length F c k L.b P.b ∙ hP.b_length;
            a_is = entry_reads n c k (suc m) L.a P.a L'.a P'.a t (F.laws.mul_below _ _) is_t hL.a_below hP.a_below hP.a_length hL.a_is hP.a_is ha (omega arith);
            b_is = entry_reads n c k (suc l) L.b P.b L'.b P'.b t (F.laws.mul_below _ _) is_t hL.b_below hP.b_below hP.b_length hL.b_is hP.b_is hb (omega arith);
          }

  module _ {D : ℕ} {S : ℕ → Element F} {P L : Row} {P' L' : RowOf R} {p l : ℕ} (hP : RowReads F (suc D) P P') (hL : RowReads F (suc D) L L')
      (I : RowsOf R D S P' L' p l) where
    before_size : size P.a ≡ suc p
    before_size =
        let s : p + l ≡ D = I.sum in
        size_degree F P.a p hP.a_below (subst (Degree R p) (sym hP.a_is) I.a_degree)
        (let e : length P.a ≡ suc D = hP.a_length in omega arith)

    pub last_size : size L.b ≡ suc l
    last_size =
        let s : p + l ≡ D = I.sum in
        size_degree F L.b l hL.b_below (subst (Degree R l) (sym hL.b_is) I.b_degree)
        (let e : length L.b ≡ suc D = hL.b_length in omega arith)

    small : Below R (size L.a) L'.a
    small = subst (Below R (size L.a)) hL.a_is (size_under F L.a hL.a_below)

    last_degree : (m : ℕ) → size L.a ≡ suc m → Degree R m L'.a
    last_degree m e = subst (Degree R m) hL.a_is (size_has_degree F L.a m hL.a_below e)

    falls : (m : ℕ) → size L.a ≡ suc m → m < p
    falls m e = degree_less (field_of F) m p L'.a (last_degree m e) I.a_falls

    next_reads : (m : ℕ) → size L.a ≡ suc m → RowReads F (suc D) (next F P L) (next_of (field_of F) p m P' L')
    next_reads m e =
        let s : p + l ≡ D = I.sum in
        let h : m < p = falls m e in
        let m_is : size L.a - 1 ≡ m = omega (arith, e) in
        let k_is : size P.a - m ≡ suc (p - m) = omega (arith, before_size) in
        subst (λ (r : Row). RowReads F (suc D) r (next_of (field_of F) p m P' L'))
        (sym (ap (λ (x : ℕ). divide F x L (size P.a - x) P) m_is ∙ ap (λ (k : ℕ). divide F m L k P) k_is))
        (divide_reads m l hL (last_degree m e).below I.b_degree.below (suc (p - m)) hP (omega arith) (omega arith))

  -- what a run starts from, and where it ends
  abbrev From : (ℕ → ℕ) → (D : ℕ) → (ℕ → Element F) → ℕ → Type 0
  From limit D S fuel =
      (P L : Row) (P' L' : RowOf R) (p l l' : ℕ) → RowReads F (suc D) P P' → RowReads F (suc D) L L' → RowsOf R D S P' L' p l
      → Below R (suc l') P'.b → limit l' ≤ p → p ≤ fuel → Stops F limit D S (run F limit fuel (record { before = P; last = L }))

  run_stops : (limit : ℕ → ℕ) (D : ℕ) (S : ℕ → Element F) (fuel : ℕ) → From limit D S fuel
  unfolding run
  run_stops limit D S zero P L P' L' p l l' hP hL I b high k =
      record {
        stopped =
            record {
              P = P';
              L = L';
              p = p;
              l = l;
              rows = I;
              low = λ i t. I.a_falls i (omega arith);
              l' = l';
              b_below = b;
              high = high;
            };
        before = hP;
        last = hL;
      }
  run_stops limit D S (suc fuel) P L P' L' p l l' hP hL I b high k =
      go (leb (size L.a) (limit (size L.b - 1))) refl (size L.a) refl (run_stops limit D S fuel)
    where
      bound : limit (size L.b - 1) ≡ limit l
      bound = ap limit (let e = last_size hP hL I in let z : size L.b - 1 ≡ l = omega arith in z)

      go : (t : Bool) → leb (size L.a) (limit (size L.b - 1)) ≡ t → (n : ℕ) → size L.a ≡ n → From limit D S fuel
          → Stops F limit D S (cond t (record { before = P; last = L }) (run F limit fuel (record { before = L; last = next F P L })))
      go true e n en more =
          record {
            stopped =
                record {
                  P = P';
                  L = L';
                  p = p;
                  l = l;
                  rows = I;
                  low = λ i t.
                      let c : size L.a ≤ limit l = subst (λ (y : ℕ). size L.a ≤ y) bound (leb-true (size L.a) (limit (size L.b - 1)) e) in
                      small hP hL I i (omega arith);
                  l' = l';
                  b_below = b;
                  high = high;
                };
            before = hP;
            last = hL;
          }
      go false e zero en more =
          absurd (let c : limit (size L.b - 1) < size L.a = leb-false (size L.a) (limit (size L.b - 1)) e in omega arith)
      go false e (suc m) en more =
          let c : limit l < size L.a = subst (λ (y : ℕ). y < size L.a) bound (leb-false (size L.a) (limit (size L.b - 1)) e) in
          let h : m < p = falls hP hL I m en in
          more L (next F P L) L' (next_of (field_of F) p m P' L') m (p - m + l) l hL (next_reads hP hL I m en)
          (Theory.step (field_of F) I m (last_degree hP hL I m en)) I.b_degree.below (omega arith) (omega arith)

  -- the first two rows
  zero_at : (n i : ℕ) → ◌≡◌ {A = ℕ} (get_or (replicate n 0) i 0) 0
  zero_at zero i = refl
  zero_at (suc n) zero = refl
  zero_at (suc n) (suc i) = zero_at n i

  zeros_below : (n : ℕ) → AllBelow F.q (replicate n 0)
  zeros_below n i h = subst (λ (x : ℕ). x < F.q) (sym (zero_at n i)) (pos F)

  zeros_read : (n : ℕ) → poly F (replicate n 0) ≡ pzero R
  unfolding poly pzero
  zeros_read n = fun_ext (λ i. ap (elem F) (zero_at n i))

  single_below : (c n : ℕ) → c < F.q → AllBelow F.q (c ∷ replicate n 0)
  single_below c n h zero l = h
  single_below c n h (suc i) l = zeros_below n i (omega arith)

  single_reads : (c n : ℕ) → poly F (c ∷ replicate n 0) ≡ const R (elem F c)
  unfolding poly const
  single_reads c n = fun_ext at
    where
      at : (i : ℕ) → elem F (get_or (c ∷ replicate n 0) i 0) ≡ const R (elem F c) i
      at zero = refl
      at (suc i) = ap (elem F) (zero_at n i)

  pub start_before : (D : ℕ) → RowReads F (suc D) (start F D []).before (top (field_of F) D)
  start_before D =
      record {
        a_below = up_below F D (1 ∷ []) (single_below 1 0 F.laws.two);
        b_below = zeros_below (suc D);
        a_length = length-append (replicate D 0) (1 ∷ []) ∙ ap (λ (n : ℕ). n + 1) (length-replicate D 0) ∙ add-one D;
        b_length = length-replicate (suc D) 0;
        a_is = poly_up F D (1 ∷ []) ∙ ap (conv R (mono R D)) (single_reads 1 0) ∙ (Poly R).mul_one (mono R D);
        b_is = zeros_read (suc D);
      }

  pub start_last : (D : ℕ) (S : List ℕ) → AllBelow F.q S → length S ≡ suc D
      → RowReads F (suc D) (start F D S).last (second (field_of F) (poly F S))
  start_last D S below long =
      record {
        a_below = below;
        b_below = single_below (F.neg 1) D (F.laws.neg_below 1);
        a_length = long;
        b_length = ap suc (length-replicate D 0);
        a_is = refl;
        b_is =
            single_reads (F.neg 1) D
            ∙ ap (const R) (elem_neg F 1 F.laws.two) ∙ sym (Theory.const_neg R (elem F 1));
      }

  start_low : (D : ℕ) (S : List ℕ) → length S ≡ suc D → get_or S D 0 ≡ 0 → Below R D (poly F S)
  unfolding poly
  start_low D S long z i h =
      elim (dec_lt D i) [
        | yes l ↦ ap (elem F) (past F S i (omega arith))
        | no l ↦ ap (λ (j : ℕ). elem F (get_or S j 0)) (let e : i ≡ D = omega arith in e) ∙ ap (elem F) z
      ]

pub rows_stop : RowsStop
rows_stop F limit D S below long z c =
    run_stops F limit D (poly F S) (suc D) (start F D S).before (start F D S).last (top (field_of F) D) (second (field_of F) (poly F S)) D 0 0
    (start_before F D) (start_last F D S below long) (Theory.start (field_of F) D (poly F S) (start_low F D S long z)) (λ i k. unfold pzero in refl) c (omega arith)

size_to_degree : (xs : List ℕ) (d : ℕ) → size xs ≡ suc d → degree xs ≡ nat d
size_to_degree xs d e = omega (arith, ints)

pub degrees_read : DegreesRead
degrees_read F limit D S R T = (
  size_to_degree R.before.a T.stopped.p (before_size F T.before T.last T.stopped.rows),
  size_to_degree R.last.b T.stopped.l (last_size F T.before T.last T.stopped.rows),
)
