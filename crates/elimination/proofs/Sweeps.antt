-- The elimination, row by row.
use Rattle.std.proofs.Common.{◌≡◌, ℕ, ◌+◌, ◌*◌, ◌<◌, ◌≤◌, ◌≢◌, ◌⊎◌, List, ◌++◌, ◌-◌, length, get_or, take, drop, min, sym, refl, ap, ◌∙◌, subst, ap₂, inl, inr, arith, length-take, get_or-drop, get_or-take}
use Rattle.std.proofs.lemmas.List.{get_or-append-add, get_or_append_left}
use mathlib.Core.Path.{fun_ext}
use native.Mathlib.Decide.{ℕ_discrete, dec_lt}
use Rattle.algebra.specs.Poly.{padd, scale}
use Rattle.algebra.specs.RingLaws as L
use Rattle.fields.specs.Numbers.{Numbers, AllBelow, Element, elem, pos, plus, times, ring_of, elem_neg, elem_inj}
use Rattle.polynomials.specs.Series.{poly, Reads, plus_multiple, plus_shifted}
use Rattle.polynomials.proofs.Readings.{all_at, past, poly_at, poly_past, mul_zero}
use Rattle.polynomials.proofs.Shapes.{up, up_length, up_at, up_under, poly_up}
use Rattle.functionals.specs.Runs.{run}
use Rattle.elimination.specs.Rows.{Swept, Stored}
use Rattle.functionals.proofs.Runs.{run_room, family_at, family_past}

-- the first k rows are done, but p
pub record Sweeping (F : Numbers) (size : ℕ) (rows pivot values : List ℕ) (p k : ℕ) (after : List ℕ) : Type 0 where
  pub below : AllBelow F.q after
  pub done : (i : ℕ) → i < k → i ≢ p
      → poly F (run size after i) ≡ plus_multiple F (poly F (run size rows i)) (F.neg (F.mul (get_or values i 0) (F.inv (get_or values p 0)))) (poly F pivot)
  pub kept : (i : ℕ) → (k ≤ i) ⊎ (i ≡ p) → poly F (run size after i) ≡ poly F (run size rows i)

module _ (F : Numbers) where
  module _ (xs ys pivot : List ℕ) (c j : ℕ) (r : Reads F ys (plus_shifted F (poly F xs) c (j * length pivot) (poly F pivot))) where
    S : ℕ
    S = length pivot

    at : (n : ℕ) → poly F ys n ≡ plus F (poly F xs n) (times F (elem F c) (elem F (get_or (up (j * length pivot) pivot) n 0)))
    unfolding padd scale
    at n =
        ap (λ (p : ℕ → Element F). p n) r.is
        ∙ ap (λ z. plus F (poly F xs n) (times F (elem F c) z))
        (ap (λ (p : ℕ → Element F). p n) (sym (poly_up F (j * length pivot) pivot)) ∙ poly_at F (up (j * length pivot) pivot) n)

    -- the row j changes
    pub shifted_here : poly F (run (length pivot) ys j) ≡ plus_multiple F (poly F (run (length pivot) xs j)) c (poly F pivot)
    unfolding padd scale
    shifted_here = fun_ext (λ m. go m (dec_lt m (length pivot)))
      where
        go : (m : ℕ) → Dec (m < length pivot)
            → poly F (run (length pivot) ys j) m ≡ plus F (poly F (run (length pivot) xs j) m) (times F (elem F c) (poly F pivot m))
        go m (yes l) =
            family_at F (length pivot) ys j m l ∙ at (j * length pivot + m)
            ∙ ap₂ (λ y z. plus F y (times F (elem F c) z)) (sym (family_at F (length pivot) xs j m l))
            (ap (elem F) (up_at (j * length pivot) pivot m) ∙ sym (poly_at F pivot m))
        go m (no l) =
            family_past F (length pivot) ys j m (omega arith)
            ∙ sym (ap₂ (λ y z. plus F y (times F (elem F c) z)) (family_past F (length pivot) xs j m (omega arith)) (poly_past F pivot m (omega arith))
            ∙ ap (plus F (elem F 0)) (L.mul_zero (ring_of F) (elem F c)) ∙ (ring_of F).add_zero (elem F 0))

    -- and no other
    pub shifted_other : (i : ℕ) → i ≢ j → poly F (run (length pivot) ys i) ≡ poly F (run (length pivot) xs i)
    shifted_other i h = fun_ext (λ m. go m (dec_lt m (length pivot)))
      where
        none : (m : ℕ) → m < length pivot → Dec (i < j) → get_or (up (j * length pivot) pivot) (i * length pivot + m) 0 ≡ 0
        none m l (yes k) =
            let u : i * length pivot + length pivot ≤ j * length pivot = run_room i j (length pivot) (j * length pivot) k (omega arith) in
            up_under (j * length pivot) pivot (i * length pivot + m) (omega arith)
        none m l (no k) =
            let u : j * length pivot + length pivot ≤ i * length pivot = run_room j i (length pivot) (i * length pivot) (omega arith) (omega arith) in
            past F (up (j * length pivot) pivot) (i * length pivot + m) (omega (arith, up_length (j * length pivot) pivot))

        go : (m : ℕ) → Dec (m < length pivot) → poly F (run (length pivot) ys i) m ≡ poly F (run (length pivot) xs i) m
        go m (yes l) =
            family_at F (length pivot) ys i m l ∙ at (i * length pivot + m)
            ∙ ap (λ z. plus F (poly F xs (i * length pivot + m)) (times F (elem F c) z)) (ap (elem F) (none m l (dec_lt i j)))
            ∙ ap (plus F (poly F xs (i * length pivot + m))) (L.mul_zero (ring_of F) (elem F c))
            ∙ (ring_of F).add_zero _ ∙ sym (family_at F (length pivot) xs i m l)
        go m (no l) = family_past F (length pivot) ys i m (omega arith) ∙ sym (family_past F (length pivot) xs i m (omega arith))

  module _ (rows pivot values : List ℕ) (p : ℕ) where
    pub sweep_none : AllBelow F.q rows → Sweeping F (length pivot) rows pivot values p 0 rows
    sweep_none all = record { below = all; done = λ i h n. absurd (let z : i < 0 = h in omega arith); kept = λ i h. refl }

    pub sweep_pass : (k : ℕ) (xs : List ℕ) → k ≡ p → Sweeping F (length pivot) rows pivot values p k xs
        → Sweeping F (length pivot) rows pivot values p (k + 1) xs
    sweep_pass k xs e s =
        record {
          below = s.below;
          done = λ i h n. s.done i (omega arith) n;
          kept = λ i h. s.kept i (elim h [ inl u ↦ inl (let v : k + 1 ≤ i = u in omega arith) | inr u ↦ inr u ]);
        }

    pub sweep_turn : (k c : ℕ) (xs ys : List ℕ) → k ≢ p → c ≡ F.neg (F.mul (get_or values k 0) (F.inv (get_or values p 0)))
        → Reads F ys (plus_shifted F (poly F xs) c (k * length pivot) (poly F pivot))
        → Sweeping F (length pivot) rows pivot values p k xs → Sweeping F (length pivot) rows pivot values p (k + 1) ys
    sweep_turn k c xs ys n e r s =
        record { below = r.below; done = λ i h m. done i h m (ℕ_discrete i k); kept = kept }
      where
        done : (i : ℕ) → i < k + 1 → i ≢ p → Dec (i ≡ k)
            → poly F (run (length pivot) ys i) ≡ plus_multiple F (poly F (run (length pivot) rows i)) (F.neg (F.mul (get_or values i 0) (F.inv (get_or values p 0)))) (poly F pivot)
        done i h m (yes q) =
            subst (λ (i : ℕ). poly F (run (length pivot) ys i) ≡ plus_multiple F (poly F (run (length pivot) rows i)) (F.neg (F.mul (get_or values i 0) (F.inv (get_or values p 0)))) (poly F pivot))
            (sym q)
            (shifted_here xs ys pivot c k r
            ∙ ap₂ (λ (f : ℕ → Element F) (d : ℕ). plus_multiple F f d (poly F pivot)) (s.kept k (inl (omega arith))) e)
        done i h m (no q) = shifted_other xs ys pivot c k r i q ∙ s.done i (omega arith) m

        kept : (i : ℕ) → (k + 1 ≤ i) ⊎ (i ≡ p) → poly F (run (length pivot) ys i) ≡ poly F (run (length pivot) rows i)
        kept i (inl u) = shifted_other xs ys pivot c k r i (omega arith) ∙ s.kept i (inl (omega arith))
        kept i (inr u) = shifted_other xs ys pivot c k r i (omega arith) ∙ s.kept i (inr u)

    -- a row whose value is 0 stays
    pub sweep_still : (k : ℕ) (xs : List ℕ) → get_or values k 0 ≡ 0 → Sweeping F (length pivot) rows pivot values p k xs
        → Sweeping F (length pivot) rows pivot values p (k + 1) xs
    unfolding padd scale
    sweep_still k xs z s =
        record {
          below = s.below;
          done = λ i h n. done i h n (ℕ_discrete i k);
          kept = λ i h. s.kept i (elim h [ inl u ↦ inl (let v : k + 1 ≤ i = u in omega arith) | inr u ↦ inr u ]);
        }
      where
        none : F.neg (F.mul (get_or values k 0) (F.inv (get_or values p 0))) ≡ 0
        none =
            ap (λ (v : ℕ). F.neg (F.mul v (F.inv (get_or values p 0)))) z
            ∙ ap F.neg (F.laws.mul_comm 0 (F.inv (get_or values p 0)) (pos F) (F.laws.inv_below _) ∙ mul_zero F (F.inv (get_or values p 0)) (F.laws.inv_below _))
            ∙ elem_inj F (F.neg 0) 0 (F.laws.neg_below 0) (pos F) (elem_neg F 0 (pos F) ∙ L.neg_zero (ring_of F))

        still : poly F (run (length pivot) rows k)
            ≡ plus_multiple F (poly F (run (length pivot) rows k)) (F.neg (F.mul (get_or values k 0) (F.inv (get_or values p 0)))) (poly F pivot)
        still = fun_ext (λ m.
            sym (ap (λ (c : ℕ). plus F (poly F (run (length pivot) rows k) m) (times F (elem F c) (poly F pivot m))) none
            ∙ ap (plus F (poly F (run (length pivot) rows k) m)) (L.zero_mul (ring_of F) (poly F pivot m)) ∙ (ring_of F).add_zero _))

        done : (i : ℕ) → i < k + 1 → i ≢ p → Dec (i ≡ k)
            → poly F (run (length pivot) xs i) ≡ plus_multiple F (poly F (run (length pivot) rows i)) (F.neg (F.mul (get_or values i 0) (F.inv (get_or values p 0)))) (poly F pivot)
        done i h m (yes q) =
            subst (λ (i : ℕ). poly F (run (length pivot) xs i) ≡ plus_multiple F (poly F (run (length pivot) rows i)) (F.neg (F.mul (get_or values i 0) (F.inv (get_or values p 0)))) (poly F pivot))
            (sym q) (s.kept k (inl (let u : k ≤ k = omega arith in u)) ∙ still)
        done i h m (no q) = s.done i (omega arith) m

    pub sweep_all : (k : ℕ) (xs : List ℕ) → length values ≤ k → Sweeping F (length pivot) rows pivot values p k xs
        → Swept F (length pivot) rows pivot values p xs
    sweep_all k xs h s =
        record {
          below = s.below;
          others = λ j l n. s.done j (omega arith) n;
          same = s.kept p (inr refl);
        }

  -- a copy to the row p
  pub stored : (rows pivot : List ℕ) {after : List ℕ} (p : ℕ) → AllBelow F.q rows → AllBelow F.q pivot → p * length pivot + length pivot ≤ length rows
      → after ≡ take (p * length pivot) rows ++ (pivot ++ drop (p * length pivot + length pivot) rows) → Stored F rows pivot p after
  stored rows pivot {after} p hr hp room e =
      record {
        below = λ k h. below k (dec_lt k (p * length pivot)) (dec_lt k (p * length pivot + length pivot));
        here = fun_ext (λ m. here m (dec_lt m (length pivot)));
        other = λ j ne. fun_ext (λ m. other j ne m (dec_lt m (length pivot)) (dec_lt j p));
      }
    where
      front : length (take (p * length pivot) rows) ≡ p * length pivot
      front = length-take (p * length pivot) rows ∙ (let z : min (p * length pivot) (length rows) ≡ p * length pivot = omega arith in z)

      under : (k : ℕ) → k < p * length pivot → get_or after k 0 ≡ get_or rows k 0
      under k l =
          ap (λ (a : List ℕ). get_or a k 0) e
          ∙ get_or_append_left (take (p * length pivot) rows) (pivot ++ drop (p * length pivot + length pivot) rows) 0 k (omega (arith, front))
          ∙ get_or-take (p * length pivot) rows k 0 l

      past_front : (m : ℕ) → get_or after (p * length pivot + m) 0 ≡ get_or (pivot ++ drop (p * length pivot + length pivot) rows) m 0
      past_front m =
          ap (λ (a : List ℕ). get_or a (p * length pivot + m) 0) e
          ∙ ap (λ (n : ℕ). get_or (take (p * length pivot) rows ++ (pivot ++ drop (p * length pivot + length pivot) rows)) (n + m) 0) (sym front)
          ∙ get_or-append-add (take (p * length pivot) rows) (pivot ++ drop (p * length pivot + length pivot) rows) m 0

      inside : (m : ℕ) → m < length pivot → get_or after (p * length pivot + m) 0 ≡ get_or pivot m 0
      inside m l = past_front m ∙ get_or_append_left pivot (drop (p * length pivot + length pivot) rows) 0 m l

      over : (k : ℕ) → p * length pivot + length pivot ≤ k → get_or after k 0 ≡ get_or rows k 0
      over k l =
          let i : ℕ = k - (p * length pivot + length pivot) in
          let z : k ≡ p * length pivot + (length pivot + i) = omega arith in
          let y : p * length pivot + length pivot + i ≡ k = omega arith in
          ap (λ (n : ℕ). get_or after n 0) z ∙ past_front (length pivot + i)
          ∙ get_or-append-add pivot (drop (p * length pivot + length pivot) rows) i 0
          ∙ get_or-drop (p * length pivot + length pivot) rows i 0 ∙ ap (λ (n : ℕ). get_or rows n 0) y

      below : (k : ℕ) → Dec (k < p * length pivot) → Dec (k < p * length pivot + length pivot) → get_or after k 0 < F.q
      below k (yes l) d = subst (λ (z : ℕ). z < F.q) (sym (under k l)) (all_at F rows hr k)
      below k (no l) (yes u) =
          let m : ℕ = k - p * length pivot in
          let z : k ≡ p * length pivot + m = omega arith in
          subst (λ (z : ℕ). z < F.q) (sym (ap (λ (n : ℕ). get_or after n 0) z ∙ inside m (omega arith))) (all_at F pivot hp m)
      below k (no l) (no u) = subst (λ (z : ℕ). z < F.q) (sym (over k (omega arith))) (all_at F rows hr k)

      here : (m : ℕ) → Dec (m < length pivot) → poly F (run (length pivot) after p) m ≡ poly F pivot m
      here m (yes l) =
          family_at F (length pivot) after p m l ∙ poly_at F after (p * length pivot + m)
          ∙ ap (elem F) (inside m l) ∙ sym (poly_at F pivot m)
      here m (no l) = family_past F (length pivot) after p m (omega arith) ∙ sym (poly_past F pivot m (omega arith))

      same : (j m : ℕ) → m < length pivot → get_or after (j * length pivot + m) 0 ≡ get_or rows (j * length pivot + m) 0
          → poly F (run (length pivot) after j) m ≡ poly F (run (length pivot) rows j) m
      same j m l q =
          family_at F (length pivot) after j m l ∙ poly_at F after (j * length pivot + m) ∙ ap (elem F) q
          ∙ sym (poly_at F rows (j * length pivot + m)) ∙ sym (family_at F (length pivot) rows j m l)

      other : (j : ℕ) → j ≢ p → (m : ℕ) → Dec (m < length pivot) → Dec (j < p) → poly F (run (length pivot) after j) m ≡ poly F (run (length pivot) rows j) m
      other j ne m (yes l) (yes k) =
          let u : j * length pivot + length pivot ≤ p * length pivot = run_room j p (length pivot) (p * length pivot) k (omega arith) in
          same j m l (under (j * length pivot + m) (omega arith))
      other j ne m (yes l) (no k) =
          let u : p * length pivot + length pivot ≤ j * length pivot = run_room p j (length pivot) (j * length pivot) (omega arith) (omega arith) in
          same j m l (over (j * length pivot + m) (omega arith))
      other j ne m (no l) d = family_past F (length pivot) after j m (omega arith) ∙ sym (family_past F (length pivot) rows j m (omega arith))
