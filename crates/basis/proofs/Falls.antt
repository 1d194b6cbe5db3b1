-- The size of a falls with each step of the rows.
use Rattle.std.proofs.Common.{◌≡◌, ℕ, zero, suc, ◌+◌, ◌-◌, ◌<◌, ◌≤◌, Bool, true, false, cond, eqb, List, length, get_or, sym, refl, ap, ◌∙◌, subst, arith}
use native.Mathlib.Decide.{dec_lt}
use borrow.Author.Tests.{eqb-false}
use Rattle.algebra.specs.Poly.{Below, Degree}
use Rattle.algebra.specs.Division.{remainder}
use Rattle.algebra.proofs.Division.{remainder_below}
use Rattle.fields.specs.Numbers.{Numbers, AllBelow, pos, ring_of, field_of, elem_inj}
use Rattle.polynomials.specs.Series.{poly}
use Rattle.polynomials.proofs.Readings.{all_at}
use Rattle.polynomials.proofs.Divides.{ratio_is, step_is}
use Rattle.stages.specs.Coefficients.{size_to, size}
use Rattle.stages.specs.Euclid.{Row, row_less, divide, next}
use Rattle.stages.proofs.Coefficients.{size_under, size_has_degree, less_reads}
use Rattle.basis.specs.Rows.{Fits}
use Rattle.basis.proofs.Steps.{less_fits, divide_fits, size_within}

module _ (F : Numbers) where
  -- a list whose coefficients from the place m on are zero
  size_bound : (n m : ℕ) (xs : List ℕ) → AllBelow F.q xs → Below (ring_of F) m (poly F xs) → size_to n xs ≤ m
  unfolding size_to poly
  size_bound zero m xs all h = omega arith
  size_bound (suc n) m xs all h = go (eqb (get_or xs n 0) 0) refl (size_bound n m xs all h)
    where
      go : (t : Bool) → eqb (get_or xs n 0) 0 ≡ t → size_to n xs ≤ m → cond t (size_to n xs) (suc n) ≤ m
      go true e ih = ih
      go false e ih =
          elim (dec_lt n m) [
            | yes l ↦ l
            | no l ↦ absurd (eqb-false (get_or xs n 0) 0 e (elem_inj F (get_or xs n 0) 0 (all_at F xs all n) (pos F) (h n (omega arith))))
          ]

  -- the division leaves the remainder of the a's
  divide_remainder : {n : ℕ} (m : ℕ) (L : Row) → Fits F.q n L → Below (ring_of F) (suc m) (poly F L.a) → (k : ℕ) (P : Row) → Fits F.q n P
      → k + m ≤ n → poly F (divide F m L k P).a ≡ remainder (field_of F) m (poly F L.a) k (poly F P.a)
  unfolding divide remainder
  divide_remainder m L hL low zero P hP room = refl
  divide_remainder {n} m L hL low (suc k) P hP room =
      divide_remainder m L hL low k (row_less F c k L P) (less_fits F c k L P hP) (omega arith)
      ∙ ap (remainder (field_of F) m (poly F L.a) k)
      (less_reads F c k L.a P.a hL.a_below hP.a_below (λ i h. low i (let e : length P.a ≡ n = hP.a_length in omega arith))
      ∙ step_is F (poly F P.a) (poly F L.a) k m c (F.laws.mul_below _ _) (ratio_is F P.a L.a (k + m) m hP.a_below hL.a_below))
    where
      c : ℕ
      c = F.mul (get_or P.a (k + m) 0) (F.inv (get_or L.a m 0))

  pub next_falls : {n : ℕ} (P L : Row) → Fits F.q n P → Fits F.q n L → 0 < size L.a → size (next F P L).a < size L.a
  next_falls {n} P L hP hL some =
      let m : ℕ = size L.a - 1 in
      let k : ℕ = size P.a - m in
      let e : size L.a ≡ suc m = omega arith in
      let deg : Degree (ring_of F) m (poly F L.a) = size_has_degree F L.a m hL.a_below e in
      let lp : length P.a ≡ n = hP.a_length in
      let ll : length L.a ≡ n = hL.a_length in
      let wp = size_within (length P.a) P.a in
      let wl = size_within (length L.a) L.a in
      let hN : Fits F.q n (next F P L) = divide_fits F m L k P hP in
      let b : size (next F P L).a ≤ m =
      size_bound (length (next F P L).a) m (next F P L).a hN.a_below
      (subst (Below (ring_of F) m) (sym (divide_remainder m L hL deg.below k P hP (omega arith)))
      (remainder_below (field_of F) m (poly F L.a) deg k (poly F P.a)
      (λ i h. size_under F P.a hP.a_below i (omega arith)))) in
      omega arith
