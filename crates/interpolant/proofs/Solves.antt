-- From the first rows to the interpolant.
use Rattle.std.proofs.Common.{◌≡◌, ℕ, suc, ◌+◌, ◌-◌, ◌*◌, ◌<◌, ◌≤◌, List, length, get_or, sym, refl, ap, ◌∙◌, subst, mul-le-mul_left, arith}
use mathlib.Core.Path.{fun_ext}
use native.Mathlib.Decide.{dec_lt}
use Rattle.algebra.specs.Sums.{total}
use Rattle.fields.specs.Numbers.{Numbers, Element, elem, field_of}
use Rattle.polynomials.specs.Series.{poly, Reads}
use Rattle.polynomials.proofs.Readings.{poly_at}
use Rattle.decoding.specs.Koetter.{Problem, Live, Interpolant, Triangle, Upto, steps}
use Rattle.decoding.specs.Multiplicity.{slope}
use Rattle.decoding.proofs.Koetter.{started, found, interpolant}
use Rattle.decoding.proofs.Count.{upto_none, upto_all, steps_all, room}
use Rattle.functionals.specs.Runs.{run, family}
use Rattle.functionals.proofs.Runs.{run_room, family_past}
use Rattle.elimination.specs.Stepping.{rows_of, exponents}
use Rattle.elimination.proofs.Steps.{family_cong}
use Rattle.interpolant.specs.States.{State, Reached, PlaceOf, Done}
use Rattle.interpolant.specs.Problems.{FirstRows, FirstRanks, Solution, Enough, problem}
use Rattle.interpolant.specs.declared.Shape.{Shape}
use Rattle.interpolant.proofs.Loops.{moved}

-- the weights are below twice the bound
pub weights_small : (S : Shape) (n : ℕ) → Enough S n → S.degree * (S.w1 + S.w2) < 2 * S.bound
weights_small S n h = go (dec_lt (S.degree * (S.w1 + S.w2)) (2 * S.bound))
  where
    go : Dec (S.degree * (S.w1 + S.w2) < 2 * S.bound) → S.degree * (S.w1 + S.w2) < 2 * S.bound
    go (yes l) = l
    go (no l) =
        absurd (let u : suc S.degree * (2 * S.bound) ≤ suc S.degree * (S.degree * (S.w1 + S.w2)) = mul-le-mul_left (suc S.degree) (omega arith) in
        omega arith)

pub some_bound : (S : Shape) (n : ℕ) → Enough S n → 0 < S.bound
some_bound S n h = go (dec_lt 0 S.bound)
  where
    go : Dec (0 < S.bound) → 0 < S.bound
    go (yes l) = l
    go (no l) = absurd (let u : 2 * suc S.degree * S.bound ≡ 2 * suc S.degree * 0 = ap (λ (z : ℕ). 2 * suc S.degree * z) (omega arith) in omega arith)

module _ (F : Numbers) (S : Shape) (points ys zs : List ℕ) where
  abbrev P : Problem (Element F)
  P = problem F S points ys zs

  -- the places of the problem are those of the lists
  places : (i : ℕ) → i < length points
      → PlaceOf F (problem F S points ys zs) (suc S.degree) S.bound i (get_or points i 0) (slope (field_of F) (poly F ys i) (poly F zs i))
  places i h = record { degree = refl; bound = refl; place = poly_at F points i; weights = λ b t. refl }

  -- the start
  begun : (rows ranks : List ℕ) (s : ℕ) → length rows ≡ suc S.degree * (suc S.degree * S.bound) → length ranks ≡ suc S.degree → 0 < S.bound
      → FirstRows F (suc S.degree * S.bound) S.bound rows → FirstRanks S.w1 S.w2 ranks
      → Reached F (problem F S points ys zs) s 0 0 0 rows ranks
  begun rows ranks s long few some r k =
      moved F P (λ _ _ _. ⊥) (Upto s 0 0 0) 0 (steps s 0 0 0) rows ranks (upto_none s) none
      (record {
        ranked = λ j h. let u = rank j h in omega arith;
        holds = started (field_of F) P (rows_of F P rows) (exponents F P ranks)
            (record {
              exponents = λ j h. let u = rank j h in omega arith;
              one = λ j h l. r.one j (row j h) (position j h) some;
              rest = λ j h l t m u n. rest j h t m u n (dec_lt m S.bound);
            });
      })
    where
      rank : (j : ℕ) → j ≤ S.degree → get_or ranks j 0 ≡ P.W j
      rank j h =
          k j (omega arith)
          ∙ ap (λ (z : ℕ). j * S.w2 + (z - j) * S.w1) (let z : length ranks - 1 ≡ S.degree = omega arith in z)

      row : (j : ℕ) → j ≤ S.degree → j * (suc S.degree * S.bound) + suc S.degree * S.bound ≤ length rows
      row j h = run_room j (suc S.degree) (suc S.degree * S.bound) (length rows) (omega arith) (omega arith)

      position : (t : ℕ) → t ≤ S.degree → t * S.bound + S.bound ≤ suc S.degree * S.bound
      position t h = run_room t (suc S.degree) S.bound (suc S.degree * S.bound) (omega arith) (omega arith)

      rest : (j : ℕ) → j ≤ S.degree → (t m : ℕ) → t ≤ S.degree → (t ≡ j → 0 < m) → Dec (m < S.bound) → rows_of F P rows j t m ≡ elem F 0
      rest j h t m u n (yes l) = r.rest j t m (row j h) (position t u) l n
      rest j h t m u n (no l) = family_past F S.bound (run (suc S.degree * S.bound) rows j) t m (omega arith)

      none : 0 ≡ steps s 0 0 0
      none = unfold total in omega arith

  -- the whole: p is a row of the least rank
  pub solved : (rows₀ ranks₀ rows ranks out : List ℕ) (p : ℕ) → length rows₀ ≡ suc S.degree * (suc S.degree * S.bound)
      → length ranks₀ ≡ suc S.degree → length ranks ≡ suc S.degree → Enough S (length points)
      → FirstRows F (suc S.degree * S.bound) S.bound rows₀ → FirstRanks S.w1 S.w2 ranks₀
      → Done F (suc S.degree) S.bound S.multiplicity points ys zs rows₀ ranks₀ rows ranks
      → p < length ranks → ((j : ℕ) → j < length ranks → get_or ranks p 0 ≤ get_or ranks j 0)
      → Reads F out (poly F (run (suc S.degree * S.bound) rows p)) → Solution F (problem F S points ys zs) (length points) S.multiplicity out
  solved rows₀ ranks₀ rows ranks out p long few₀ few enough r k d h least o =
      record {
        below = o.below;
        is = subst (Interpolant (field_of F) P (Triangle n s)) (sym same)
            (interpolant (field_of F) P (Triangle n s) (steps s n 0 0) (rows_of F P rows) (exponents F P ranks) state.holds p (omega arith) live);
      }
    where
      n : ℕ
      n = length points

      s : ℕ
      s = S.multiplicity

      state : State F P (Triangle n s) (steps s n 0 0) rows ranks
      state =
          moved F P (Upto s n 0 0) (Triangle n s) (steps s n 0 0) (steps s n 0 0) rows ranks (upto_all n s) refl
          (d P places (begun rows₀ ranks₀ s long few₀ (some_bound S n enough) r k))

      more : steps s n 0 0 < total (suc S.degree) (λ t. S.bound - (t * S.w2 + (S.degree - t) * S.w1))
      more =
          room S.degree S.w1 S.w2 S.bound (steps s n 0 0)
          (let u : 2 * steps s n 0 0 ≡ n * (s * suc s) = steps_all n s in omega arith)

      live : Live (field_of F) P (exponents F P ranks) p
      live =
          let (j, l, v) = found (field_of F) P (Triangle n s) (steps s n 0 0) (rows_of F P rows) (exponents F P ranks) state.holds more in
          let a = state.ranked j l in
          let b = state.ranked p (omega arith) in
          let c : get_or ranks p 0 ≤ get_or ranks j 0 = least j (omega arith) in
          omega arith

      same : family F S.bound out ≡ rows_of F P rows p
      same = fun_ext (λ t. fun_ext (λ m. family_cong F S.bound out (run (suc S.degree * S.bound) rows p) o.is t m))
