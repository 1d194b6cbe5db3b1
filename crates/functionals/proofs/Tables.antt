-- The tables of a place: what each number of them is, and what their rows are.
use Rattle.std.proofs.Common.{◌≡◌, ℕ, zero, suc, ◌+◌, ◌-◌, ◌*◌, ◌/◌, ◌%◌, ◌<◌, ◌≤◌, ◌≢◌, List, length, get_or, sym, refl, ap, ◌∙◌, subst, ap₂, arith}
use native.Mathlib.Decide.{ℕ_discrete}
use native.Mathlib.Nat.{zero-mod, zero-div}
use lib.Arith.{digits_div, digits_mod}
use Rattle.algebra.proofs.Taylor.{tay_same, tay_other}
use Rattle.fields.specs.Numbers.{Numbers, AllBelow, Element, elem, pos, plus, times, over, ring_of, field_of, elem_mul, elem_inv, elem_inj}
use Rattle.polynomials.proofs.Writes.{Written}
use Rattle.polynomials.proofs.Readings.{poly_at, elem_multiple}
use Rattle.std.proofs.lemmas.Nat.{div-add-mod', mod_below}
use Rattle.algebra.specs.Taylor.{tay}
use Rattle.decoding.specs.Multiplicity.{Slope as Point, finite, infinite, slope, expansion}
use Rattle.functionals.specs.Runs.{run}
use Rattle.functionals.specs.Tables.{coefficient, TaylorTable, WeightTable}
use Rattle.functionals.proofs.Runs.{run_at, run_length, run_below, run_long}

-- what a table has at the place i, if f a m stands in its row a at the place m
abbrev pub cell : ℕ → (ℕ → ℕ → ℕ) → ℕ → ℕ
cell size f i = f (i % size) (i / size)

pub cell_at : (size : ℕ) (f : ℕ → ℕ → ℕ) (a m : ℕ) → m < size → cell size f (a * size + m) ≡ f m a
cell_at size f a m h = ap₂ f (digits_mod a h) (digits_div a h)

-- a list that was written to its end
pub cell_run : (size n : ℕ) (f : ℕ → ℕ → ℕ) (xs ys : List ℕ) → Written 0 n (cell size f) xs ys → length xs ≤ n
    → (a m : ℕ) → a * size + size ≤ length ys → m < size → get_or (run size ys a) m 0 ≡ f m a
cell_run size n f xs ys w l a m h k =
    let same = w.long in
    run_at size ys a m k ∙ w.inside (a * size + m) (omega arith) (omega arith) ∙ cell_at size f a m k

module _ (F : Numbers) where
  pub cells_below : (size n : ℕ) (f : ℕ → ℕ → ℕ) (xs ys : List ℕ) → Written 0 n (cell size f) xs ys → length xs ≤ n
      → ((m a : ℕ) → f m a < F.q) → AllBelow F.q ys
  cells_below size n f xs ys w l b k h =
      let same = w.long in
      subst (λ (z : ℕ). z < F.q) (sym (w.inside k (omega arith) (omega arith))) (b (k % size) (k / size))

  module _ (α : ℕ) where
    pub coefficient_below : (m a : ℕ) → coefficient F α m a < F.q
    unfolding coefficient
    coefficient_below zero zero = F.laws.two
    coefficient_below zero (suc a) = pos F
    coefficient_below (suc m) zero = F.laws.mul_below _ _
    coefficient_below (suc m) (suc a) = F.laws.add_below _ _

    pub coefficient_is : α < F.q → (m a : ℕ) → elem F (coefficient F α m a) ≡ tay (ring_of F) (elem F α) m a
    unfolding tay coefficient
    coefficient_is h zero zero = refl
    coefficient_is h zero (suc a) = refl
    coefficient_is h (suc m) zero = elem_mul F α (coefficient F α m 0) h (coefficient_below m 0) ∙ ap (times F (elem F α)) (coefficient_is h m 0)
    coefficient_is h (suc m) (suc a) =
        elem_multiple F (coefficient F α m a) α (coefficient F α m (suc a)) (coefficient_below m a) h (coefficient_below m (suc a))
        ∙ ap₂ (plus F) (coefficient_is h m a) (ap (times F (elem F α)) (coefficient_is h m (suc a)))

    -- the numbers of a table from those before them: the first of all, the first of a row, any other of the first row, and the rest
    module _ (size : ℕ) (some : 0 < size) (xs : List ℕ) (i : ℕ) (before : (k : ℕ) → k < i → get_or xs k 0 ≡ cell size (coefficient F α) k) where
      split : i ≡ i / size * size + i % size
      split = sym (div-add-mod' i size)

      -- a number before, in the row a at the place m
      earlier : (k a m : ℕ) → k < i → k ≡ a * size + m → m < size → get_or xs k 0 ≡ coefficient F α m a
      earlier k a m h e l = before k h ∙ ap (cell size (coefficient F α)) e ∙ cell_at size (coefficient F α) a m l

      pub entry_first : i ≡ 0 → 1 ≡ coefficient F α (i % size) (i / size)
      unfolding coefficient
      entry_first e =
          sym (ap (cell size (coefficient F α)) e ∙ ap₂ (coefficient F α) (zero-mod size) (zero-div size))

      pub entry_left : i ≢ 0 → i % size ≡ 0 → 0 ≡ coefficient F α (i % size) (i / size)
      unfolding coefficient
      entry_left n e = go (i % size) (i / size) split e
        where
          go : (m a : ℕ) → i ≡ a * size + m → m ≡ 0 → 0 ≡ coefficient F α m a
          go zero zero u z = absurd (n (let w : i ≡ 0 * size + 0 = u in omega arith))
          go zero (suc a) u z = refl
          go (suc m) a u z = absurd (let w : suc m ≡ 0 = z in omega arith)

      pub entry_top : i % size ≢ 0 → i < size → F.mul α (get_or xs (i - 1) 0) ≡ coefficient F α (i % size) (i / size)
      unfolding coefficient
      entry_top n h = go (i % size) (i / size) split n
        where
          go : (m a : ℕ) → i ≡ a * size + m → m ≢ 0 → F.mul α (get_or xs (i - 1) 0) ≡ coefficient F α m a
          go zero a u z = absurd (z refl)
          go (suc m) zero u z = ap (F.mul α) (earlier (i - 1) 0 m (omega arith) (omega arith) (omega arith))
          go (suc m) (suc a) u z = absurd (let w : i ≡ suc a * size + suc m = u in omega arith)

      pub entry_rest : i % size ≢ 0 → size ≤ i
          → F.add (get_or xs (i - size - 1) 0) (F.mul α (get_or xs (i - 1) 0)) ≡ coefficient F α (i % size) (i / size)
      unfolding coefficient
      entry_rest n h = go (i % size) (i / size) split n (mod_below i size some)
        where
          go : (m a : ℕ) → i ≡ a * size + m → m ≢ 0 → m < size
              → F.add (get_or xs (i - size - 1) 0) (F.mul α (get_or xs (i - 1) 0)) ≡ coefficient F α m a
          go zero a u z l = absurd (z refl)
          go (suc m) zero u z l = absurd (let w : i ≡ 0 * size + suc m = u in omega arith)
          go (suc m) (suc a) u z l =
              let w : i ≡ suc a * size + suc m = u in
              ap₂ F.add (earlier (i - size - 1) a m (omega arith) (omega arith) (omega arith))
              (ap (F.mul α) (earlier (i - 1) (suc a) m (omega arith) (omega arith) (omega arith)))

    pub taylor_table : (size n : ℕ) (xs ys : List ℕ) → α < F.q → Written 0 n (cell size (coefficient F α)) xs ys → length xs ≤ n
        → TaylorTable F α size ys
    taylor_table size n xs ys h w l =
        let all = cells_below size n (coefficient F α) xs ys w l coefficient_below in
        record {
          below = all;
          row = λ a k. record {
            below = run_below F size ys a all;
            is = λ m u. poly_at F (run size ys a) m
                ∙ ap (elem F) (cell_run size n (coefficient F α) xs ys w l a m k (omega (arith, run_length size ys a)))
                ∙ coefficient_is h m a;
          };
        }

  -- the weights at a finite slope are a Taylor table
  pub finite_table : (β size : ℕ) (xs : List ℕ) → TaylorTable F β size xs → WeightTable F (finite (elem F β)) size xs
  unfolding expansion
  finite_table β size xs t = record { below = t.below; row = λ b k. record { below = (t.row b k).below; is = (t.row b k).is } }

  -- and those at the infinite one have a single 1 in each row
  unfoldable pub unit : ℕ → ℕ → ℕ → ℕ
  unit size t b = elim (ℕ_discrete (t + b) (size - 1)) [ yes _ ↦ 1 | no _ ↦ 0 ]

  pub unit_yes : (size t b : ℕ) → t + b ≡ size - 1 → 1 ≡ unit size t b
  unfolding unit
  unit_yes size t b e = go (ℕ_discrete (t + b) (size - 1))
    where
      go : (d : Dec (t + b ≡ size - 1)) → ◌≡◌ {A = ℕ} 1 (elim d [ yes _ ↦ 1 | no _ ↦ 0 ])
      go (yes _) = refl
      go (no n) = absurd (n e)

  pub unit_no : (size t b : ℕ) → t + b ≢ size - 1 → 0 ≡ unit size t b
  unfolding unit
  unit_no size t b n = go (ℕ_discrete (t + b) (size - 1))
    where
      go : (d : Dec (t + b ≡ size - 1)) → ◌≡◌ {A = ℕ} 0 (elim d [ yes _ ↦ 1 | no _ ↦ 0 ])
      go (yes e) = absurd (n e)
      go (no _) = refl

  unit_below : (size t b : ℕ) → unit size t b < F.q
  unfolding unit
  unit_below size t b = go (ℕ_discrete (t + b) (size - 1))
    where
      go : (d : Dec (t + b ≡ size - 1)) → elim d [ yes _ ↦ 1 | no _ ↦ 0 ] < F.q
      go (yes _) = F.laws.two
      go (no _) = pos F

  unit_is : (size t b : ℕ) → t < size → elem F (unit size t b) ≡ tay (ring_of F) (elem F 0) (size - 1 - t) b
  unit_is size t b h = go (ℕ_discrete (t + b) (size - 1))
    where
      go : Dec (t + b ≡ size - 1) → elem F (unit size t b) ≡ tay (ring_of F) (elem F 0) (size - 1 - t) b
      go (yes e) =
          ap (elem F) (sym (unit_yes size t b e))
          ∙ sym (ap (λ (j : ℕ). tay (ring_of F) (elem F 0) j b) (let k : size - 1 - t ≡ b = omega arith in k) ∙ tay_same (ring_of F) b)
      go (no e) = ap (elem F) (sym (unit_no size t b e)) ∙ sym (tay_other (ring_of F) (size - 1 - t) b (omega arith))

  pub unit_table : (size n : ℕ) (xs ys : List ℕ) → Written 0 n (cell size (unit size)) xs ys → length xs ≤ n
      → WeightTable F infinite size ys
  unfolding expansion
  unit_table size n xs ys w l =
      let all = cells_below size n (unit size) xs ys w l (unit_below size) in
      record {
        below = all;
        row = λ b k. record {
          below = run_below F size ys b all;
          is = λ t u.
              let v : t < size = omega (arith, run_length size ys b) in
              poly_at F (run size ys b) t ∙ ap (elem F) (cell_run size n (unit size) xs ys w l b t k v) ∙ unit_is size t b v
              ∙ ap (λ (z : ℕ). tay (ring_of F) (elem F 0) (z - 1 - t) b) (sym (run_long size ys b k));
        };
      }

  -- the slope of a point
  pub slope_infinite : (y z : ℕ) → z ≡ 0 → infinite ≡ slope (field_of F) (elem F y) (elem F z)
  slope_infinite y z e = go ((field_of F).equal (elem F z) (elem F 0))
    where
      go : (d : Dec (elem F z ≡ elem F 0)) → ◌≡◌ {A = Point (Element F)} infinite (elim d [ yes _ ↦ infinite | no _ ↦ finite (times F (elem F y) (over F (elem F z))) ])
      go (yes _) = refl
      go (no n) = absurd (n (ap (elem F) e))

  pub slope_finite : (y z v r : ℕ) → y < F.q → z < F.q → z ≢ 0 → v ≡ F.inv z → r ≡ F.mul y v
      → finite (elem F r) ≡ slope (field_of F) (elem F y) (elem F z)
  slope_finite y z v r hy hz n ev er = go ((field_of F).equal (elem F z) (elem F 0))
    where
      same : elem F r ≡ times F (elem F y) (over F (elem F z))
      same =
          ap (elem F) (er ∙ ap (F.mul y) ev) ∙ elem_mul F y (F.inv z) hy (F.laws.inv_below z) ∙ ap (times F (elem F y)) (elem_inv F z hz)

      go : (d : Dec (elem F z ≡ elem F 0)) → ◌≡◌ {A = Point (Element F)} (finite (elem F r)) (elim d [ yes _ ↦ infinite | no _ ↦ finite (times F (elem F y) (over F (elem F z))) ])
      go (yes e) = absurd (n (elem_inj F z 0 hz (pos F) e))
      go (no _) = ap finite same
