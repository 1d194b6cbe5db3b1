-- Euclid's algorithm runs to its end: for any rule that says when to stop there are rows at which it does.
use mathlib.Core.Path.{◌≡◌, refl}
use Prim.Native.Nat.{ℕ, zero, suc, ◌+◌, ◌-◌, ◌≤◌, ◌<◌}
use native.Mathlib.Omega.{arith}
use native.Mathlib.Decide.{dec_le}
use Rattle.algebra.specs.Ring.{Ring}
use Rattle.algebra.specs.Field.{Field}
use Rattle.algebra.specs.Poly.{pzero, Below, Degree}
use Rattle.algebra.specs.Division.{size}
use Rattle.algebra.specs.Euclid.{Row, Rows, top, second, next, Stopped}
use Rattle.algebra.proofs.Degrees.{degree_less, size_below, size_degree}
use Rattle.algebra.proofs.Rows.{start, step}

module _ (𝓕 : Field) (limit : ℕ → ℕ) (D : ℕ) (S : ℕ → 𝓕.ring.El) where
  abbrev R : Ring
  R = 𝓕.ring

  -- what a run can start from: two rows, where P was no row to stop at
  abbrev From : ℕ → Type 0
  From k = (p l l' : ℕ) (P L : Row R) → Rows R D S P L p l → Below R (suc l') P.b → limit l' ≤ p → p ≤ k → Stopped R limit D S

  stop : (p l l' : ℕ) (P L : Row R) → Rows R D S P L p l → Below R (suc l') P.b → limit l' ≤ p → Below R (limit l) L.a
      → Stopped R limit D S
  stop p l l' P L I h c low = record { P = P; L = L; p = p; l = l; rows = I; low = low; l' = l'; b_below = h; high = c }

  run : (fuel : ℕ) → From fuel
  run zero p l l' P L I h c k = stop p l l' P L I h c (λ i t. I.a_falls i (omega arith))
  run (suc fuel) p l l' P L I h c k = go (size 𝓕 p L.a) refl (dec_le (size 𝓕 p L.a) (limit l)) (run fuel)
    where
      go : (n : ℕ) → size 𝓕 p L.a ≡ n → Dec (size 𝓕 p L.a ≤ limit l) → From fuel → Stopped R limit D S
      go n e (yes d) more = stop p l l' P L I h c (λ i t. size_below 𝓕 p L.a I.a_falls i (omega arith))
      go zero e (no d) more = absurd (omega arith)
      go (suc m) e (no d) more =
          let hm : Degree R m L.a = size_degree 𝓕 p m L.a I.a_falls e in
          let less : m < p = degree_less 𝓕 m p L.a hm I.a_falls in
          more m (p - m + l) l L (next 𝓕 p m P L) (step 𝓕 I m hm) I.b_degree.below (omega arith) (omega arith)

  pub euclid : Below R D S → limit 0 ≤ D → Stopped R limit D S
  euclid h c =
      run D D 0 0 (top 𝓕 D) (second 𝓕 S) (start 𝓕 D S h) (λ i k. unfold pzero in refl) c (omega arith)
