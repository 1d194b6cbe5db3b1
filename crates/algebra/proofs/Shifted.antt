-- The shift x ↦ x + a of polynomials whose bounds are left open: through sums, products, powers and homogeneous forms.
use mathlib.Core.Path.{◌≡◌, refl, sym, ◌∙◌, ap₂}
use Prim.Native.Nat.{ℕ, zero, suc, ◌+◌, ◌-◌, ◌≤◌, ◌<◌}
use native.Mathlib.Omega.{arith}
use Rattle.algebra.specs.Ring.{Ring}
use Rattle.algebra.specs.Sums.{sum, pow}
use Rattle.algebra.specs.Poly.{conv, padd, pzero, const, lin, Below}
use Rattle.algebra.specs.PolyRing.{Poly}
use Rattle.algebra.specs.Taylor.{shift, form}
use Rattle.algebra.proofs.Eval.{below_add, below_const, below_conv, ev_zero, ev_more, ev_add}
use Rattle.algebra.proofs.Shift.{const_hom, shift_conv, ev_const}

-- p (x + a) is q, for a p with a bounded number of coefficients
pub record Shifted (R : Ring) (a : R.El) (p q : ℕ → R.El) : Type 0 where
  pub bound : ℕ
  pub below : Below R bound p
  pub same : shift R a bound p ≡ q

module _ (R : Ring) (a : R.El) where
  infixl 60 ◌⊕◌
  infixl 70 ◌⊗◌
  infix 80 ⊖◌
  open R use {El, 𝟘, 𝟙, ◌⊕◌, ⊖◌, ◌⊗◌}

  pub shift_more : (n m : ℕ) (p : ℕ → El) → Below R n p → n ≤ m → shift R a m p ≡ shift R a n p
  shift_more n m p h k = ev_more R (Poly R) (const R) (const_hom R) (lin R (⊖ a)) n m p h k

  pub shifted_of : (n : ℕ) (p : ℕ → El) → Below R n p → Shifted R a p (shift R a n p)
  shifted_of n p h = record { bound = n; below = h; same = refl }

  -- whatever the bound
  pub shifted_at : (n : ℕ) {p q : ℕ → El} → Shifted R a p q → Below R n p → shift R a n p ≡ q
  shifted_at n {p} s h =
      sym (shift_more n (n + s.bound) p h (omega arith))
      ∙ shift_more s.bound (n + s.bound) p s.below (omega arith) ∙ s.same

  pub shifted_zero : Shifted R a (pzero R) (pzero R)
  shifted_zero =
      record { bound = 0; below = λ i _. unfold pzero in refl; same = ev_zero R (Poly R) (const R) (const_hom R) (lin R (⊖ a)) 0 }

  pub shifted_one : Shifted R a (const R 𝟙) (const R 𝟙)
  shifted_one =
      record { bound = 1; below = below_const R 𝟙; same = ev_const R (Poly R) (const R) (const_hom R) 𝟙 (lin R (⊖ a)) 0 }

  pub shifted_add : {p q p' q' : ℕ → El} → Shifted R a p p' → Shifted R a q q' → Shifted R a (padd R p q) (padd R p' q')
  shifted_add {p} {q} s t =
      record {
        bound = s.bound + t.bound;
        below = below_add R (s.bound + t.bound) p q (λ i k. s.below i (omega arith)) (λ i k. t.below i (omega arith));
        same =
            ev_add R (Poly R) (const R) (const_hom R) (lin R (⊖ a)) (s.bound + t.bound) p q
            ∙ ap₂ (padd R) (shifted_at (s.bound + t.bound) s (λ i k. s.below i (omega arith)))
            (shifted_at (s.bound + t.bound) t (λ i k. t.below i (omega arith)));
      }

  pub shifted_mul : {p q p' q' : ℕ → El} → Shifted R a p p' → Shifted R a q q' → Shifted R a (conv R p q) (conv R p' q')
  shifted_mul {p} {q} s t =
      record {
        bound = s.bound + t.bound;
        below = λ i k. below_conv R s.bound t.bound p q s.below t.below i (omega arith);
        same =
            shift_conv R a s.bound t.bound (s.bound + t.bound) p q s.below t.below (omega arith)
            ∙ ap₂ (conv R) s.same t.same;
      }

  pub shifted_pow : {p q : ℕ → El} → Shifted R a p q → (n : ℕ) → Shifted R a (pow (Poly R) p n) (pow (Poly R) q n)
  unfolding pow
  shifted_pow s zero = shifted_one
  shifted_pow s (suc n) = shifted_mul s (shifted_pow s n)

  pub shifted_sum : (n : ℕ) (f g : ℕ → ℕ → El) → ((i : ℕ) → i < n → Shifted R a (f i) (g i))
      → Shifted R a (sum (Poly R) n f) (sum (Poly R) n g)
  unfolding sum
  shifted_sum zero f g h = shifted_zero
  shifted_sum (suc n) f g h = shifted_add (shifted_sum n f g (λ i k. h i (omega arith))) (h n (omega arith))

  pub shifted_form : (ℓ : ℕ) (Q Q' : ℕ → ℕ → El) {y z y' z' : ℕ → El} → ((t : ℕ) → t ≤ ℓ → Shifted R a (Q t) (Q' t))
      → Shifted R a y y' → Shifted R a z z' → Shifted R a (form (Poly R) ℓ Q y z) (form (Poly R) ℓ Q' y' z')
  unfolding form
  shifted_form ℓ Q Q' {y} {z} {y'} {z'} hQ hy hz =
      shifted_sum (suc ℓ) (λ t. conv R (Q t) (conv R (pow (Poly R) y t) (pow (Poly R) z (ℓ - t))))
      (λ t. conv R (Q' t) (conv R (pow (Poly R) y' t) (pow (Poly R) z' (ℓ - t))))
      (λ t k. shifted_mul (hQ t (omega arith)) (shifted_mul (shifted_pow hy t) (shifted_pow hz (ℓ - t))))
