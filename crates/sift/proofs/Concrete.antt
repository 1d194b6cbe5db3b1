-- The facts that the sift asks for, at lists that are written out: by computed tests.
use Rattle.std.proofs.Common.{ℕ, suc, ◌+◌, ◌<◌, ◌≤◌, not, T, eqb, ltb, List, length, get_or, subst, arith, ltb→lt, T_not}
use lib.Dec.{eqb_refl}
use Rattle.algebra.specs.Poly.{conv, Below}
use Rattle.algebra.specs.Residue.{all_below, at_below}
use Rattle.algebra.proofs.Eval.{below_add, below_conv}
use Rattle.decoding.specs.Sift.{located}
use Rattle.fields.specs.Numbers.{Numbers, AllBelow, ring_of}
use Rattle.polynomials.specs.Series.{poly}
use Rattle.polynomials.proofs.Readings.{poly_past}
use Rattle.sift.specs.Interpolation.{Distinct}
use Rattle.sift.specs.Received.{NonZero}

pub below_by : (q : ℕ) (xs : List ℕ) → T (all_below (λ k. ltb (get_or xs k 0) q) (length xs)) → AllBelow q xs
below_by q xs t k h = ltb→lt (get_or xs k 0) q (at_below (λ k. ltb (get_or xs k 0) q) (length xs) t k h)

pub nonzero_by : (xs : List ℕ) → T (all_below (λ k. ltb 0 (get_or xs k 0)) (length xs)) → NonZero xs
nonzero_by xs t k h e = let z : 0 < get_or xs k 0 = ltb→lt 0 (get_or xs k 0) (at_below (λ k. ltb 0 (get_or xs k 0)) (length xs) t k h) in omega arith

pub distinct_by : (xs : List ℕ) → T (all_below (λ j. all_below (λ i. not (eqb (get_or xs i 0) (get_or xs j 0))) j) (length xs)) → Distinct xs
distinct_by xs t i j u l e =
    T_not (eqb (get_or xs i 0) (get_or xs j 0))
    (at_below (λ i. not (eqb (get_or xs i 0) (get_or xs j 0))) j
    (at_below (λ j. all_below (λ i. not (eqb (get_or xs i 0) (get_or xs j 0))) j) (length xs) t j l) i u)
    (subst (λ (n : ℕ). T (eqb (get_or xs i 0) n)) e (eqb_refl (get_or xs i 0)))

-- a locator is as long as its products
pub located_short : (F : Numbers) (h₁ h₂ f₁ f₂ : List ℕ) (n : ℕ) → length f₁ + length h₁ ≤ suc n → length f₂ + length h₂ ≤ suc n
    → Below (ring_of F) n (located (ring_of F) (poly F h₁) (poly F h₂) (poly F f₁) (poly F f₂))
located_short F h₁ h₂ f₁ f₂ n l₁ l₂ =
    below_add (ring_of F) n (conv (ring_of F) (poly F f₁) (poly F h₁)) (conv (ring_of F) (poly F f₂) (poly F h₂))
    (λ i u. below_conv (ring_of F) (length f₁) (length h₁) (poly F f₁) (poly F h₁) (poly_past F f₁) (poly_past F h₁) i (omega arith))
    (λ i u. below_conv (ring_of F) (length f₂) (length h₂) (poly F f₂) (poly F h₂) (poly_past F f₂) (poly_past F h₂) i (omega arith))
