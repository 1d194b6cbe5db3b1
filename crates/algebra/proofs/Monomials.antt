-- The powers of x: degree, order, value, products x ^ m p and what is left when x ^ m is divided off; and the sum of a ^ (n - 1 - i) x ^ i.
use mathlib.Core.Path.{◌≡◌, refl, sym, ◌∙◌, ap, fun_ext}
use mathlib.Core.List.{[], ◌∷◌}
use Prim.Native.Nat.{ℕ, zero, suc, ◌+◌, ◌-◌, ◌*◌, ◌≤◌, ◌<◌}
use native.Mathlib.Nat.{zero-add, suc-add}
use native.Mathlib.Omega.{arith}
use Rattle.algebra.specs.Ring.{Ring}
use Rattle.algebra.specs.RingLaws as L
use Rattle.algebra.specs.Solve.{ring}
use Rattle.algebra.specs.Sums.{pow}
use Rattle.algebra.specs.Poly.{conv, padd, pneg, pzero, const, lin, tail, cons, Below, Order, at, mono, geo, drop, up}
use Rattle.algebra.specs.PolyRing.{Poly, const_conv}
use Rattle.algebra.specs.PolyForms.{forms}
use Rattle.algebra.proofs.Eval.{below_const, below_cons, ev_suc}
use Rattle.algebra.proofs.Roots.{id_hom, lin_conv}
use Rattle.algebra.proofs.Shift.{ev_const}

module _ (R : Ring) where
  infixl 60 ◌⊕◌
  infixl 70 ◌⊗◌
  infix 80 ⊖◌
  open R use {El, 𝟘, 𝟙, ◌⊕◌, ⊖◌, ◌⊗◌}

  pub mono_below : (m : ℕ) → Below R (suc m) (mono R m)
  unfolding mono
  mono_below zero i k = below_const R 𝟙 i k
  mono_below (suc m) i k = below_cons R (suc m) 𝟘 (mono R m) (mono_below m) i k

  pub mono_lead : (m : ℕ) → mono R m m ≡ 𝟙
  unfolding mono const
  mono_lead zero = refl
  mono_lead (suc m) = mono_lead m

  pub mono_order : (m : ℕ) → Order R m (mono R m)
  unfolding mono
  mono_order zero i k = absurd (let z : suc i ≤ 0 = k in omega arith)
  mono_order (suc m) zero k = refl
  mono_order (suc m) (suc i) k = mono_order m i (omega arith)

  pub mono_at : (c : El) (m : ℕ) → at R c (suc m) (mono R m) ≡ pow R c m
  unfolding mono pow
  mono_at c zero = ev_const R R (λ x. x) (id_hom R) 𝟙 c 0
  mono_at c (suc m) =
      ev_suc R (λ x. x) c (suc m) (mono R (suc m)) ∙ L.zero_add R _ ∙ ap (λ z. c ⊗ z) (mono_at c m)

  pub cons_conv : (p q : ℕ → El) → conv R (cons 𝟘 p) q ≡ cons 𝟘 (conv R p q)
  unfolding conv
  cons_conv p q = fun_ext (elim [ zero ↦ L.zero_mul R _ | suc i ↦ ap (λ z. z ⊕ conv R p q i) (L.zero_mul R _) ∙ L.zero_add R _ ])

  -- x ^ m p has the coefficients of p, moved by m places
  pub mono_conv : (m : ℕ) (p : ℕ → El) (i : ℕ) → conv R (mono R m) p (m + i) ≡ p i
  unfolding mono conv
  mono_conv zero p i = rw zero-add (const_conv R 𝟙 p i ∙ L.one_mul R (p i))
  mono_conv (suc m) p i =
      rw suc-add (ap (λ z. z ⊕ conv R (mono R m) p (m + i)) (L.zero_mul R _) ∙ L.zero_add R _ ∙ mono_conv m p i)

  pub mono_cancel : (m : ℕ) (p q : ℕ → El) → conv R (mono R m) p ≡ conv R (mono R m) q → p ≡ q
  mono_cancel m p q e =
      fun_ext (λ i. sym (mono_conv m p i) ∙ ap (λ (f : ℕ → El). f (m + i)) e ∙ mono_conv m q i)

  drop_coefficient : (m : ℕ) (p : ℕ → El) → Order R m p → (i : ℕ) → conv R (mono R m) (drop m p) i ≡ p i
  unfolding mono conv
  drop_coefficient zero p h i = const_conv R 𝟙 (drop 0 p) i ∙ L.one_mul R _ ∙ ap p (zero-add i)
  drop_coefficient (suc m) p h zero = L.zero_mul R _ ∙ sym (h 0 (omega arith))
  drop_coefficient (suc m) p h (suc i) =
      ap (λ z. z ⊕ conv R (mono R m) (drop (suc m) p) i) (L.zero_mul R _) ∙ L.zero_add R _
      ∙ ap (λ z. conv R (mono R m) z i) (fun_ext (λ j. ap p (let z : suc m + j ≡ suc (m + j) = omega arith in z)))
      ∙ drop_coefficient m (tail p) (λ j k. h (suc j) (omega arith)) i

  -- a polynomial of order m is a multiple of x ^ m
  pub mono_drop : (m : ℕ) (p : ℕ → El) → Order R m p → conv R (mono R m) (drop m p) ≡ p
  mono_drop m p h = fun_ext (drop_coefficient m p h)

  pub drop_below : (m n : ℕ) (p : ℕ → El) → Below R (m + n) p → Below R n (drop m p)
  drop_below m n p h i k = h (m + i) (omega arith)

  -- x ^ n p, written down
  pub mono_up : (n : ℕ) (p : ℕ → El) → conv R (mono R n) p ≡ up R n p
  unfolding mono up
  mono_up zero p = L.one_mul (Poly R) p
  mono_up (suc n) p = cons_conv (mono R n) p ∙ ap (cons 𝟘) (mono_up n p)

  pub up_order : (n : ℕ) (p : ℕ → El) → Order R n (up R n p)
  unfolding up
  up_order zero p i k = absurd (let z : i < 0 = k in omega arith)
  up_order (suc n) p zero k = refl
  up_order (suc n) p (suc i) k = up_order n p i (omega arith)

  pub up_at : (n : ℕ) (p : ℕ → El) (i : ℕ) → up R n p (n + i) ≡ p i
  unfolding up
  up_at zero p i = rw zero-add refl
  up_at (suc n) p i = rw suc-add (up_at n p i)

  -- powers of x ^ t
  mono_mono : (n m : ℕ) → conv R (mono R n) (mono R m) ≡ mono R (n + m)
  unfolding mono
  mono_mono zero m = L.one_mul (Poly R) (mono R m) ∙ ap (λ k. mono R k) (sym (zero-add m))
  mono_mono (suc n) m =
      cons_conv (mono R n) (mono R m) ∙ ap (cons 𝟘) (mono_mono n m) ∙ ap (λ k. mono R k) (sym (suc-add n m))

  pub pow_mono : (t b : ℕ) → pow (Poly R) (mono R t) b ≡ mono R (b * t)
  unfolding pow mono
  pow_mono t zero = ap (λ n. mono R n) (let e : 0 ≡ 0 * t = omega arith in e)
  pow_mono t (suc b) =
      ap (conv R (mono R t)) (pow_mono t b) ∙ mono_mono t (b * t)
      ∙ ap (λ n. mono R n) (let e : t + b * t ≡ suc b * t = omega arith in e)

  pub geo_below : (m : ℕ) (a : El) → Below R m (geo R m a)
  unfolding geo pzero
  geo_below zero a i k = refl
  geo_below (suc m) a i k = below_cons R m (pow R a m) (geo R m a) (geo_below m a) i k

  pub geo_at : (m : ℕ) (a : El) (i : ℕ) → i < m → geo R m a i ≡ pow R a (m - suc i)
  unfolding geo
  geo_at zero a i k = absurd (let z : suc i ≤ 0 = k in omega arith)
  geo_at (suc m) a zero k = ap (pow R a) (omega arith)
  geo_at (suc m) a (suc i) k = geo_at m a i (omega arith) ∙ ap (pow R a) (omega arith)

  -- (x - a) (a ^ (m - 1) + .. + x ^ (m - 1)) = x ^ m - a ^ m
  geo_coefficient : (m : ℕ) (a : El) (i : ℕ) → conv R (lin R a) (geo R m a) i ≡ mono R m i ⊕ ⊖ const R (pow R a m) i
  unfolding geo mono pow const pzero
  geo_coefficient zero a i =
      ap (λ (f : ℕ → El). f i) (L.mul_zero (Poly R) (lin R a)) ∙ sym (R.add_neg (const R 𝟙 i))
  geo_coefficient (suc m) a zero =
      unfold conv lin in ring R (a ∷ pow R a m ∷ []) (search forms depth 20) tt
  geo_coefficient (suc m) a (suc zero) =
      lin_conv R a (geo R (suc m) a) 0
      ∙ ap (λ z. z ⊕ pow R a m) (first ∙ geo_coefficient m a 0)
      ∙ ring R (mono R m 0 ∷ pow R a m ∷ []) (search forms depth 20) tt
    where
      first : ⊖ a ⊗ geo R m a 0 ≡ conv R (lin R a) (geo R m a) 0
      first = unfold conv lin in refl
  geo_coefficient (suc m) a (suc (suc i)) =
      lin_conv R a (geo R (suc m) a) (suc i)
      ∙ sym (lin_conv R a (geo R m a) i)
      ∙ geo_coefficient m a (suc i)

  pub geo_times : (m : ℕ) (a : El) → conv R (lin R a) (geo R m a) ≡ padd R (mono R m) (pneg R (const R (pow R a m)))
  unfolding padd pneg
  geo_times m a = fun_ext (geo_coefficient m a)
