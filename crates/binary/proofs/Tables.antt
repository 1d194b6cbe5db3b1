-- Products and inverses through a table of the powers of x and a table of exponents, as a program computes them.
-- In order: the table of exponents by its rule, and that the look-ups in the two tables give the product and the inverse of the field.
use mathlib.Core.Path.{◌≡◌, refl, sym, ◌∙◌, ap, ap₂}
use mathlib.Core.List.{List, [], ◌∷◌}
use mathlib.Core.Bool.{Bool, cond, true, false, ◌||◌}
use Prim.Native.Nat.{ℕ, zero, suc, ◌+◌, ◌-◌, ◌%◌, ◌^◌, ◌<◌}
use native.Mathlib.Omega.{arith}
use lib.Dec.{eqb}
use borrow.Author.Tests.{ne_eqb}
use lib.ListN.{length, get_or}
use Rattle.binary.specs.Binary.{product, inverse}
use Rattle.binary.specs.Tables.{looked_up, looked_up_inverse}
use Rattle.binary.proofs.Powers.{Primitive, powers, log, times, one_lt}
use Rattle.binary.proofs.Products.{product_is, inverse_is}

-- the exponents of n numbers from a on
abbrev pub exponents : ℕ → ℕ → ℕ → ℕ → List ℕ
exponents w red zero a = []
exponents w red (suc n) a = log w red a ∷ exponents w red n (suc a)

-- the exponents of 1, 2, .. below 2^(w + 1), after a 0 at the place of 0
unfoldable pub logs : ℕ → ℕ → List ℕ
logs w red = 0 ∷ exponents w red (2 ^ suc w - 1) 1

exponents_length : (w red n a : ℕ) → length (exponents w red n a) ≡ n
exponents_length w red zero a = refl
exponents_length w red (suc n) a = ap suc (exponents_length w red n (suc a))

exponent_at : (w red n a i : ℕ) → i < n → get_or (exponents w red n a) i 0 ≡ log w red (a + i)
exponent_at w red zero a i h = absurd (let z : i < 0 = h in omega arith)
exponent_at w red (suc n) a zero h = ap (log w red) (let e : a ≡ a + 0 = omega arith in e)
exponent_at w red (suc n) a (suc i) h =
    exponent_at w red n (suc a) i (omega arith) ∙ ap (log w red) (let e : suc a + i ≡ a + suc i = omega arith in e)

nonzero : (a : ℕ) → eqb (suc a) 0 ≡ false
nonzero a = ne_eqb (suc a) 0 (λ (e : suc a ≡ 0). omega arith)

module _ (w red : ℕ) (P : Primitive w red) where
  abbrev N : ℕ
  N = 2 ^ suc w - 1

  pub length_logs : length (logs w red) ≡ 2 ^ suc w
  unfolding logs
  length_logs = let h = one_lt w red P in ap suc (exponents_length w red (2 ^ suc w - 1) 1) ∙ omega arith

  log_at : (a : ℕ) → suc a < 2 ^ suc w → get_or (logs w red) (suc a) 0 ≡ log w red (suc a)
  unfolding logs
  log_at a h = exponent_at w red (2 ^ suc w - 1) 1 a (omega arith) ∙ ap (log w red) (let e : 1 + a ≡ suc a = omega arith in e)

  looked_up_times : (a b : ℕ) → a < 2 ^ suc w → b < 2 ^ suc w → looked_up N (powers w red) (logs w red) a b ≡ times w red a b
  looked_up_times zero b ha hb = refl
  looked_up_times (suc a) zero ha hb =
      ap (λ (s : Bool). cond (s || true) 0 (get_or (powers w red) ((get_or (logs w red) (suc a) 0 + get_or (logs w red) 0 0) % N) 0)) (nonzero a)
  looked_up_times (suc a) (suc b) ha hb =
      ap₂ (λ (s t : Bool). cond (s || t) 0 (get_or (powers w red) ((get_or (logs w red) (suc a) 0 + get_or (logs w red) (suc b) 0) % N) 0))
      (nonzero a) (nonzero b)
      ∙ ap₂ (λ (x y : ℕ). get_or (powers w red) ((x + y) % N) 0) (log_at a ha) (log_at b hb)

  pub product_looked_up : (a b : ℕ) → a < 2 ^ suc w → b < 2 ^ suc w
      → looked_up N (powers w red) (logs w red) a b ≡ product (suc w) red a b
  product_looked_up a b ha hb = looked_up_times a b ha hb ∙ sym (product_is w red P a b ha hb)

  pub inverse_looked_up : (a : ℕ) → 0 < a → a < 2 ^ suc w
      → looked_up_inverse N (powers w red) (logs w red) a ≡ inverse (suc w) red a
  inverse_looked_up zero p h = absurd (let z : 0 < 0 = p in omega arith)
  inverse_looked_up (suc a) p h =
      ap (λ (x : ℕ). get_or (powers w red) ((N - x) % N) 0) (log_at a h)
      ∙ sym (inverse_is w red P (suc a) (λ (e : suc a ≡ 0). omega arith) h)
