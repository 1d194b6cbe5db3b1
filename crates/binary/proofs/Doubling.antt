-- Multiplication by x in a binary field, and that it is additive.
-- In order: a bit times a number, twice an exclusive or, `double` (once) and `doubles` (any number of times).
-- Throughout w is the place of an element's highest bit: the field has 2^(w + 1) elements and red has degree w + 1.
use mathlib.Core.Path.{◌≡◌, refl, sym, ◌∙◌, ap, ap₂}
use mathlib.Core.Logic.{◌⊎◌, inl, inr}
use Prim.Native.Nat.{ℕ, zero, suc, ◌+◌, ◌*◌, ◌/◌, ◌%◌, ◌^◌, ◌<◌}
use native.Mathlib.Omega.{arith}
use native.Mathlib.Nat.{add_comm, add-zero, zero-add, zero-mul, one-mul, suc-add, mod-lt, mod-eq_of_lt, div-lt_iff_lt-mul, div-eq_of_lt, mul-div-mul_right, pow-suc}
use lib.Dec.{lit<}
use lib.Pow.{pow_pos}
use lib.Bits.{bit_xor, xor_zero_r, xor_comm, xor_assoc, xor_self, xor_mod, xor_shr, xor_block}

pub bit_cases : (t : ℕ) → t < 2 → (t ≡ 0) ⊎ (t ≡ 1)
bit_cases zero h = inl refl
bit_cases (suc zero) h = inr refl
bit_cases (suc (suc t)) h = absurd (let z : suc (suc t) < 2 = h in omega arith)

pub xor_swap : (a b c d : ℕ) → bit_xor (bit_xor a b) (bit_xor c d) ≡ bit_xor (bit_xor a c) (bit_xor b d)
xor_swap a b c d =
    xor_assoc a b (bit_xor c d)
    ∙ ap (bit_xor a) (sym (xor_assoc b c d) ∙ ap (λ z. bit_xor z d) (xor_comm b c) ∙ xor_assoc c b d)
    ∙ sym (xor_assoc a c (bit_xor b d))

-- a bit times r, added over bits
bit_mul : (r s t : ℕ) → s < 2 → t < 2 → bit_xor s t * r ≡ bit_xor (s * r) (t * r)
bit_mul r s t hs ht = go (bit_cases s hs) (bit_cases t ht)
  where
    go : (s ≡ 0) ⊎ (s ≡ 1) → (t ≡ 0) ⊎ (t ≡ 1) → bit_xor s t * r ≡ bit_xor (s * r) (t * r)
    go (inl p) (inl q) = rw (p, q) (rw zero-mul refl)
    go (inl p) (inr q) = rw (p, q) (rw (one-mul, zero-mul) refl)
    go (inr p) (inl q) = rw (p, q) (rw (one-mul, zero-mul) (sym (xor_zero_r r)))
    go (inr p) (inr q) = rw (p, q) (rw (one-mul, zero-mul) (sym (xor_self r)))

-- bit i of a, times r, is additive in a
pub bit_of_xor : (r i a b : ℕ) → bit_xor a b / 2 ^ i % 2 * r ≡ bit_xor (a / 2 ^ i % 2 * r) (b / 2 ^ i % 2 * r)
bit_of_xor r i a b =
    ap (λ (z : ℕ). z % 2 * r) (xor_shr a b i)
    ∙ ap (λ (z : ℕ). z * r) (xor_mod (a / 2 ^ i) (b / 2 ^ i) 1)
    ∙ bit_mul r (a / 2 ^ i % 2) (b / 2 ^ i % 2) (mod-lt (a / 2 ^ i) (lit< tt)) (mod-lt (b / 2 ^ i) (lit< tt))

pub twice_xor : (a b : ℕ) → bit_xor a b * 2 ≡ bit_xor (a * 2) (b * 2)
twice_xor a b =
    sym (add-zero (bit_xor a b * 2)) ∙ sym (xor_block 1 a b 0 0 (lit< tt) (lit< tt)) ∙ ap₂ bit_xor (add-zero (a * 2)) (add-zero (b * 2))

module _ (w red : ℕ) where
  -- x·a, less the reducing polynomial where the highest bit of a is set
  unfoldable pub double : ℕ → ℕ
  double a = bit_xor (a * 2) (a / 2 ^ w % 2 * red)

  -- x^k·a
  unfoldable pub doubles : ℕ → ℕ → ℕ
  doubles zero a = a
  doubles (suc k) a = doubles k (double a)

  pub double_xor : (a b : ℕ) → double (bit_xor a b) ≡ bit_xor (double a) (double b)
  unfolding double
  double_xor a b =
      ap₂ bit_xor (twice_xor a b) (bit_of_xor red w a b)
      ∙ xor_swap (a * 2) (b * 2) (a / 2 ^ w % 2 * red) (b / 2 ^ w % 2 * red)

  pub double_zero : double 0 ≡ 0
  double_zero = double_xor 0 0 ∙ xor_self (double 0)

  pub double_low : (c : ℕ) → c < 2 ^ w → double c ≡ c * 2
  unfolding double
  double_low c h =
      ap (λ (z : ℕ). bit_xor (c * 2) (z % 2 * red)) (div-eq_of_lt h) ∙ ap (bit_xor (c * 2)) (zero-mul red) ∙ xor_zero_r (c * 2)

  pub doubles_xor : (k a b : ℕ) → doubles k (bit_xor a b) ≡ bit_xor (doubles k a) (doubles k b)
  unfolding doubles
  doubles_xor zero a b = refl
  doubles_xor (suc k) a b = ap (doubles k) (double_xor a b) ∙ doubles_xor k (double a) (double b)

  pub doubles_zero : (k : ℕ) → doubles k 0 ≡ 0
  unfolding doubles
  doubles_zero zero = refl
  doubles_zero (suc k) = ap (doubles k) double_zero ∙ doubles_zero k

  pub doubles_add : (i j a : ℕ) → doubles (i + j) a ≡ doubles j (doubles i a)
  unfolding doubles
  doubles_add zero j a = rw zero-add refl
  doubles_add (suc i) j a = rw suc-add (doubles_add i j (double a))

  doubles_one : (a : ℕ) → doubles 1 a ≡ double a
  unfolding doubles
  doubles_one a = refl

  pub doubles_swap : (i j a : ℕ) → doubles i (doubles j a) ≡ doubles j (doubles i a)
  doubles_swap i j a = sym (doubles_add j i a) ∙ ap (λ k. doubles k a) (add_comm j i) ∙ doubles_add i j a

  pub doubles_after : (k a : ℕ) → double (doubles k a) ≡ doubles k (double a)
  doubles_after k a = sym (doubles_one (doubles k a)) ∙ doubles_swap 1 k a ∙ ap (doubles k) (doubles_one a)

-- an element doubled is an element, where red has degree w + 1
module _ (w red : ℕ) (monic : red / 2 ^ suc w ≡ 1) where
  top_mul : (t : ℕ) → t < 2 → t * red / 2 ^ suc w ≡ t
  top_mul t h = go (bit_cases t h)
    where
      go : (t ≡ 0) ⊎ (t ≡ 1) → t * red / 2 ^ suc w ≡ t
      go (inl p) = rw (p, zero-mul) (div-eq_of_lt (pow_pos (suc w)))
      go (inr p) = rw (p, one-mul) monic

  pub double_lt : (a : ℕ) → a < 2 ^ suc w → double w red a < 2 ^ suc w
  unfolding double
  double_lt a h =
      let u : a / 2 ^ w < 2 = (div-lt_iff_lt-mul (pow_pos w)).1 (let e : 2 ^ suc w ≡ 2 ^ w * 2 = pow-suc 2 w in omega arith) in
      let t : ℕ = a / 2 ^ w % 2 in
      let x : ℕ = bit_xor (a * 2) (t * red) in
      let e : x / 2 ^ suc w ≡ 0 =
      xor_shr (a * 2) (t * red) (suc w)
      ∙ ap₂ bit_xor (ap (λ (z : ℕ). a * 2 / z) (pow-suc 2 w) ∙ mul-div-mul_right a (2 ^ w) (lit< tt) ∙ sym (mod-eq_of_lt u)) (top_mul t (mod-lt (a / 2 ^ w) (lit< tt)))
      ∙ xor_self t in
      let l : x < 1 * 2 ^ suc w = (div-lt_iff_lt-mul (pow_pos (suc w))).0 (omega arith) in
      omega arith

  pub doubles_lt : (k a : ℕ) → a < 2 ^ suc w → doubles w red k a < 2 ^ suc w
  unfolding doubles
  doubles_lt zero a h = h
  doubles_lt (suc k) a h = doubles_lt k (double w red a) (double_lt a h)
