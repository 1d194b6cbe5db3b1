-- The textbook product is the product by exponents, so it obeys the laws.
-- In order: remainders are additive, the remainder of x·a, the tie `product_is`, the laws of `product`, and its inverses.
use mathlib.Core.Path.{◌≡◌, refl, sym, ◌∙◌, ap, ap₂, subst}
use mathlib.Core.Logic.{◌≢◌}
use Prim.Native.Nat.{ℕ, zero, suc, ◌+◌, ◌-◌, ◌*◌, ◌/◌, ◌%◌, ◌^◌, ◌≤◌, ◌<◌}
use native.Mathlib.Omega.{arith}
use native.Mathlib.Nat.{add-zero, add-suc, mul-one, mul_assoc, zero-mul, mul-div-mul_right, div-eq_of_lt, pow-suc}
use lib.Dec.{lit<}
use lib.Pow.{pow_pos, pow_mono}
use lib.Bits.{bit_xor, xor_comm, xor_zero_r, xor_lt, xor_shifted}
use Rattle.binary.specs.Binary.{carryless, reduced, product, power, inverse}
use Rattle.binary.proofs.Doubling.{xor_swap, bit_of_xor, twice_xor, double, doubles, double_low, doubles_add}
use Rattle.binary.proofs.Powers.{Primitive, log, times, log_lt, one_lt, turns, times_doubles, times_lt, times_comm, times_assoc, times_one, times_xor, times_double, times_bit, opposite, opposite_is, times_opposite}

module _ (m red : ℕ) where
  reduced_xor : (k a b : ℕ) → reduced m red k (bit_xor a b) ≡ bit_xor (reduced m red k a) (reduced m red k b)
  unfolding reduced
  reduced_xor zero a b = refl
  reduced_xor (suc k) a b =
      ap (reduced m red k)
      (ap (bit_xor (bit_xor a b)) (bit_of_xor (red * 2 ^ k) (m + k) a b)
      ∙ xor_swap a b (a / 2 ^ (m + k) % 2 * (red * 2 ^ k)) (b / 2 ^ (m + k) % 2 * (red * 2 ^ k)))
      ∙ reduced_xor k _ _

  -- what has degree below m is its own remainder
  reduced_low : (k a : ℕ) → a < 2 ^ m → reduced m red k a ≡ a
  unfolding reduced
  reduced_low zero a h = refl
  reduced_low (suc k) a h =
      let l : 2 ^ m ≤ 2 ^ (m + k) = pow_mono (omega arith) in
      let b : a < 2 ^ (m + k) = omega arith in
      ap (reduced m red k)
      (ap (λ (z : ℕ). bit_xor a (z % 2 * (red * 2 ^ k))) (div-eq_of_lt b)
      ∙ ap (bit_xor a) (zero-mul (red * 2 ^ k)) ∙ xor_zero_r a)
      ∙ reduced_low k a h

module _ (w red : ℕ) where
  halved : (i a : ℕ) → a * 2 / 2 ^ suc i ≡ a / 2 ^ i
  halved i a = ap (λ (z : ℕ). a * 2 / z) (pow-suc 2 i) ∙ mul-div-mul_right a (2 ^ i) (lit< tt)

  -- the remainder of x·a is x times that of a
  reduced_double : (k a : ℕ) → reduced (suc w) red (suc k) (a * 2) ≡ double w red (reduced (suc w) red k a)
  unfolding reduced double
  reduced_double zero a =
      ap₂ (λ (t r : ℕ). bit_xor (a * 2) (t % 2 * r)) (ap (λ (i : ℕ). a * 2 / 2 ^ i) (add-zero (suc w)) ∙ halved w a) (mul-one red)
  reduced_double (suc k) a =
      ap (reduced (suc w) red (suc k))
      (ap₂ (λ (t r : ℕ). bit_xor (a * 2) (t % 2 * r))
      (ap (λ (i : ℕ). a * 2 / 2 ^ i) (add-suc (suc w) k) ∙ halved (suc w + k) a)
      (ap (λ (z : ℕ). red * z) (pow-suc 2 k) ∙ sym (mul_assoc red (2 ^ k) 2))
      ∙ ap (bit_xor (a * 2)) (sym (mul_assoc (a / 2 ^ (suc w + k) % 2) (red * 2 ^ k) 2))
      ∙ sym (twice_xor a (a / 2 ^ (suc w + k) % 2 * (red * 2 ^ k))))
      ∙ reduced_double k (bit_xor a (a / 2 ^ (suc w + k) % 2 * (red * 2 ^ k)))

module _ (w red : ℕ) (P : Primitive w red) where
  abbrev N : ℕ
  N = 2 ^ suc w - 1

  abbrev R : ℕ → ℕ → ℕ
  R = reduced (suc w) red

  infixl 70 ◌·◌
  abbrev ◌·◌ : ℕ → ℕ → ℕ
  a · b = times w red a b

  infixl 70 ◌⊙◌
  abbrev ◌⊙◌ : ℕ → ℕ → ℕ
  a ⊙ b = product (suc w) red a b

  bit_small : (t b : ℕ) → t < 2 → b < 2 ^ suc w → t * b < 2 ^ suc w
  bit_small t b ht hb = subst (λ (z : ℕ). z < 2 ^ suc w) (times_bit w red P t b ht hb) (times_lt w red P t b)

  -- over the k lowest bits of a
  by_bits : (k : ℕ) → k ≤ suc w → (a b : ℕ) → a < 2 ^ k → b < 2 ^ suc w → R k (carryless k a b) ≡ a · b
  unfolding carryless reduced
  by_bits zero l a b ha hb = sym (ap (λ (z : ℕ). z · b) (let e : a ≡ 0 = omega arith in e))
  by_bits (suc k) l a b ha hb =
      let c : ℕ = a / 2 in
      let t : ℕ = a % 2 in
      let p : 2 ^ k ≤ 2 ^ w = pow_mono (omega arith) in
      let e : 2 ^ suc k ≡ 2 ^ k * 2 = pow-suc 2 k in
      let e' : 2 ^ suc w ≡ 2 ^ w * 2 = pow-suc 2 w in
      let hw : 0 < 2 ^ w = pow_pos w in
      let hc : c < 2 ^ k = omega arith in
      let ht : t < 2 = omega arith in
      let s : a ≡ bit_xor t (c * 2) = let z : a ≡ c * 2 + t = omega arith in z ∙ sym (xor_shifted c 1 t ht) ∙ xor_comm (c * 2) t in
      reduced_xor (suc w) red (suc k) (t * b) (carryless k c b * 2)
      ∙ ap₂ bit_xor (reduced_low (suc w) red (suc k) (t * b) (bit_small t b ht hb))
      (reduced_double w red k (carryless k c b) ∙ ap (double w red) (by_bits k (omega arith) c b hc hb ∙ times_comm w red P c b)
      ∙ sym (times_double w red P b c hb (omega arith)) ∙ ap (λ (z : ℕ). b · z) (double_low w red c (omega arith)))
      ∙ ap (λ (z : ℕ). bit_xor z (b · (c * 2))) (sym (times_bit w red P t b ht hb) ∙ times_comm w red P t b)
      ∙ sym (times_xor w red P b t (c * 2) hb (omega arith) (omega arith))
      ∙ times_comm w red P b (bit_xor t (c * 2)) ∙ ap (λ (z : ℕ). z · b) (sym s)

  -- the textbook product is the product by exponents
  pub product_is : (a b : ℕ) → a < 2 ^ suc w → b < 2 ^ suc w → a ⊙ b ≡ a · b
  unfolding product
  product_is a b ha hb = by_bits (suc w) (omega arith) a b ha hb

  pub product_lt : (a b : ℕ) → a < 2 ^ suc w → b < 2 ^ suc w → a ⊙ b < 2 ^ suc w
  product_lt a b ha hb = subst (λ (z : ℕ). z < 2 ^ suc w) (sym (product_is a b ha hb)) (times_lt w red P a b)

  pub product_comm : (a b : ℕ) → a < 2 ^ suc w → b < 2 ^ suc w → a ⊙ b ≡ b ⊙ a
  product_comm a b ha hb = product_is a b ha hb ∙ times_comm w red P a b ∙ sym (product_is b a hb ha)

  pub product_assoc : (a b c : ℕ) → a < 2 ^ suc w → b < 2 ^ suc w → c < 2 ^ suc w → (a ⊙ b) ⊙ c ≡ a ⊙ (b ⊙ c)
  product_assoc a b c ha hb hc =
      product_is (a ⊙ b) c (product_lt a b ha hb) hc ∙ ap (λ (z : ℕ). z · c) (product_is a b ha hb)
      ∙ times_assoc w red P a b c ha hb hc
      ∙ ap (λ (z : ℕ). a · z) (sym (product_is b c hb hc)) ∙ sym (product_is a (b ⊙ c) ha (product_lt b c hb hc))

  pub product_one : (a : ℕ) → a < 2 ^ suc w → a ⊙ 1 ≡ a
  product_one a h = product_is a 1 h (one_lt w red P) ∙ times_one w red P a h

  pub product_xor : (a b c : ℕ) → a < 2 ^ suc w → b < 2 ^ suc w → c < 2 ^ suc w → a ⊙ bit_xor b c ≡ bit_xor (a ⊙ b) (a ⊙ c)
  product_xor a b c ha hb hc =
      product_is a (bit_xor b c) ha (xor_lt (suc w) b c hb hc) ∙ times_xor w red P a b c ha hb hc
      ∙ ap₂ bit_xor (sym (product_is a b ha hb)) (sym (product_is a c ha hc))

  power_lt : (n a : ℕ) → a < 2 ^ suc w → power (suc w) red n a < 2 ^ suc w
  unfolding power
  power_lt zero a h = one_lt w red P
  power_lt (suc n) a h = product_lt a _ h (power_lt n a h)

  -- a^n has n times the exponent of a
  power_is : (n a : ℕ) → a ≢ 0 → a < 2 ^ suc w → power (suc w) red n a ≡ doubles w red (n * log w red a) 1
  unfolding power doubles
  power_is zero a k h = ap (λ (j : ℕ). doubles w red j 1) (sym (zero-mul (log w red a)))
  power_is (suc n) a k h =
      let l : ℕ = log w red a in
      product_is a _ h (power_lt n a h) ∙ times_doubles w red P a _ k h (power_lt n a h)
      ∙ ap (doubles w red l) (power_is n a k h) ∙ sym (doubles_add w red (n * l) l 1)
      ∙ ap (λ (j : ℕ). doubles w red j 1) (let e : n * l + l ≡ suc n * l = omega arith in e)

  pub inverse_lt : (a : ℕ) → a < 2 ^ suc w → inverse (suc w) red a < 2 ^ suc w
  unfolding inverse
  inverse_lt a h = power_lt (2 ^ suc w - 2) a h

  -- the inverse has the opposite exponent
  pub inverse_is : (a : ℕ) → a ≢ 0 → a < 2 ^ suc w → inverse (suc w) red a ≡ opposite w red P a
  unfolding inverse
  inverse_is a k h =
      let l : ℕ = log w red a in
      let b : l < N = log_lt w red P a k h in
      let o : 1 < 2 ^ suc w = one_lt w red P in
      let n : ℕ = 2 ^ suc w - 2 in
      let f : n * l + l ≡ N * l = let g : suc n ≡ N = omega arith in (let e : n * l + l ≡ suc n * l = omega arith in e) ∙ ap (λ (z : ℕ). z * l) g in
      power_is n a k h
      ∙ sym (turns w red P 1 (n * l))
      ∙ ap (λ (j : ℕ). doubles w red j 1) (let e : n * l + N * 1 ≡ N - l + N * l = omega arith in e)
      ∙ turns w red P l (N - l) ∙ sym (opposite_is w red P a)

  pub product_inverse : (a : ℕ) → a ≢ 0 → a < 2 ^ suc w → a ⊙ inverse (suc w) red a ≡ 1
  product_inverse a k h =
      product_is a _ h (inverse_lt a h) ∙ ap (λ (z : ℕ). a · z) (inverse_is a k h) ∙ times_opposite w red P a k h
