-- Lists of numbers as polynomials over a field of numbers, the lowest coefficient first: how a list is made from a rule; size and degree; p - c x ^ k g;
-- sums, products and powers.
use Rattle.std.specs.Prelude.{ℕ, zero, suc, ◌-◌, cond, List, map, length, ℤ, pos, ◌-ℤ◌, ◌==◌, nat_lt, slice_index}
use Rattle.std.specs.List.{range_with_len}
use Rattle.fields.specs.Numbers.{Numbers}

-- f 0, .., f (n - 1)
abbrev pub listed : ℕ → (ℕ → ℕ) → List ℕ
listed n f = map f (range_with_len 0 n)

-- the number of coefficients up to the last of the first n that is not zero
unfoldable pub size_to : ℕ → List ℕ → ℕ
size_to zero p = 0
size_to (suc n) p = cond (slice_index p n == 0) (size_to n p) (suc n)

abbrev pub size : List ℕ → ℕ
size p = size_to (length p) p

-- the degree, and -1 for the zero polynomial
abbrev pub degree : List ℕ → ℤ
degree p = pos (size p) -ℤ pos 1

module _ (F : Numbers) where
  -- p - c x ^ k g, with as many coefficients as p
  unfoldable pub less : ℕ → ℕ → List ℕ → List ℕ → List ℕ
  less c k g p =
      listed (length p) (λ i. cond (nat_lt i k) (slice_index p i) (F.add (slice_index p i) (F.mul (F.neg c) (slice_index g (i - k)))))

  -- f 0 + .. + f (n - 1)
  unfoldable pub sum : ℕ → (ℕ → ℕ) → ℕ
  sum zero f = 0
  sum (suc n) f = F.add (sum n f) (f n)

  -- f 0 .. f (n - 1)
  unfoldable pub product : ℕ → (ℕ → ℕ) → ℕ
  product zero f = 1
  product (suc n) f = F.mul (product n f) (f n)

  unfoldable pub power : ℕ → ℕ → ℕ
  power a zero = 1
  power a (suc n) = F.mul a (power a n)
