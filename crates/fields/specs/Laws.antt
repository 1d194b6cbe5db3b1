-- The laws of a field whose elements are the numbers below q: all that an implementation has to show.
use Rattle.std.specs.Prelude.{◌≡◌, ℕ, ◌<◌}

pub record Laws (q : ℕ) (add : ℕ → ℕ → ℕ) (neg : ℕ → ℕ) (mul : ℕ → ℕ → ℕ) (inv : ℕ → ℕ) : Type 0 where
  -- 0 and 1 are two elements
  pub two : 1 < q
  -- closure
  pub add_below : (a b : ℕ) → a < q → b < q → add a b < q
  pub neg_below : (a : ℕ) → a < q → neg a < q
  pub mul_below : (a b : ℕ) → a < q → b < q → mul a b < q
  pub inv_below : (a : ℕ) → 0 < a → a < q → inv a < q
  -- sums: associative, commutative, with the zero and opposites
  pub add_assoc : (a b c : ℕ) → a < q → b < q → c < q → add (add a b) c ≡ add a (add b c)
  pub add_comm : (a b : ℕ) → a < q → b < q → add a b ≡ add b a
  pub add_zero : (a : ℕ) → a < q → add a 0 ≡ a
  pub add_neg : (a : ℕ) → a < q → add a (neg a) ≡ 0
  -- products: associative, commutative, with the one and inverses of the elements other than 0
  pub mul_assoc : (a b c : ℕ) → a < q → b < q → c < q → mul (mul a b) c ≡ mul a (mul b c)
  pub mul_comm : (a b : ℕ) → a < q → b < q → mul a b ≡ mul b a
  pub mul_one : (a : ℕ) → a < q → mul a 1 ≡ a
  pub mul_inv : (a : ℕ) → 0 < a → a < q → mul a (inv a) ≡ 1
  -- products distribute over sums
  pub mul_add : (a b c : ℕ) → a < q → b < q → c < q → mul a (add b c) ≡ add (mul a b) (mul a c)
