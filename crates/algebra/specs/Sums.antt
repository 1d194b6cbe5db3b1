-- Finite sums, products and counts, over the first n places or over those of them that are marked: sum and pow in any ring, total for
-- numbers; marks of places (all, but), count and prod over them; and two properties of the first n values of a function (Distinct, NonZero).
use Rattle.std.specs.Prelude.{Bool, true, false, cond, ◌≢◌, ℕ, zero, suc, ◌+◌, ◌<◌, eqb}
use Rattle.algebra.specs.Ring.{Ring}

-- the sum of the first k numbers
unfoldable pub total : ℕ → (ℕ → ℕ) → ℕ
total zero m = 0
total (suc k) m = total k m + m k

-- every place
abbrev pub all : ℕ → Bool
all h = true

-- the marked places other than j
abbrev pub but : ℕ → (ℕ → Bool) → ℕ → Bool
but j b h = cond (eqb h j) false (b h)

-- how many of the first n places are marked
unfoldable pub count : ℕ → (ℕ → Bool) → ℕ
count zero b = 0
count (suc n) b = count n b + cond (b n) 1 0

module _ (R : Ring) where
  infixl 60 ◌⊕◌
  infixl 70 ◌⊗◌
  open R use {El, 𝟘, 𝟙, ◌⊕◌, ◌⊗◌}

  -- the sum of the first n values
  unfoldable pub sum : ℕ → (ℕ → El) → El
  sum zero f = 𝟘
  sum (suc n) f = sum n f ⊕ f n

  unfoldable pub pow : El → ℕ → El
  pow a zero = 𝟙
  pow a (suc n) = a ⊗ pow a n

  -- the product of the values at the marked ones of the first n places
  unfoldable pub prod : ℕ → (ℕ → Bool) → (ℕ → El) → El
  prod zero b f = 𝟙
  prod (suc n) b f = prod n b f ⊗ cond (b n) (f n) 𝟙

  -- the first n values are distinct
  abbrev pub Distinct : ℕ → (ℕ → El) → Type 0
  Distinct n α = (i j : ℕ) → i < j → j < n → α i ≢ α j

  -- the first n values are not zero
  abbrev pub NonZero : ℕ → (ℕ → El) → Type 0
  NonZero n f = (j : ℕ) → j < n → f j ≢ 𝟘
