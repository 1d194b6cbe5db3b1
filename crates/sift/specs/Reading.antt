-- How a message is read off the shares, in this order: places away from the roots with what the message must be there, the codeword of a
-- message at the places, the two together, and the comparison of a word with the shares.
use Rattle.std.specs.Prelude.{◌≡◌, ℕ, ◌<◌, Bool, true, false, cond, ◌≢◌, List, length, Some, None, Option, ◌==◌, slice_index}
use Rattle.algebra.specs.Sums.{count}
use Rattle.fields.specs.Numbers.{Numbers, AllBelow, elem, times}
use Rattle.polynomials.specs.Series.{poly, value}
use Rattle.sift.specs.Received.{Ends}

-- m of the first n places, in their order, where the values are not 0
pub record Places (values : List ℕ) (n m : ℕ) : Type 0 where
  pub place : ℕ → ℕ
  pub inside : (i : ℕ) → i < m → place i < n
  pub rising : (i j : ℕ) → i < j → j < m → place i < place j
  pub nonzero : (i : ℕ) → i < m → slice_index values (place i) ≢ 0

-- m such places among the first n, with their points in xs and the quotients of share and multiplier in ys
pub record Gathered (F : Numbers) (αs vs rs values : List ℕ) (n m : ℕ) (xs ys : List ℕ) : Type 0 where
  pub places : Places values n m
  pub points : (i : ℕ) → i < m → slice_index xs i ≡ slice_index αs (places.place i)
  pub quotients : (i : ℕ) → i < m → slice_index ys i ≡ F.mul (slice_index rs (places.place i)) (F.inv (slice_index vs (places.place i)))

-- the word is that of the message, and 0 beyond the places
pub record Issued (F : Numbers) (αs vs message word : List ℕ) : Type 0 where
  pub all : AllBelow F.q word
  pub ends : Ends (length αs) word
  pub is : (j : ℕ) → j < length αs
      → elem F (slice_index word j) ≡ times F (elem F (slice_index vs j)) (value F (length message) (poly F message) (slice_index αs j))

-- the message has k coefficients at most, and its word is the shares at k places where the values are not 0
pub record Recovered (F : Numbers) (αs vs rs values : List ℕ) (k : ℕ) (message word : List ℕ) : Type 0 where
  pub all : AllBelow F.q message
  pub ends : Ends k message
  pub issued : Issued F αs vs message word
  pub places : Places values (length αs) k
  pub agrees : (i : ℕ) → i < k → slice_index word (places.place i) ≡ slice_index rs (places.place i)

-- the places where two lists differ
abbrev pub differs : List ℕ → List ℕ → ℕ → Bool
differs xs ys j = cond (slice_index xs j == slice_index ys j) false true

-- what the comparison of a word with the shares answers: in how many places they differ, or that they differ where the values are not 0
abbrev pub Compared : List ℕ → List ℕ → List ℕ → Option ℕ → Type 0
Compared word rs values (Some d) =
    (d ≡ count (length rs) (differs word rs)) × ((j : ℕ) → j < length rs → slice_index values j ≢ 0 → slice_index word j ≡ slice_index rs j)
Compared word rs values None =
    (j : ℕ) × (j < length rs) × (slice_index values j ≢ 0) × (slice_index word j ≢ slice_index rs j)
