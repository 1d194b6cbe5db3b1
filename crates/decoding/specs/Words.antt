-- Words of n places, in this order: when they are the same, where they differ, how far they are apart, the errors of one against another; then
-- the codewords among them, those near a word, and what a list of all of these is.
use Rattle.std.specs.Prelude.{◌≡◌, Bool, true, false, ℕ, ◌≤◌, ◌<◌}
use Rattle.algebra.specs.Field.{Field}
use Rattle.algebra.specs.Sums.{count}
use Rattle.algebra.specs.Poly.{Below}
use Rattle.decoding.specs.Code.{Code, codeword}

-- two words agree at the first n places
abbrev pub Same : {A : Type 0} → ℕ → (ℕ → A) → (ℕ → A) → Type 0
Same n c c' = (j : ℕ) → j < n → c j ≡ c' j

module _ (𝓕 : Field) where
  open 𝓕.ring use {El, ◌⊕◌, ⊖◌}

  -- the places where two words differ
  unfoldable pub differ : (ℕ → El) → (ℕ → El) → ℕ → Bool
  differ r c j = elim (𝓕.equal (r j) (c j)) [ yes z ↦ false | no z ↦ true ]

  -- at how many of the first n places they do
  abbrev pub distance : ℕ → (ℕ → El) → (ℕ → El) → ℕ
  distance n r c = count n (differ r c)

  -- the errors of a received word r against a word c
  abbrev pub error : (ℕ → El) → (ℕ → El) → ℕ → El
  error r c j = ◌⊕◌ (r j) (⊖◌ (c j))

  module _ (C : Code 𝓕) (k : ℕ) where
    -- c is the word of a message of k coefficients
    pub record Codeword (c : ℕ → El) : Type 0 where
      pub message : ℕ → El
      pub short : Below 𝓕.ring k message
      pub word : Same C.n c (codeword 𝓕 C k message)

    -- and differs from r in τ places at most
    pub record Near (τ : ℕ) (r c : ℕ → El) : Type 0 where
      pub codeword : Codeword c
      pub close : distance C.n r c ≤ τ

    -- the m words W are the codewords within τ of r: all of them, each once, and nothing else
    pub record Listing (τ : ℕ) (r : ℕ → El) (m : ℕ) (W : ℕ → ℕ → El) : Type 0 where
      pub right : (i : ℕ) → i < m → Near τ r (W i)
      pub full : (c : ℕ → El) → Near τ r c → (i : ℕ) × (i < m) × Same C.n c (W i)
      pub once : (i j : ℕ) → i < j → j < m → Same C.n (W i) (W j) → ⊥
