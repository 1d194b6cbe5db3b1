-- The theorems of the list decoder, each as one statement about a field: it is said of every field, since a field is a member of the
-- trait that the functions of src/lib.rt are generic in. There is no premise beyond the field's laws, the code's conditions and, where a
-- list is meant, that the setting is accepted. In this order: the minimum distance, the key equation, the interpolant, the decoder as a
-- whole for one received word (Decodes) and that it is right (Complete), the same for a list of pairs that a program has found, and for the
-- list that it makes of what is sifted, the walks that find these pairs, and how long a list is at most.
use Rattle.std.specs.Prelude.{◌≡◌, ◌↔◌, ◌⊎◌, ℕ, suc, ◌+◌, ◌≤◌, ◌<◌}
use Rattle.algebra.specs.Field.{Field}
use Rattle.algebra.specs.Poly.{pzero, const}
use Rattle.algebra.specs.Coprime.{Normal}
use Rattle.algebra.specs.Euclid.{Stopped}
use Rattle.decoding.specs.Code.{Code, syndrome, ε, Λ, Ω}
use Rattle.decoding.specs.Words.{Same, distance, error, Codeword, Near, Listing}
use Rattle.decoding.specs.KeyEquation.{Key}
use Rattle.decoding.specs.Setting.{minimum_distance, Accepted}
use Rattle.decoding.specs.Rational.{Root}
use Rattle.decoding.specs.Sift.{located, Passes}
use Rattle.decoding.specs.Pairs.{w₁, w₂, Interpolates, Among, Pairs, Sifted}
use Rattle.decoding.specs.Walk.{Visited, LeafRows, turned, Found, FoundTurned}

module _ (𝓕 : Field) where
  open 𝓕.ring use {El, 𝟘, 𝟙}

  -- Codewords that differ in fewer than n - k + 1 places are the same
  abbrev pub MinimumDistance : Type 0
  MinimumDistance =
      (C : Code 𝓕) (k : ℕ) → k ≤ C.n → (c c' : ℕ → El) → Codeword 𝓕 C k c → Codeword 𝓕 C k c'
      → distance 𝓕 C.n c c' < minimum_distance C.n k → Same C.n c c'

  -- The key equation: for a word r and any codeword c the locator Λ and the evaluator Ω of the errors r - c are coprime, Ω has a lower degree
  -- than Λ, which has as high a one as there are errors, and Λ S = Ω modulo x ^ D, for the syndrome S of r
  abbrev pub KeyEquation : Type 0
  KeyEquation =
      (C : Code 𝓕) (k : ℕ) → k + C.D ≡ C.n → (r c : ℕ → El) → Codeword 𝓕 C k c
      → Key 𝓕.ring C.D (syndrome 𝓕 C r) (ε 𝓕 C (error 𝓕 r c)) (Λ 𝓕 C (error 𝓕 r c)) (Ω 𝓕 C (error 𝓕 r c))

  -- the rows at which Euclid's algorithm on x ^ D and the syndrome of r stops
  abbrev pub WordRows : Code 𝓕 → (ℕ → El) → Type 0
  WordRows C r = Stopped 𝓕.ring (λ l. l) C.D (syndrome 𝓕 C r)

  -- The algorithm stops, and where neither weight is negative there is an interpolant
  abbrev pub InterpolantExists : Type 0
  InterpolantExists =
      (C : Code 𝓕) (k τ s ℓ : ℕ) → k + C.D ≡ C.n → Accepted C.n k τ s ℓ → (r : ℕ → El)
      → WordRows C r × ((T : WordRows C r) → T.l ≤ τ → T.p < τ → (Q : ℕ → ℕ → El) × Interpolates 𝓕 C T τ s ℓ Q)

  -- What the decoder does with the rows T is right, for the radius τ, the multiplicity s and the list limit ℓ
  pub record Decodes (C : Code 𝓕) (k τ s ℓ : ℕ) (r : ℕ → El) (T : WordRows C r) : Type 0 where
    -- w₂ is negative: there is no codeword within τ
    pub none : τ < T.l → (c : ℕ → El) → Near 𝓕 C k τ r c → ⊥
    -- w₁ is negative: the codewords within τ are what is sifted from the pair (0, 1)
    pub single : T.l ≤ τ → τ ≤ T.p → (c : ℕ → El)
        → Passes 𝓕 C k τ r (located 𝓕.ring T.P.b T.L.b (pzero 𝓕.ring) (const 𝓕.ring 𝟙)) c ↔ Near 𝓕 C k τ r c
    -- else, whatever interpolant Q a program finds, they are what is sifted from the rational roots of Q
    pub roots : T.l ≤ τ → T.p < τ → (Q : ℕ → ℕ → El) → Interpolates 𝓕 C T τ s ℓ Q → (c : ℕ → El)
        → Sifted 𝓕 C T k τ r (Root 𝓕.ring ℓ (w₁ τ T) (w₂ τ T) Q) c ↔ Near 𝓕 C k τ r c

  -- For every code, accepted setting and word the words that are sifted are exactly the codewords at distance at most τ
  abbrev pub Complete : Type 0
  Complete =
      (C : Code 𝓕) (k τ s ℓ : ℕ) → k + C.D ≡ C.n → Accepted C.n k τ s ℓ → (r : ℕ → El) (T : WordRows C r)
      → Decodes C k τ s ℓ r T

  -- The same for a list of m pairs, where it has the right ones: a codeword is within τ if and only if it is sifted from one of them
  abbrev pub CompleteList : Type 0
  CompleteList =
      (C : Code 𝓕) (k τ s ℓ : ℕ) → k + C.D ≡ C.n → Accepted C.n k τ s ℓ → (r : ℕ → El) (T : WordRows C r)
      → (m : ℕ) (F₁ F₂ : ℕ → ℕ → El) → Pairs 𝓕 C T τ s ℓ (Among m F₁ F₂) → (c : ℕ → El)
      → ((i : ℕ) × (i < m) × Passes 𝓕 C k τ r (located 𝓕.ring T.P.b T.L.b (F₁ i) (F₂ i)) c) ↔ Near 𝓕 C k τ r c

  -- So the words that are sifted from the right pairs, each kept once, are the list of all codewords within τ, and are ℓ at most
  abbrev pub SiftedListing : Type 0
  SiftedListing =
      (C : Code 𝓕) (k τ s ℓ : ℕ) → k + C.D ≡ C.n → Accepted C.n k τ s ℓ → (r : ℕ → El) (T : WordRows C r)
      → (p : ℕ) (F₁ F₂ : ℕ → ℕ → El) → Pairs 𝓕 C T τ s ℓ (Among p F₁ F₂)
      → (m : ℕ) (W : ℕ → ℕ → El) → ((i : ℕ) → i < m → Sifted 𝓕 C T k τ r (Among p F₁ F₂) (W i))
      → ((c : ℕ → El) → Sifted 𝓕 C T k τ r (Among p F₁ F₂) c → (i : ℕ) × (i < m) × Same C.n c (W i))
      → ((i j : ℕ) → i < j → j < m → Same C.n (W i) (W j) → ⊥) → Listing 𝓕 C k τ r m W × (m ≤ ℓ)

  -- The rational roots of any Q within the bounds are the normalised ones of the pairs at the leaves of the two walks, wherever Euclid's
  -- algorithm stops at a leaf
  abbrev pub WalksFindRoots : Type 0
  WalksFindRoots =
      (ℓ w₁ w₂ : ℕ) (Q : ℕ → ℕ → El)
      → (stop : (φ : ℕ → El) → Visited 𝓕.ring ℓ Q (suc (w₁ + w₂)) φ → LeafRows 𝓕.ring w₁ w₂ φ)
      → (stop' : (φ : ℕ → El) → Visited 𝓕.ring ℓ (turned ℓ Q) (suc (w₂ + w₁)) φ → φ 0 ≡ 𝟘 → LeafRows 𝓕.ring w₂ w₁ φ)
      → (f₁ f₂ : ℕ → El)
      → (Normal 𝓕.ring f₁ f₂ × (Found 𝓕.ring ℓ w₁ w₂ Q stop f₁ f₂ ⊎ FoundTurned 𝓕.ring ℓ w₁ w₂ Q stop' f₁ f₂))
      ↔ Root 𝓕.ring ℓ w₁ w₂ Q f₁ f₂

  -- No more than ℓ distinct codewords are at distance at most τ of any word
  abbrev pub AtMost : Type 0
  AtMost =
      (C : Code 𝓕) (k τ s ℓ : ℕ) → k + C.D ≡ C.n → Accepted C.n k τ s ℓ → (r : ℕ → El) (m : ℕ) (c : ℕ → ℕ → El)
      → ((i : ℕ) → i < m → Near 𝓕 C k τ r (c i)) → ((i j : ℕ) → i < j → j < m → Same C.n (c i) (c j) → ⊥) → m ≤ ℓ
