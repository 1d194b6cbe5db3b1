-- Generalised Reed-Solomon codes, in this order: the code, the word of a message, the multipliers of the dual code, the syndrome of a word;
-- then of a word e of errors their number, their locator and their evaluator. Words, distances and lists of codewords are in Words.
use Rattle.std.specs.Prelude.{Bool, true, false, ℕ}
use Rattle.algebra.specs.Field.{Field}
use Rattle.algebra.specs.Sums.{sum, pow, but, count, Distinct, NonZero}
use Rattle.algebra.specs.Poly.{conv, pneg, const, geo, at}
use Rattle.algebra.specs.PolyRing.{Poly}
use Rattle.algebra.specs.Lagrange.{locator, barycentric}

-- A code: n places with distinct points α, which are not zero, and multipliers v, which are not zero; D check symbols
pub record Code (𝓕 : Field) : Type 0 where
  pub n : ℕ
  pub D : ℕ
  pub α : ℕ → 𝓕.ring.El
  pub v : ℕ → 𝓕.ring.El
  pub distinct : Distinct 𝓕.ring n α
  pub α≢zero : NonZero 𝓕.ring n α
  pub v≢zero : NonZero 𝓕.ring n v

-- the places where e is not zero
unfoldable pub errors : (𝓕 : Field) → (ℕ → 𝓕.ring.El) → ℕ → Bool
errors 𝓕 e j = elim (𝓕.equal (e j) 𝓕.ring.𝟘) [ yes z ↦ false | no z ↦ true ]

module _ (𝓕 : Field) (C : Code 𝓕) where
  infixl 70 ◌⊗◌
  open 𝓕.ring use {El, ◌⊗◌}
  open C use {n, D, α, v}

  -- the word of the message η of k coefficients: its values at the points, times the multipliers
  abbrev pub codeword : ℕ → (ℕ → El) → ℕ → El
  codeword k η j = v j ⊗ at 𝓕.ring (α j) k η

  -- the multipliers of the dual code: 1 / (v j ∏ (α j - α h)) over the other h < n
  unfoldable pub dual : ℕ → El
  dual j = 𝓕.inv (v j) ⊗ barycentric 𝓕 n α j

  -- the syndrome of a word r: the coefficient of x ^ i is the sum of r j (dual j) (α j) ^ (D - 1 - i), for i < D
  unfoldable pub syndrome : (ℕ → El) → ℕ → El
  syndrome r i = sum 𝓕.ring n (λ j. r j ⊗ dual j ⊗ geo 𝓕.ring D (α j) i)

  -- the number of errors
  abbrev pub ε : (ℕ → El) → ℕ
  ε e = count n (errors 𝓕 e)

  -- their locator ∏ (x - α h), and the locator of those at other places than j
  abbrev pub Λ : (ℕ → El) → ℕ → El
  Λ e = locator 𝓕.ring n (errors 𝓕 e) α

  abbrev pub others : (ℕ → El) → ℕ → ℕ → El
  others e j = locator 𝓕.ring n (but j (errors 𝓕 e)) α

  -- their evaluator: - Σ_j e j (dual j) (α j) ^ D ∏ (x - α h) over the errors h other than j
  unfoldable pub Ω : (ℕ → El) → ℕ → El
  Ω e =
      pneg 𝓕.ring (sum (Poly 𝓕.ring) n
      (λ j. conv 𝓕.ring (const 𝓕.ring (e j ⊗ dual j ⊗ pow 𝓕.ring (α j) D)) (others e j)))
