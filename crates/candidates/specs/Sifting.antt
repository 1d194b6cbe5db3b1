-- Pairs of numbers, to be sifted, in this order: the locator of a pair, what is asked of a pair, and of the numbers of places and of room; the candidate
-- that is sifted from a pair, and those from a list of pairs; and that these are all candidates near the shares. Each statement is of every code with the
-- given points and multipliers, of which there is one.
use Rattle.std.specs.Prelude.{◌≡◌, ℕ, ◌+◌, ◌-◌, ◌*◌, ◌<◌, ◌≤◌, ◌⊎◌, List, length, Option}
use Rattle.algebra.specs.Poly.{Below}
use Rattle.decoding.specs.Code.{Code}
use Rattle.decoding.specs.Setting.{Accepted}
use Rattle.decoding.specs.Sift.{located}
use Rattle.decoding.specs.Pairs.{Pairs}
use Rattle.decoding.specs.Theorems.{WordRows}
use Rattle.fields.specs.Numbers.{Numbers, AllBelow, Element, ring_of, field_of}
use Rattle.polynomials.specs.Series.{poly}
use Rattle.leaves.specs.declared.pairs.Pair.{Pair}
use Rattle.rolls.specs.Order.{Has, Lists}
use Rattle.sift.specs.Received.{Describes}
use Rattle.candidates.specs.declared.records.Candidate.{Candidate}
use Rattle.candidates.specs.Order.{in_order}
use Rattle.candidates.specs.Telling.{Passing, Close, Only}

-- the locator of a pair, by the second entries h₁, h₂ of the two rows at which Euclid's algorithm stops
abbrev pub locator : (F : Numbers) → List ℕ → List ℕ → Pair → ℕ → Element F
locator F h₁ h₂ p = located (ring_of F) (poly F h₁) (poly F h₂) (poly F p.first) (poly F p.second)

-- the numbers of the pair are elements, and its locator has a degree of n - k at most
pub record Usable (F : Numbers) (n k : ℕ) (h₁ h₂ : List ℕ) (p : Pair) : Type 0 where
  pub first : AllBelow F.q p.first
  pub second : AllBelow F.q p.second
  pub low : Below (ring_of F) (n - k + 1) (locator F h₁ h₂ p)

-- n places, 32 at most and more than the threshold k, and room to work in beside rows of l₁ and l₂ numbers
pub record Roomy (n k l₁ l₂ room : ℕ) : Type 0 where
  pub few : n ≤ 32
  pub fewer : k < n
  pub fits : 32 + l₁ + n + 3 * k + 1 ≤ room
  pub fits_too : 32 + l₂ + n + 3 * k + 1 ≤ room

-- the answer is the candidate that is sifted from the pair, or that there is none
abbrev pub SiftedFrom : (F : Numbers) → List ℕ → List ℕ → List ℕ → List ℕ → List ℕ → ℕ → ℕ → Pair → Option Candidate → Type 0
SiftedFrom F αs vs rs h₁ h₂ k τ p answer =
    (C : Code (field_of F)) → Describes F αs vs C → Only (Passing F C k (poly F rs) τ (locator F h₁ h₂ p)) answer

-- the items after are the items before and what is sifted from the pair, in order and each once
abbrev pub Enters : (F : Numbers) → List ℕ → List ℕ → List ℕ → List ℕ → List ℕ → ℕ → ℕ → Pair → List Candidate → List Candidate → Type 0
Enters F αs vs rs h₁ h₂ k τ p before after =
    (C : Code (field_of F)) → Describes F αs vs C
    → Lists in_order (λ z. Has z before ⊎ Passing F C k (poly F rs) τ (locator F h₁ h₂ p) z) after

-- the word of c passes the sift by one of the pairs, with its message and its distance from the shares
pub record FromOne (F : Numbers) (C : Code (field_of F)) (k τ : ℕ) (rs h₁ h₂ : List ℕ) (pairs : List Pair) (c : Candidate) : Type 0 where
  pub pair : Pair
  pub member : Has pair pairs
  pub passing : Passing F C k (poly F rs) τ (locator F h₁ h₂ pair) c

-- (f₁, f₂) is one of the pairs
pub record OneOf (F : Numbers) (pairs : List Pair) (f₁ f₂ : ℕ → Element F) : Type 0 where
  pub pair : Pair
  pub member : Has pair pairs
  pub first : poly F pair.first ≡ f₁
  pub second : poly F pair.second ≡ f₂

-- the items are all that is sifted from the pairs, in order and each once
abbrev pub ListsSifted : (F : Numbers) → List ℕ → List ℕ → List ℕ → List ℕ → List ℕ → ℕ → ℕ → List Pair → List Candidate → Type 0
ListsSifted F αs vs rs h₁ h₂ k τ pairs items =
    (C : Code (field_of F)) → Describes F αs vs C → Lists in_order (FromOne F C k τ rs h₁ h₂ pairs) items

-- Where the setting is accepted, h₁ and h₂ are the second entries of the rows of the shares, and the pairs are the right ones: the items are all
-- codewords within τ of the shares, in order and each once, and are ℓ at most
abbrev pub ListsNear : (F : Numbers) → List ℕ → List ℕ → List ℕ → List ℕ → List ℕ → ℕ → ℕ → List Pair → List Candidate → Type 0
ListsNear F αs vs rs h₁ h₂ k τ pairs items =
    (C : Code (field_of F)) → Describes F αs vs C → (s ℓ : ℕ) → k + C.D ≡ C.n → Accepted C.n k τ s ℓ
    → (T : WordRows (field_of F) C (poly F rs)) → poly F h₁ ≡ T.P.b → poly F h₂ ≡ T.L.b
    → Pairs (field_of F) C T τ s ℓ (OneOf F pairs)
    → Lists in_order (Close F C k (poly F rs) τ) items × (length items ≤ ℓ)
