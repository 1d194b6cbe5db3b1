-- What a leaf of the walk comes to, in this order: the pair of the row at which Euclid's algorithm stops, the same as a record, the root that it gives, the
-- leaf's answer: the root, or nothing if there is none; and what that says without the rows, of the roots whose series begins with the digits.
use Rattle.std.specs.Prelude.{◌≡◌, ℕ, suc, ◌+◌, ◌≢◌, List, length, Some, Option, MatchOption}
use Rattle.algebra.specs.Poly.{conv, padd, pneg, Order}
use Rattle.algebra.specs.Coprime.{Normal}
use Rattle.decoding.specs.Rational.{Plain}
use Rattle.decoding.specs.Walk.{LeafRows, Leaf}
use Rattle.fields.specs.Numbers.{Numbers, AllBelow, Element, ring_of}
use Rattle.polynomials.specs.Series.{poly, Reads}
use Rattle.leaves.specs.declared.pairs.Pair.{Pair}
use Rattle.leaves.specs.declared.pairs.Chart.{Chart}
use Rattle.leaves.specs.Order.{arranged}

-- f₁ and f₂ are - b and a of the row (a, b) at which Euclid's algorithm on x ^ (w₁ + w₂ + 1) and the digits stops
pub record Reconstructs (F : Numbers) (w₁ w₂ : ℕ) (digits f₁ f₂ : List ℕ) : Type 0 where
  pub rows : LeafRows (ring_of F) w₁ w₂ (poly F digits)
  pub first : Reads F f₁ (pneg (ring_of F) rows.L.b)
  pub second : Reads F f₂ rows.L.a

-- a record of twice 32 elements
pub record Full (q : ℕ) (p : Pair) : Type 0 where
  pub first_below : AllBelow q p.first
  pub second_below : AllBelow q p.second
  pub first_long : length p.first ≡ 32
  pub second_long : length p.second ≡ 32

-- the pair - b, a as such a record
pub record Candidate (F : Numbers) (w₁ w₂ : ℕ) (digits : List ℕ) (p : Pair) : Type 0 where
  pub is : Reconstructs F w₁ w₂ digits p.first p.second
  pub full : Full F.q p

-- the normal pair p is the root of Q that the rows T give; in the turned chart its polynomials have changed places
pub record RootAt (F : Numbers) (chart : Chart) (ℓ w₁ w₂ : ℕ) (Q : ℕ → ℕ → Element F) {φ : ℕ → Element F} (T : LeafRows (ring_of F) w₁ w₂ φ) (p : Pair) : Type 0 where
  pub full : Full F.q p
  pub leaf : Leaf (ring_of F) ℓ w₁ w₂ Q T (poly F (arranged chart p).first) (poly F (arranged chart p).second)
  pub normal : Normal (ring_of F) (poly F p.first) (poly F p.second)

-- the answer r is the root that the digits come to, or that they come to none
pub record Reached (F : Numbers) (chart : Chart) (ℓ w₁ w₂ : ℕ) (Q : ℕ → ℕ → Element F) (digits : List ℕ) (r : Option Pair) : Type 0 where
  pub rows : LeafRows (ring_of F) w₁ w₂ (poly F digits)
  pub answer : MatchOption r ((f₁ f₂ : ℕ → Element F) → Leaf (ring_of F) ℓ w₁ w₂ Q rows f₁ f₂ → ⊥) (RootAt F chart ℓ w₁ w₂ Q rows)

-- p is normal, and (f₁, f₂), which is p, or p with its polynomials exchanged in the turned chart, is a coprime root of Q within the bounds, with f₁ (0)
-- not zero, so that f₂ / f₁ is a series; it begins with the digits
pub record Begins (F : Numbers) (chart : Chart) (ℓ w₁ w₂ : ℕ) (Q : ℕ → ℕ → Element F) (digits : List ℕ) (p : Pair) : Type 0 where
  pub full : Full F.q p
  pub normal : Normal (ring_of F) (poly F p.first) (poly F p.second)
  pub root : Plain (ring_of F) ℓ w₁ w₂ Q (poly F (arranged chart p).first) (poly F (arranged chart p).second)
  pub constant : poly F (arranged chart p).first 0 ≢ (ring_of F).𝟘
  pub series : Order (ring_of F) (suc (w₁ + w₂))
      (padd (ring_of F) (poly F (arranged chart p).second) (pneg (ring_of F) (conv (ring_of F) (poly F digits) (poly F (arranged chart p).first))))

-- the answer r is such a pair, the only one; or there is none
pub record Exact (F : Numbers) (chart : Chart) (ℓ w₁ w₂ : ℕ) (Q : ℕ → ℕ → Element F) (digits : List ℕ) (r : Option Pair) : Type 0 where
  pub sound : (p : Pair) → r ≡ Some p → Begins F chart ℓ w₁ w₂ Q digits p
  pub complete : (p : Pair) → Begins F chart ℓ w₁ w₂ Q digits p → r ≡ Some p
