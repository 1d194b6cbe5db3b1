-- There are ℓ codewords within τ at most: a form of degree ℓ has ℓ normalised roots at most, and distinct codewords have distinct roots. Within
-- half the minimum distance there is one at most.
use mathlib.Core.Path.{◌≡◌, ◌∙◌, ap, subst₂}
use mathlib.Core.Logic.{◌≢◌}
use Prim.Native.Nat.{ℕ, suc, ◌+◌, ◌*◌, ◌≤◌, ◌<◌, min}
use native.Mathlib.Omega.{arith}
use native.Mathlib.Decide.{dec_le}
use Rattle.algebra.specs.Ring.{Ring}
use Rattle.algebra.specs.Field.{Field}
use Rattle.algebra.specs.Poly.{Below}
use Rattle.algebra.specs.Euclid.{Stopped}
use Rattle.algebra.proofs.Euclid.{euclid}
use Rattle.algebra.proofs.PolySums.{zero_coefficient}
use Rattle.algebra.proofs.Homogeneous.{few_roots}
use Rattle.algebra.proofs.Coprime.{normal_unique}
use Rattle.decoding.specs.Code.{Code, syndrome}
use Rattle.decoding.specs.Setting.{minimum_distance, Accepted}
use Rattle.decoding.specs.Words.{Same, Near, Listing}
use Rattle.decoding.specs.Sift.{located, Passes}
use Rattle.decoding.specs.Rational.{Root}
use Rattle.decoding.specs.Pairs.{w₁, w₂, Interpolates}
use Rattle.decoding.proofs.KeyEquation.{syndrome_below}
use Rattle.decoding.proofs.Sift.{passes_once}
use Rattle.decoding.proofs.Yield.{located_below, single_below, yield_some, yield_single, yield_root}
use Rattle.decoding.proofs.Complete.{left_over, interpolant}

-- a Q that is not zero has ℓ normal roots at most
pub roots_at_most : (𝓕 : Field) (ℓ w₁ w₂ B : ℕ) (Q : ℕ → ℕ → 𝓕.ring.El) → ((t : ℕ) → t ≤ ℓ → Below 𝓕.ring B (Q t))
    → (t i : ℕ) → t ≤ ℓ → Q t i ≢ 𝓕.ring.𝟘 → (m : ℕ) (F₁ F₂ : ℕ → ℕ → 𝓕.ring.El)
    → ((i : ℕ) → i < m → Root 𝓕.ring ℓ w₁ w₂ Q (F₁ i) (F₂ i))
    → ((i j : ℕ) → i < j → j < m → (F₁ i ≡ F₁ j) × (F₂ i ≡ F₂ j) → ⊥) → m ≤ ℓ
roots_at_most 𝓕 ℓ w₁ w₂ B Q short t i l nz m F₁ F₂ root apart =
    elim (dec_le m ℓ) [
      | yes h ↦ h
      | no h ↦ absurd
          (nz
          (ap (λ (f : ℕ → 𝓕.ring.El). f i)
          (few_roots 𝓕 ℓ m Q F₁ F₂ (omega arith) (λ t u. (B, short t u)) (λ j u. (_, (root j u).f₁_below)) (λ j u. (_, (root j u).f₂_below))
          (λ a b u v e.
          apart a b u v
          (normal_unique 𝓕 (F₁ a) (F₂ a) (F₁ b) (F₂ b) (_, (root a (omega arith)).f₁_below) (_, (root a (omega arith)).f₂_below)
          (_, (root b v).f₁_below) (_, (root b v).f₂_below) (root a (omega arith)).coprime (root b v).coprime e (root a (omega arith)).normal (root b v).normal))
          (λ j u. (root j u).vanishes) t l)
          ∙ zero_coefficient 𝓕.ring i))
    ]

module _ (𝓕 : Field) (C : Code 𝓕) {k τ s ℓ : ℕ} (A : Accepted C.n k τ s ℓ) (sum : k + C.D ≡ C.n) (r : ℕ → 𝓕.ring.El) where
  abbrev R : Ring
  R = 𝓕.ring

  open 𝓕.ring use {El, 𝟘, 𝟙}

  rows : Stopped R (λ l. l) C.D (syndrome 𝓕 C r)
  rows = euclid 𝓕 (λ l. l) C.D (syndrome 𝓕 C r) (syndrome_below 𝓕 C r) (omega arith)

  -- no ℓ + 1 codewords within τ are distinct
  module _ (T : Stopped R (λ l. l) C.D (syndrome 𝓕 C r)) (c : ℕ → ℕ → El) (near : (i : ℕ) → Near 𝓕 C k τ r (c i))
      (apart : (i j : ℕ) → i < j → j ≤ ℓ → Same C.n (c i) (c j) → ⊥) where
    one_pair : τ ≤ T.p → ⊥
    one_pair h =
        apart 0 1 (omega arith) (let u : 1 ≤ s = A.multiplicity in let v : s ≤ ℓ = A.order in omega arith)
        (passes_once 𝓕 C k τ r τ (left_over 𝓕 C A sum r T) (single_below 𝓕 C k τ sum r T (yield_some 𝓕 C k τ sum r T (c 0) (near 0)))
        (yield_single 𝓕 C k τ sum r T (c 0) (near 0) h) (yield_single 𝓕 C k τ sum r T (c 1) (near 1) h))

    module _ (hp : T.p < τ) (Q : ℕ → ℕ → El) (q : Interpolates 𝓕 C T τ s ℓ Q) where
      pair : (i : ℕ) → (F₁ : ℕ → El) × (F₂ : ℕ → El) × Root R ℓ (w₁ τ T) (w₂ τ T) Q F₁ F₂
          × Passes 𝓕 C k τ r (located R T.P.b T.L.b F₁ F₂) (c i)
      pair i = yield_root 𝓕 C k τ sum r T (c i) (near i) hp s ℓ A.order Q q

      hl : T.l ≤ τ
      hl = yield_some 𝓕 C k τ sum r T (c 0) (near 0)

      root : (i : ℕ) → Root R ℓ (w₁ τ T) (w₂ τ T) Q (pair i).0 (pair i).1
      root i = (pair i).2

      -- distinct words have distinct pairs
      distinct : (i j : ℕ) → i < j → j < suc ℓ → ((pair i).0 ≡ (pair j).0) × ((pair i).1 ≡ (pair j).1) → ⊥
      distinct i j u v w =
          apart i j u (omega arith)
          (passes_once 𝓕 C k τ r τ (left_over 𝓕 C A sum r T)
          (located_below 𝓕 C k τ sum r T hl hp (pair j).0 (pair j).1 (root j).f₁_below (root j).f₂_below)
          (subst₂ (λ (x y : ℕ → El). Passes 𝓕 C k τ r (located R T.P.b T.L.b x y) (c i)) w.0 w.1 (pair i).3)
          (pair j).3)

      many_roots : ⊥
      many_roots =
          let few : suc ℓ ≤ ℓ =
          roots_at_most 𝓕 ℓ (w₁ τ T) (w₂ τ T) (s * τ) Q (λ t u m v. q.degrees t m u (let x : s * τ ≤ m = v in omega arith))
          q.position q.exponent q.within q.nonzero (suc ℓ) (λ i. (pair i).0) (λ i. (pair i).1) (λ i u. root i) distinct in
          omega arith

    none : Dec (τ ≤ T.p) → ⊥
    none (yes h) = one_pair h
    none (no h) =
        let (Q, q) = interpolant 𝓕 C A sum r T (yield_some 𝓕 C k τ sum r T (c 0) (near 0)) (omega arith) in
        many_roots (omega arith) Q q

  pub at_most : (m : ℕ) (c : ℕ → ℕ → El) → ((i : ℕ) → i < m → Near 𝓕 C k τ r (c i))
      → ((i j : ℕ) → i < j → j < m → Same C.n (c i) (c j) → ⊥) → m ≤ ℓ
  at_most m c near apart =
      elim (dec_le m ℓ) [
        | yes h ↦ h
        | no h ↦ absurd
            (none rows (λ i. c (min i ℓ)) (λ i. near (min i ℓ) (omega arith))
            (λ i j u v e. apart i j u (omega arith) (λ t x. ap (λ (a : ℕ). c a t) (omega arith) ∙ e t x ∙ ap (λ (a : ℕ). c a t) (omega arith)))
            (dec_le τ rows.p))
      ]

  -- so a list of them has ℓ entries at most
  pub listing_short : (m : ℕ) (W : ℕ → ℕ → El) → Listing 𝓕 C k τ r m W → m ≤ ℓ
  listing_short m W x = at_most m W x.right x.once

  -- within half the distance there is one at most
  pub at_most_one : 2 * τ < minimum_distance C.n k → (c c' : ℕ → El) → Near 𝓕 C k τ r c → Near 𝓕 C k τ r c' → Same C.n c c'
  at_most_one h c c' near near' =
      passes_once 𝓕 C k τ r τ (left_over 𝓕 C A sum r rows) (single_below 𝓕 C k τ sum r rows low)
      (yield_single 𝓕 C k τ sum r rows c near first) (yield_single 𝓕 C k τ sum r rows c' near' first)
    where
      low : rows.l ≤ τ
      low = yield_some 𝓕 C k τ sum r rows c near

      first : τ ≤ rows.p
      first =
          let u : rows.p + rows.l ≡ C.D = rows.rows.sum in
          let v : k < C.n = A.fewer in
          let w : rows.l ≤ τ = low in
          omega arith
