-- The pairs from which a list decoder sifts, by the rows at which Euclid's algorithm stops, in this order: the weights; the point y : z of each place;
-- what is sifted from a set of pairs; the interpolant at all places; and when a set of pairs is the right one to sift from.
use Rattle.std.specs.Prelude.{◌≡◌, ◌↔◌, ℕ, suc, ◌-◌, ◌*◌, ◌≤◌, ◌<◌}
use Rattle.algebra.specs.Ring.{Ring}
use Rattle.algebra.specs.Field.{Field}
use Rattle.algebra.specs.Poly.{pzero, const, at}
use Rattle.algebra.specs.Euclid.{Stopped}
use Rattle.decoding.specs.Code.{Code}
use Rattle.decoding.specs.Multiplicity.{slope}
use Rattle.decoding.specs.Koetter.{Interpolant, homogeneous, Triangle}
use Rattle.decoding.specs.Rational.{Root}
use Rattle.decoding.specs.Sift.{located, Passes}

-- (f₁, f₂) is one of m pairs
abbrev pub Among : {A : Type 0} → ℕ → (ℕ → A) → (ℕ → A) → A → A → Type 0
Among m F₁ F₂ f₁ f₂ = (i : ℕ) × (i < m) × (F₁ i ≡ f₁) × (F₂ i ≡ f₂)

-- The weights, from the rows P, L at which Euclid's algorithm stops, p the degree of P.a and l that of L.b. In the words of the subject they
-- are the signed numbers w₁ = τ - p - 1 and w₂ = τ - l. Here they are numbers, which are right where p < τ and l ≤ τ: each statement below
-- says so where it speaks of them, and treats a negative w₂ (τ < l) and a negative w₁ (τ ≤ p) as cases of their own.
module _ {R : Ring} (τ : ℕ) {D : ℕ} {S : ℕ → R.El} (T : Stopped R (λ l. l) D S) where
  abbrev pub w₁ : ℕ
  w₁ = τ - suc T.p

  abbrev pub w₂ : ℕ
  w₂ = τ - T.l

module _ (𝓕 : Field) (C : Code 𝓕) {D : ℕ} {S : ℕ → 𝓕.ring.El} (T : Stopped 𝓕.ring (λ l. l) D S) where
  open 𝓕.ring use {El, 𝟙, ⊖◌}

  -- the ratio y : z that a pair f₂ : f₁ has at an error, from the values of the rows
  abbrev pub y_at : ℕ → El
  y_at j = at 𝓕.ring (C.α j) (suc T.l) T.P.b

  abbrev pub z_at : ℕ → El
  z_at j = ⊖◌ (at 𝓕.ring (C.α j) (suc T.l) T.L.b)

  -- the word c is sifted from one of the pairs of which G holds, for the shares r, the threshold k and the radius τ
  pub record Sifted (k τ : ℕ) (r : ℕ → El) (G : (ℕ → El) → (ℕ → El) → Type 0) (c : ℕ → El) : Type 0 where
    pub f₁ : ℕ → El
    pub f₂ : ℕ → El
    pub member : G f₁ f₂
    pub passes : Passes 𝓕 C k τ r (located 𝓕.ring T.P.b T.L.b f₁ f₂) c

  -- for the radius τ, the multiplicity s and the list limit ℓ
  module _ (τ s ℓ : ℕ) where
    -- Q has roots of multiplicity s at all n places, and a weighted degree below s τ
    abbrev pub Interpolates : (ℕ → ℕ → El) → Type 0
    Interpolates Q =
        Interpolant 𝓕 (homogeneous 𝓕.ring ℓ (w₁ τ T) (w₂ τ T) (s * τ) C.α (λ j. slope 𝓕 (y_at j) (z_at j))) (Triangle C.n s) Q

    -- G holds of the right pairs: of none, of (0, 1) alone, or of the roots of an interpolant
    pub record Pairs (G : (ℕ → El) → (ℕ → El) → Type 0) : Type 0 where
      pub none : τ < T.l → (f₁ f₂ : ℕ → El) → G f₁ f₂ → ⊥
      pub single : T.l ≤ τ → τ ≤ T.p → (f₁ f₂ : ℕ → El) → G f₁ f₂ ↔ ((f₁ ≡ pzero 𝓕.ring) × (f₂ ≡ const 𝓕.ring 𝟙))
      pub roots : T.l ≤ τ → T.p < τ
          → (Q : ℕ → ℕ → El) × Interpolates Q × ((f₁ f₂ : ℕ → El) → G f₁ f₂ ↔ Root 𝓕.ring ℓ (w₁ τ T) (w₂ τ T) Q f₁ f₂)
