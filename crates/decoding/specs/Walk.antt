-- The walk over the first N digits of the series φ with f₂ = φ f₁, for the roots (f₁, f₂) of Q = Σ_{t ≤ ℓ} Q_t y ^ t z ^ (ℓ - t), at y = f₂,
-- z = f₁, with f₁ (0) not zero: which digits it takes (Allowed), the prefixes that it visits, and the pair that it comes to at a leaf.
-- The roots with f₁ (0) = 0 are those of the turned Q, in which y and z have changed places, whose first digit is 0.
use Rattle.std.specs.Prelude.{◌≡◌, ◌≢◌, ℕ, suc, ◌+◌, ◌-◌, ◌*◌, ◌≤◌}
use Rattle.algebra.specs.Ring.{Ring}
use Rattle.algebra.specs.Poly.{conv, padd, pneg, pzero, const, mono, up, at, Order}
use Rattle.algebra.specs.PolyRing.{Poly}
use Rattle.algebra.specs.Taylor.{taylor, form}
use Rattle.algebra.specs.Euclid.{Stopped}

-- x ^ (t b) T_b, where Σ_b T_b u ^ b = Σ_t Q_t (φ + u) ^ t
abbrev pub layer : (R : Ring) → ℕ → (ℕ → ℕ → R.El) → ℕ → (ℕ → R.El) → ℕ → ℕ → R.El
layer R ℓ Q t φ b = up R (b * t) (taylor (Poly R) (suc ℓ) φ Q b)

-- e may be digit t after the prefix φ: it is a root of Σ_b c_b Y ^ b, for the coefficients c_b of x ^ m in the layers, at each m before which
-- all of these are zero (so only the first m at which some c_b is not zero says anything)
abbrev pub Allowed : (R : Ring) → ℕ → (ℕ → ℕ → R.El) → ℕ → (ℕ → R.El) → R.El → Type 0
Allowed R ℓ Q t φ e =
    (m : ℕ) → ((b : ℕ) → b ≤ ℓ → Order R m (layer R ℓ Q t φ b)) → at R e (suc ℓ) (λ b. layer R ℓ Q t φ b m) ≡ R.𝟘

-- the prefixes of t digits that the walk visits
pub data Visited (R : Ring) (ℓ : ℕ) (Q : ℕ → ℕ → R.El) : ℕ → (ℕ → R.El) → Type 0 where
  start : Visited R ℓ Q 0 (pzero R)
  further : {t : ℕ} {φ : ℕ → R.El} (e : R.El) → Visited R ℓ Q t φ → Allowed R ℓ Q t φ e
      → Visited R ℓ Q (suc t) (padd R φ (conv R (const R e) (mono R t)))

-- where Euclid's algorithm on x ^ (w₁ + w₂ + 1) and a leaf's series stops: at the first row whose a has the degree w₂ at most
abbrev pub LeafRows : (R : Ring) → ℕ → ℕ → (ℕ → R.El) → Type 0
LeafRows R w₁ w₂ φ = Stopped R (λ _. suc w₂) (suc (w₁ + w₂)) φ

-- (f₁, f₂) is a multiple of the pair (- b, a) of the row (a, b) at which Euclid's algorithm stops, with - b (0) not zero, and a root of Q
pub record Leaf (R : Ring) (ℓ w₁ w₂ : ℕ) (Q : ℕ → ℕ → R.El) {φ : ℕ → R.El} (T : LeafRows R w₁ w₂ φ) (f₁ f₂ : ℕ → R.El) : Type 0 where
  pub factor : R.El
  pub factor≢zero : factor ≢ R.𝟘
  pub first : f₁ ≡ conv R (const R factor) (pneg R T.L.b)
  pub second : f₂ ≡ conv R (const R factor) T.L.a
  pub constant : pneg R T.L.b 0 ≢ R.𝟘
  pub root : form (Poly R) ℓ Q T.L.a (pneg R T.L.b) ≡ pzero R

-- Q with y and z in each other's place
abbrev pub turned : {A : Type 0} → ℕ → (ℕ → ℕ → A) → ℕ → ℕ → A
turned ℓ Q t = Q (ℓ - t)

module _ (R : Ring) (ℓ w₁ w₂ : ℕ) (Q : ℕ → ℕ → R.El) where
  open R use {El, 𝟘}

  -- The first chart: the pairs at the leaves of the walk of w₁ + w₂ + 1 digits, where stop is where Euclid's algorithm stops at each leaf
  abbrev pub Found : ((φ : ℕ → El) → Visited R ℓ Q (suc (w₁ + w₂)) φ → LeafRows R w₁ w₂ φ) → (ℕ → El) → (ℕ → El) → Type 0
  Found stop f₁ f₂ = (φ : ℕ → El) × (v : Visited R ℓ Q (suc (w₁ + w₂)) φ) × Leaf R ℓ w₁ w₂ Q (stop φ v) f₁ f₂

  -- The second chart: the same for the turned Q, at the leaves whose first digit is 0
  abbrev pub FoundTurned : ((φ : ℕ → El) → Visited R ℓ (turned ℓ Q) (suc (w₂ + w₁)) φ → φ 0 ≡ 𝟘 → LeafRows R w₂ w₁ φ)
      → (ℕ → El) → (ℕ → El) → Type 0
  FoundTurned stop f₁ f₂ =
      (φ : ℕ → El) × (v : Visited R ℓ (turned ℓ Q) (suc (w₂ + w₁)) φ) × (z : φ 0 ≡ 𝟘) × Leaf R ℓ w₂ w₁ (turned ℓ Q) (stop φ v z) f₂ f₁
