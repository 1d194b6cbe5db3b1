-- Kötter's iteration for a homogeneous interpolant, as a relation between families of rows, in this order: a problem (Problem); the choice of the pivot
-- (None, Least); a step (Skip, Pivot) and the start; what holds between steps (Invariant); an interpolant (Interpolant); the constraints that are done;
-- a whole run (Run); the decoder's problem (homogeneous) and the order in which its loops take the constraints.
--
-- There are ℓ + 1 rows. Row j is a homogeneous Q with the coefficient G j t m of x ^ m y ^ t z ^ (ℓ - t); its leading term is
-- at the position j, with the exponent e j. The constraint (i, a, b) is the one of the orders a, b at the place i. A row is in use (Live)
-- while its weighted degree is below the bound; the others are no longer kept.
use Rattle.std.specs.Prelude.{◌≡◌, ◌≢◌, ◌⊎◌, ℕ, suc, ◌+◌, ◌-◌, ◌*◌, ◌≤◌, ◌<◌}
use Rattle.algebra.specs.Ring.{Ring}
use Rattle.algebra.specs.Field.{Field}
use Rattle.algebra.specs.Sums.{total}
use Rattle.algebra.specs.Poly.{conv, lin}
use Rattle.decoding.specs.Multiplicity.{Slope, expansion, functional}

-- an interpolation problem: what a row may have, and the constraints of each place
pub record Problem (A : Type 0) : Type 0 where
  pub ℓ : ℕ
  -- the weight of a position, and the bound on the weighted degrees
  pub W : ℕ → ℕ
  pub B : ℕ
  -- the point of a place, and the coefficients of the functionals there: c i b t for the position t
  pub α : ℕ → A
  pub c : ℕ → ℕ → ℕ → A

module _ (𝓕 : Field) (P : Problem 𝓕.ring.El) where
  infixl 60 ◌⊕◌
  infixl 70 ◌⊗◌
  infix 80 ⊖◌
  open 𝓕.ring use {El, 𝟘, 𝟙, ◌⊕◌, ⊖◌, ◌⊗◌}
  open P use {ℓ, W, B, α, c}

  -- the row j is in use
  abbrev pub Live : (ℕ → ℕ) → ℕ → Type 0
  Live e j = e j + W j < B

  -- the functional of the constraint (i, a, b), at a row Q
  abbrev pub value : ℕ → ℕ → ℕ → (ℕ → ℕ → El) → El
  value i a b Q = functional 𝓕.ring ℓ B (α i) (c i b) a Q

  -- no coefficient has an exponent from B on
  abbrev pub Short : (ℕ → ℕ → ℕ → El) → Type 0
  Short G = (j t m : ℕ) → j ≤ ℓ → t ≤ ℓ → B ≤ m → G j t m ≡ 𝟘

  -- of the rows before k: those in use satisfy the constraint; or the row p is the least that does not
  abbrev pub None : ℕ → ℕ → ℕ → (ℕ → ℕ → ℕ → El) → (ℕ → ℕ) → ℕ → Type 0
  None i a b G e k = (j : ℕ) → j < k → Live e j → value i a b (G j) ≡ 𝟘

  pub record Least (i a b : ℕ) (G : ℕ → ℕ → ℕ → El) (e : ℕ → ℕ) (k p : ℕ) : Type 0 where
    pub inside : p < k
    pub live : Live e p
    pub fails : value i a b (G p) ≢ 𝟘
    pub least : (j : ℕ) → j < k → Live e j → value i a b (G j) ≢ 𝟘 → e p + W p ≤ e j + W j
    pub tie : (j : ℕ) → j < k → Live e j → value i a b (G j) ≢ 𝟘 → e p + W p ≡ e j + W j → p ≤ j

  -- A step: all rows in use satisfy the constraint
  pub record Skip (i a b : ℕ) (G : ℕ → ℕ → ℕ → El) (e : ℕ → ℕ) (G' : ℕ → ℕ → ℕ → El) (e' : ℕ → ℕ) : Type 0 where
    pub none : None i a b G e (suc ℓ)
    pub short : Short G'
    pub rows : (j : ℕ) → j ≤ ℓ → Live e j → (t m : ℕ) → t ≤ ℓ → m < B → G' j t m ≡ G j t m
    pub exponents : (j : ℕ) → j ≤ ℓ → e' j ≡ e j

  -- Or the row p, the least that does not, makes the others satisfy it; itself it is multiplied by x - α i
  pub record Pivot (i a b : ℕ) (G : ℕ → ℕ → ℕ → El) (e : ℕ → ℕ) (G' : ℕ → ℕ → ℕ → El) (e' : ℕ → ℕ) : Type 0 where
    pub p : ℕ
    pub chosen : Least i a b G e (suc ℓ) p
    pub ratio : ℕ → El
    pub ratios : (j : ℕ) → j ≤ ℓ → Live e j → j ≢ p → ratio j ⊗ value i a b (G p) ≡ value i a b (G j)
    pub short : Short G'
    pub others : (j : ℕ) → j ≤ ℓ → Live e j → j ≢ p → (t m : ℕ) → t ≤ ℓ → m < B → G' j t m ≡ G j t m ⊕ ⊖ (ratio j ⊗ G p t m)
    pub pivot : suc (e p) + W p < B → (t m : ℕ) → t ≤ ℓ → m < B → G' p t m ≡ conv 𝓕.ring (lin 𝓕.ring (α i)) (G p t) m
    pub exponent : e' p ≡ suc (e p)
    pub exponents : (j : ℕ) → j ≤ ℓ → j ≢ p → e' j ≡ e j

  abbrev pub Step : ℕ → ℕ → ℕ → (ℕ → ℕ → ℕ → El) → (ℕ → ℕ) → (ℕ → ℕ → ℕ → El) → (ℕ → ℕ) → Type 0
  Step i a b G e G' e' = Skip i a b G e G' e' ⊎ Pivot i a b G e G' e'

  -- the rows y ^ j z ^ (ℓ - j)
  pub record Start (G : ℕ → ℕ → ℕ → El) (e : ℕ → ℕ) : Type 0 where
    pub exponents : (j : ℕ) → j ≤ ℓ → e j ≡ 0
    pub one : (j : ℕ) → j ≤ ℓ → Live e j → G j j 0 ≡ 𝟙
    pub rest : (j : ℕ) → j ≤ ℓ → Live e j → (t m : ℕ) → t ≤ ℓ → (t ≡ j → 0 < m) → G j t m ≡ 𝟘

  -- what holds after n steps, when the constraints D are done
  pub record Invariant (D : ℕ → ℕ → ℕ → Type 0) (n : ℕ) (G : ℕ → ℕ → ℕ → El) (e : ℕ → ℕ) : Type 0 where
    pub lead : (j : ℕ) → j ≤ ℓ → Live e j → G j j (e j) ≢ 𝟘
    pub above : (j : ℕ) → j ≤ ℓ → Live e j → (t m : ℕ) → t ≤ ℓ → e j + W j < m + W t → G j t m ≡ 𝟘
    pub level : (j : ℕ) → j ≤ ℓ → Live e j → (t m : ℕ) → t ≤ ℓ → e j + W j ≡ m + W t → j < t → G j t m ≡ 𝟘
    pub holds : (j : ℕ) → j ≤ ℓ → Live e j → (i a b : ℕ) → D i a b → value i a b (G j) ≡ 𝟘
    pub count : total (suc ℓ) e ≤ n

  -- Q is an interpolant: not zero, of a weighted degree below B, and satisfies the constraints
  pub record Interpolant (D : ℕ → ℕ → ℕ → Type 0) (Q : ℕ → ℕ → El) : Type 0 where
    pub position : ℕ
    pub exponent : ℕ
    pub within : position ≤ ℓ
    pub nonzero : Q position exponent ≢ 𝟘
    pub degrees : (t m : ℕ) → t ≤ ℓ → B ≤ m + W t → Q t m ≡ 𝟘
    pub holds : (i a b : ℕ) → D i a b → value i a b Q ≡ 𝟘

-- of each constraint that is done, the one with a less by one is done
abbrev pub Closed : (ℕ → ℕ → ℕ → Type 0) → Type 0
Closed D = (i a b : ℕ) → D i (suc a) b → D i a b

-- and of the next constraint too
abbrev pub Next : (ℕ → ℕ → ℕ → Type 0) → ℕ → ℕ → ℕ → Type 0
Next D i a b = (a' : ℕ) → a ≡ suc a' → D i a' b

-- one constraint more
abbrev pub Add : (ℕ → ℕ → ℕ → Type 0) → ℕ → ℕ → ℕ → ℕ → ℕ → ℕ → Type 0
Add D i a b i' a' b' = D i' a' b' ⊎ ((i' ≡ i) × (a' ≡ a) × (b' ≡ b))

-- the constraint k of a list of them is (place k, x k, y k); those before k are done
abbrev pub Done : (ℕ → ℕ) → (ℕ → ℕ) → (ℕ → ℕ) → ℕ → ℕ → ℕ → ℕ → Type 0
Done place x y k i a b = (h : ℕ) × (h < k) × (place h ≡ i) × (x h ≡ a) × (y h ≡ b)

-- n steps from the start, the rows and exponents after k steps being G k and e k
pub record Run (𝓕 : Field) (P : Problem 𝓕.ring.El) (n : ℕ) (place x y : ℕ → ℕ) (G : ℕ → ℕ → ℕ → ℕ → 𝓕.ring.El)
    (e : ℕ → ℕ → ℕ) : Type 0 where
  pub start : Start 𝓕 P (G 0) (e 0)
  pub step : (k : ℕ) → k < n → Step 𝓕 P (place k) (x k) (y k) (G k) (e k) (G (suc k)) (e (suc k))
  pub ordered : (k : ℕ) → k < n → Next (Done place x y k) (place k) (x k) (y k)

-- the problem of roots at x = α i, y / z = σ i, where y weighs w₂ and z weighs w₁
abbrev pub homogeneous : (R : Ring) → ℕ → ℕ → ℕ → ℕ → (ℕ → R.El) → (ℕ → Slope R.El) → Problem R.El
homogeneous R ℓ w₁ w₂ B α σ =
    record { ℓ = ℓ; W = λ t. t * w₂ + (ℓ - t) * w₁; B = B; α = α; c = λ i b. expansion R ℓ (σ i) b }

-- the constraints of a root of multiplicity s at each of n places
abbrev pub Triangle : ℕ → ℕ → ℕ → ℕ → ℕ → Type 0
Triangle n s i a b = (i < n) × (a + b < s)

-- those done when three loops, over the places, over b < s and over a < s - b, have come to i, b, a; and their number
abbrev pub Upto : ℕ → ℕ → ℕ → ℕ → ℕ → ℕ → ℕ → Type 0
Upto s i b a i' a' b' = (a' + b' < s) × ((i' < i) ⊎ ((i' ≡ i) × ((b' < b) ⊎ ((b' ≡ b) × (a' < a)))))

abbrev pub steps : ℕ → ℕ → ℕ → ℕ → ℕ
steps s i b a = i * total s (λ b'. s - b') + total b (λ b'. s - b') + a
