-- What the definitions on lists mean in the decoder's theory: the syndrome of lists is the syndrome of the code that they make, the run of the rows
-- ends at rows at which Euclid's algorithm stops, with the degrees of the theory's rows, and the distance of lists is that of the words.
use Rattle.std.specs.Prelude.{◌≡◌, ℕ, suc, ◌-◌, ◌≤◌, List, length, pos, slice_index}
use Rattle.algebra.specs.Sums.{Distinct, NonZero}
use Rattle.decoding.specs.Code.{Code, syndrome as syndrome_of}
use Rattle.algebra.specs.Euclid.{Row as RowOf, Stopped}
use Rattle.decoding.specs.Words.{distance as distance_of}
use Rattle.fields.specs.Numbers.{Numbers, AllBelow, Element, ring_of, field_of}
use Rattle.polynomials.specs.Series.{poly}
use Rattle.stages.specs.Coefficients.{degree}
use Rattle.stages.specs.Syndrome.{syndrome}
use Rattle.stages.specs.Euclid.{Row, Rows, rows}
use Rattle.stages.specs.Basis.{crossing, basis}
use Rattle.stages.specs.Words.{distance}

module _ (F : Numbers) where
  -- the code with the points αs, the multipliers vs and D check symbols
  abbrev pub code_of : (αs vs : List ℕ) → ℕ → Distinct (ring_of F) (length αs) (poly F αs) → NonZero (ring_of F) (length αs) (poly F αs)
      → NonZero (ring_of F) (length αs) (poly F vs) → Code (field_of F)
  code_of αs vs D distinct points multipliers =
      record {
        n = length αs;
        D = D;
        α = poly F αs;
        v = poly F vs;
        distinct = distinct;
        α≢zero = points;
        v≢zero = multipliers;
      }

  -- a row of n numbers each, and the theory's row
  pub record RowReads (n : ℕ) (r : Row) (R : RowOf (ring_of F)) : Type 0 where
    pub a_below : AllBelow F.q r.a
    pub b_below : AllBelow F.q r.b
    pub a_length : length r.a ≡ n
    pub b_length : length r.b ≡ n
    pub a_is : poly F r.a ≡ R.a
    pub b_is : poly F r.b ≡ R.b

  -- Euclid's algorithm on x ^ D and S stops at these rows
  pub record Stops (limit : ℕ → ℕ) (D : ℕ) (S : ℕ → Element F) (rs : Rows) : Type 0 where
    pub stopped : Stopped (ring_of F) limit D S
    pub before : RowReads (suc D) rs.before stopped.P
    pub last : RowReads (suc D) rs.last stopped.L

-- The syndrome on lists is the theory's
abbrev pub SyndromeReads : Type 0
SyndromeReads =
    (F : Numbers) (αs vs rs : List ℕ) (D : ℕ) (distinct : Distinct (ring_of F) (length αs) (poly F αs))
    (points : NonZero (ring_of F) (length αs) (poly F αs)) (multipliers : NonZero (ring_of F) (length αs) (poly F vs))
    → AllBelow F.q αs → AllBelow F.q vs → AllBelow F.q rs
    → poly F (syndrome F αs vs D rs) ≡ syndrome_of (field_of F) (code_of F αs vs D distinct points multipliers) (poly F rs)

-- The run on x ^ D and S ends at rows at which Euclid's algorithm stops
abbrev pub RowsStop : Type 0
RowsStop =
    (F : Numbers) (limit : ℕ → ℕ) (D : ℕ) (S : List ℕ) → AllBelow F.q S → length S ≡ suc D → slice_index S D ≡ 0 → limit 0 ≤ D
    → Stops F limit D (poly F S) (rows F limit D S)

-- So the basis has the rows at which Euclid's algorithm on x ^ (n - k) and the theory's syndrome stops
abbrev pub BasisReads : Type 0
BasisReads =
    (F : Numbers) (αs vs rs : List ℕ) (k : ℕ) (distinct : Distinct (ring_of F) (length αs) (poly F αs))
    (points : NonZero (ring_of F) (length αs) (poly F αs)) (multipliers : NonZero (ring_of F) (length αs) (poly F vs))
    → AllBelow F.q αs → AllBelow F.q vs → AllBelow F.q rs
    → Stops F crossing (length αs - k) (syndrome_of (field_of F) (code_of F αs vs (length αs - k) distinct points multipliers) (poly F rs)) (basis F αs vs k rs).rows

-- The degrees of h10 and h21, from which the weights are taken, are those of the theory's rows
abbrev pub DegreesRead : Type 0
DegreesRead =
    (F : Numbers) (limit : ℕ → ℕ) (D : ℕ) (S : ℕ → Element F) (R : Rows) (T : Stops F limit D S R)
    → (degree R.before.a ≡ pos T.stopped.p) × (degree R.last.b ≡ pos T.stopped.l)

-- The distance of lists is the theory's
abbrev pub DistanceReads : Type 0
DistanceReads =
    (F : Numbers) (n : ℕ) (r c : List ℕ) → AllBelow F.q r → AllBelow F.q c
    → distance n r c ≡ distance_of (field_of F) n (poly F r) (poly F c)
