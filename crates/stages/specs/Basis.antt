-- What the first stage of a listing answers: the syndrome, the rows at which Euclid's algorithm stops, and the two weights.
use Rattle.std.specs.Prelude.{ℕ, ◌-◌, List, ◌++◌, length, ℤ, pos, ◌-ℤ◌}
use Rattle.fields.specs.Numbers.{Numbers}
use Rattle.stages.specs.Coefficients.{degree}
use Rattle.stages.specs.Syndrome.{syndrome}
use Rattle.stages.specs.Euclid.{Rows, rows}

-- the run goes on while the degree of b is at most that of a: also where they are equal
abbrev pub crossing : ℕ → ℕ
crossing l = l

pub record Basis : Type 0 where
  pub S : List ℕ
  pub rows : Rows

-- for the points αs, the multipliers vs, the threshold k and the shares rs
unfoldable pub basis : Numbers → List ℕ → List ℕ → ℕ → List ℕ → Basis
basis F αs vs k rs =
    let D : ℕ = length αs - k in
    let S : List ℕ = syndrome F αs vs D rs in
    record { S = S; rows = rows F crossing D S }

-- S, h10, h11, h20, h21, each of D + 1 numbers
abbrev pub runs : Basis → List ℕ
runs B = B.S ++ (B.rows.before.a ++ (B.rows.before.b ++ (B.rows.last.a ++ B.rows.last.b)))

-- w1 = τ - deg h10 - 1, w2 = τ - deg h21
abbrev pub w1 : ℕ → Basis → ℤ
w1 τ B = pos τ -ℤ degree B.rows.before.a -ℤ pos 1

abbrev pub w2 : ℕ → Basis → ℤ
w2 τ B = pos τ -ℤ degree B.rows.last.b
