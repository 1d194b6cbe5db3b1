-- What a basis that was found holds.
use Rattle.std.specs.Prelude.{◌≡◌, ℕ, ◌-◌, ◌<◌, List, ◌++◌, length, take, ℤ, pos, ◌-ℤ◌}
use Rattle.fields.specs.Numbers.{Numbers}
use Rattle.stages.specs.Coefficients.{degree}
use Rattle.stages.specs.Syndrome.{syndrome}
use Rattle.stages.specs.Euclid.{Rows, rows as rows_of}
use Rattle.stages.specs.Basis.{Basis as BasisOf, crossing, w1, w2}
use Rattle.basis.specs.declared.Basis.{Basis}

-- S is the syndrome, R has the rows and a and b are the weights, where S has D + 1 numbers
pub record Filled (F : Numbers) (αs vs rs : List ℕ) (τ : ℕ) (S : List ℕ) (R : Rows) (a b : ℤ) : Type 0 where
  pub size : 0 < length S
  pub s : S ≡ syndrome F αs vs (length S - 1) rs
  pub rows : R ≡ rows_of F crossing (length S - 1) S
  pub first_weight : a ≡ pos τ -ℤ degree R.before.a -ℤ pos 1
  pub second_weight : b ≡ pos τ -ℤ degree R.last.b

-- the syndrome and the rows of B stand at the front of the arrays, and the weights are those of B for the radius τ
pub record Finds (B : BasisOf) (τ : ℕ) (r : Basis) : Type 0 where
  pub size : length B.S ≡ r.d
  pub s : take r.d r.s ≡ B.S
  pub h10 : take r.d r.h10 ≡ B.rows.before.a
  pub h11 : take r.d r.h11 ≡ B.rows.before.b
  pub h20 : take r.d r.h20 ≡ B.rows.last.a
  pub h21 : take r.d r.h21 ≡ B.rows.last.b
  pub first_weight : r.w1 ≡ w1 τ B
  pub second_weight : r.w2 ≡ w2 τ B

-- S, h10, h11, h20, h21 one after another
abbrev pub laid : Basis → List ℕ
laid r = take r.d r.s ++ (take r.d r.h10 ++ (take r.d r.h11 ++ (take r.d r.h20 ++ take r.d r.h21)))
