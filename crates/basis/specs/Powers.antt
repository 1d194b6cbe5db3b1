-- Sums to which multiples of powers are added.
use Rattle.std.specs.Prelude.{ℕ, ◌-◌, List, length, slice_index}
use Rattle.fields.specs.Numbers.{Numbers}
use Rattle.stages.specs.Coefficients.{listed, power}

-- t a ^ (n - 1 - i) more at each place i of the n
abbrev pub with_powers : Numbers → ℕ → ℕ → List ℕ → List ℕ
with_powers F t a xs = listed (length xs) (λ i. F.add (slice_index xs i) (F.mul t (power F a (length xs - 1 - i))))
