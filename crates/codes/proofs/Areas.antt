-- The work area of any setting has 32,000 numbers at least.
use Rattle.std.proofs.Common.{ℕ, ◌≤◌, Bool, true, false, cond, arith}
use Rattle.codes.specs.declared.Setting.{Setting}
use Rattle.codes.specs.Settings.{small, work_area}

chosen : (t : Bool) → 32000 ≤ cond t 32000 400000
chosen true = omega arith
chosen false = omega arith

pub least_work : (n : ℕ) (x : Setting) → 32000 ≤ work_area n x
least_work n x = chosen (small n x.multiplicity)
