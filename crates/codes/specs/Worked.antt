-- Worked settings: acceptance and proposals computed.
use Rattle.std.specs.Prelude.{◌≡◌, ℕ, ◌-◌, ◌*◌, true, false, Ok, Err}
use Rattle.faults.specs.declared.CodeFault.TheVariants.{NoSetting}
use Rattle.codes.specs.Settings.{setting, accepts, proposal}

pub record WorkedSettings : Type 0 where
  -- n = 6, k = 2, τ = 3, so that d = 5: with s = 2, ℓ = 3 both sides of the rule are 36
  pub left_side : ◌≡◌ {A = ℕ} (2 * 4 * (2 * 3) - 3 * 4 * (2 * 3 - 5)) 36
  pub right_side : ◌≡◌ {A = ℕ} (6 * (2 * 3)) 36
  pub refused : accepts 6 2 3 2 3 ≡ false
  pub accepted : accepts 6 2 3 2 4 ≡ true
  pub constants : proposal 6 1 5 ≡ Ok (setting 5 5 6)
  pub two_places : proposal 2 1 1 ≡ Ok (setting 1 1 2)
  pub one_check : proposal 6 5 1 ≡ Ok (setting 1 1 6)
  pub too_far : proposal 6 2 4 ≡ Err NoSetting
