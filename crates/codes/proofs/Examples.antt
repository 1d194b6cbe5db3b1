-- The worked settings, by computation.
use Rattle.std.proofs.Common.{refl}
use Rattle.codes.specs.Settings.{accepted_setting, least_limit, least_setting}
use Rattle.codes.specs.Worked.{WorkedSettings}

pub worked_settings : WorkedSettings
unfolding accepted_setting least_limit least_setting
worked_settings =
    record {
      left_side = refl;
      right_side = refl;
      refused = refl;
      accepted = refl;
      constants = refl;
      two_places = refl;
      one_check = refl;
      too_far = refl;
    }
