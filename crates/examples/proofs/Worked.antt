-- The worked cases, by computing.
use Rattle.std.proofs.Common.{refl}
use Rattle.algebra.specs.Sums.{count}
use Rattle.binary.specs.Binary.{carryless, reduced, product as binary_product}
use Rattle.codes.specs.Codewords.{value}
use Rattle.codes.specs.Settings.{accepted_setting, least_limit, least_setting}
use Rattle.stages.specs.Coefficients.{size_to, less, sum, product, power}
use Rattle.stages.specs.Syndrome.{dual, coefficient, syndrome}
use Rattle.stages.specs.Euclid.{divide, run}
use Rattle.stages.specs.Basis.{basis}
use Rattle.examples.specs.Messages.{before_each, messages, near}
use Rattle.examples.specs.Worked.{WorkedCases}

pub worked_cases : WorkedCases
unfolding carryless reduced binary_product count value accepted_setting least_limit least_setting size_to less sum product power dual coefficient syndrome divide run basis before_each messages near
worked_cases =
    record {
      syndrome = refl;
      before = refl;
      last = refl;
      first_weight = refl;
      second_weight = refl;
      word = refl;
      word_distance = refl;
      pair = refl;
      within_three = refl;
      within_two = refl;
      constants = refl;
      products = (refl, refl, refl);
      settings =
          record {
            left_side = refl;
            right_side = refl;
            refused = refl;
            accepted = refl;
            constants = refl;
            two_places = refl;
            one_check = refl;
            too_far = refl;
          };
    }
