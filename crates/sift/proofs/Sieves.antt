-- What a sieve says of the numbers that it holds.
use Rattle.sift.specs.Received.{Placed}
use Rattle.sift.specs.declared.sieve.Sieve.{Sieve}

pub placed : {T : _} {F : _} (s : Sieve T F) → Placed F.numbers s.received.points.now s.received.multipliers.now s.received.shares.now
placed s =
    record {
      points = s.received.points_below;
      multipliers = s.received.multipliers_below;
      shares = s.received.shares_below;
      a_multiplier_each = s.received.a_multiplier_each;
      a_share_each = s.received.a_share_each;
      distinct = s.distinct;
      points_nonzero = s.points_nonzero;
      multipliers_nonzero = s.multipliers_nonzero;
    }
