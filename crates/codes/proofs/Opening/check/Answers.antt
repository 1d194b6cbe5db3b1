use Rattle.std.proofs.Common.{◌≡◌, length, take, sym, refl}
use Rattle.codes.specs.Opening.{given}
use Rattle.codes.proofs.Opened.{counted, dimension, places, non_zero, distinct, accepted, no_fault}
use Rattle.codes.proofs.Opening.check.Goals as goal

pub invariant_of-result : goal.invariant_of-result
invariant_of-result c =
    let q = c.args.q in
    let g = given c.args.self in
    let n = length g.points in
    let (few, same) = counted q g (sym c.in_ok-check_count.ensures) in
    let (p, r, m) = places q g (sym c.in_ok-check_places.ensures) in
    let t : take n c.padded-2.result ≡ g.multipliers = rw (← same) c.padded-2.ensures.front in
    record {
      points_length = c.padded.ensures.length;
      multipliers_length = c.padded-2.ensures.length;
      places = few;
      dimension = dimension g (sym c.in_ok-check_threshold.ensures);
      points_non_zero = non_zero q n g.points c.padded.result refl c.padded.ensures.front p;
      points_distinct = distinct n g.points c.padded.result refl c.padded.ensures.front r;
      multipliers_non_zero = non_zero q n g.multipliers c.padded-2.result (sym same) t m;
    }

pub returns : goal.returns
returns c =
    let q = c.args.q in
    let g = given c.args.self in
    let n = length g.points in
    let (few, same) = counted q g (sym c.in_ok-check_count.ensures) in
    let t : take n c.padded-2.result ≡ g.multipliers = rw (← same) c.padded-2.ensures.front in
    record {
      fault =
          sym
          (no_fault q g (sym c.in_ok-check_count.ensures) (sym c.in_ok-check_threshold.ensures) (sym c.in_ok-check_places.ensures)
          (sym c.in_ok-check_setting.ensures));
      code = record { field = refl; count = refl; points = c.padded.ensures.front; multipliers = t; threshold = refl };
      accepted = accepted g (sym c.in_ok-check_setting.ensures);
    }
