use Rattle.std.proofs.Common.{◌≡◌, ℕ, ◌-◌, ◌<◌, length, sym, ap, ◌∙◌, subst, ap₂, arith, rules}
use Rattle.std.proofs.lemmas.Int.{ints}
use Rattle.stages.specs.Coefficients.{size}
use Rattle.stages.specs.Syndrome.{syndrome}
use Rattle.stages.specs.Euclid.{row, two_rows}
use Rattle.basis.specs.Rows.{Room}
use Rattle.basis.proofs.Found.{written_below, written_stops}
use Rattle.basis.proofs.stage.fill.Goals as goal

pub find-requires : goal.find-requires
find-requires g c =
    let F = g.F.Field.numbers in
    let same : length c.args.s.now ≡ length c.syndrome.new.out = omega arith in
    let some : 0 < length c.args.s.now = c.requires.some in
    record {
      some = omega arith;
      all = written_below F c.args.received.now.points.now c.args.received.now.multipliers.now c.args.received.now.shares.now c.args.received.now.points_below c.args.received.now.multipliers_below c.args.received.now.shares_below
          (length c.args.s.now - 1) c.syndrome.new.out c.syndrome.ensures;
      lengths = subst (λ (n : ℕ). Room n c.args.h10.now c.args.h11.now c.args.h20.now c.args.h21.now) same c.requires.lengths;
    }

pub first_weight-requires : goal.first_weight-requires
first_weight-requires g c =
    let F = g.F.Field.numbers in
    let u = c.find.new.self in
    let same : length c.args.s.now ≡ length c.syndrome.new.out = omega arith in
    let stops = written_stops F c.args.received.now.points.now c.args.received.now.multipliers.now c.args.received.now.shares.now c.args.received.now.points_below c.args.received.now.multipliers_below c.args.received.now.shares_below
    (length c.syndrome.new.out - 1) c.syndrome.new.out (two_rows (row u.pa.now u.pb.now) (row u.la.now u.lb.now))
    (c.syndrome.ensures ∙ ap (λ (n : ℕ). syndrome F c.args.received.now.points.now c.args.received.now.multipliers.now (n - 1) c.args.received.now.shares.now) same) c.find.ensures.rows in
    record {
      all = stops.before.a_below;
      short = let e = c.requires.lengths.pa_length in let h = c.requires.short in omega arith;
    }

pub second_weight-requires : goal.second_weight-requires
second_weight-requires g c =
    let F = g.F.Field.numbers in
    let u = c.find.new.self in
    let same : length c.args.s.now ≡ length c.syndrome.new.out = omega arith in
    let stops = written_stops F c.args.received.now.points.now c.args.received.now.multipliers.now c.args.received.now.shares.now c.args.received.now.points_below c.args.received.now.multipliers_below c.args.received.now.shares_below
    (length c.syndrome.new.out - 1) c.syndrome.new.out (two_rows (row u.pa.now u.pb.now) (row u.la.now u.lb.now))
    (c.syndrome.ensures ∙ ap (λ (n : ℕ). syndrome F c.args.received.now.points.now c.args.received.now.multipliers.now (n - 1) c.args.received.now.shares.now) same) c.find.ensures.rows in
    record {
      all = stops.last.b_below;
      short = let e = c.requires.lengths.lb_length in let h = c.requires.short in omega arith;
    }

-- the areas hold what the rows held last, since the rows kept them
pub returns : goal.returns
returns g c =
    let F = g.F.Field.numbers in
    let same : length c.args.s.now ≡ length c.syndrome.new.out = omega arith in
    let some : 0 < length c.args.s.now = c.requires.some in
    let u = c.find.new.self in
    let pa : c.h10-1.given.0 ≡ u.pa.now = let tie = sym c.find.ensures.areas.pa in search rules in
    let pb : c.h11-1.given.0 ≡ u.pb.now = let tie = sym c.find.ensures.areas.pb in search rules in
    let la : c.h20-1.given.0 ≡ u.la.now = let tie = sym c.find.ensures.areas.la in search rules in
    let lb : c.h21-1.given.0 ≡ u.lb.now = let tie = sym c.find.ensures.areas.lb in search rules in
    record {
      size = omega arith;
      s = c.syndrome.ensures ∙ ap (λ (n : ℕ). syndrome F c.args.received.now.points.now c.args.received.now.multipliers.now (n - 1) c.args.received.now.shares.now) same;
      rows = ap₂ two_rows (ap₂ row pa pb) (ap₂ row la lb) ∙ c.find.ensures.rows;
      first_weight = omega (arith, ints, ap size pa);
      second_weight = omega (arith, ints, ap size lb);
    }
