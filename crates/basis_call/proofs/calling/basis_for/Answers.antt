use Rattle.std.proofs.Common.{◌≡◌, ℕ, length, sym, ap, ◌∙◌, subst, arith}
use Rattle.fields.specs.Numbers.{AllBelow}
use Rattle.basis_call.proofs.Codes.{below_by, count_by, points_room, multipliers_room}
use Rattle.basis_call.proofs.calling.basis_for.Goals as goal

pub new-received-requires : goal.new-received-requires
new-received-requires g c =
    let q = g.F.Field.numbers.q in
    let code = c.args.opened.now.code in
    let n = code.count in
    let lp : length c.points.result.now ≡ n = count_by n code.points c.points.result.now (points_room code) c.points.ensures in
    let lm : length c.multipliers.result.now ≡ n = count_by n code.multipliers c.multipliers.result.now (multipliers_room code) c.multipliers.ensures in
    record {
      points = subst (λ (p : ℕ). AllBelow p c.points.result.now) c.requires.over
          (below_by code.q n code.points c.points.result.now code.points_non_zero (points_room code) c.points.ensures);
      multipliers = subst (λ (p : ℕ). AllBelow p c.multipliers.result.now) c.requires.over
          (below_by code.q n code.multipliers c.multipliers.result.now code.multipliers_non_zero (multipliers_room code) c.multipliers.ensures);
      shares = c.requires.all;
      a_multiplier_each = lm ∙ sym lp;
      a_share_each = c.requires.told ∙ sym lp;
    }

pub find_basis-requires : goal.find_basis-requires
find_basis-requires g c =
    let code = c.args.opened.now.code in
    let dim = code.dimension in
    let lp = count_by code.count code.points c.points.result.now (points_room code) c.points.ensures in
    let e = ap length c.new-received.ensures.points in
    record {
      some = let d0 = dim.0 in omega arith;
      fewer = let d1 = dim.1 in omega arith;
      short = let b = code.places.1 in omega arith;
    }
