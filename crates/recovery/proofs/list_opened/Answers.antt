use Rattle.std.proofs.Common.{ℕ, List, length, take, refl, sym, ap, ◌∙◌, subst, ap₂, arith}
use Rattle.collections.specs.Standing.{given_of}
use Rattle.interpolating.specs.Interpolation.{room_fault}
use Rattle.interpolating.proofs.Stage.{areas_are}
use Rattle.pairs.specs.Stage.{Listable, AllNear}
use Rattle.recovery.proofs.Opened.{listable}
use Rattle.recovery.proofs.Found.{found_by}
use Rattle.recovery.proofs.list_opened.Goals as goal

pub new-received-requires : goal.new-received-requires
new-received-requires g c =
    let o = given_of c.args.opened.now in
    let t = listable g.F.Field.numbers o c.args.shares.now c.points-points.result.now c.multipliers.result.now o.threshold
    c.points-points.ensures c.multipliers.ensures refl c.requires.passed c.requires.below c.requires.told in
    let p = t.placed in
    record {
      points = p.points;
      multipliers = p.multipliers;
      shares = p.shares;
      a_multiplier_each = p.a_multiplier_each;
      a_share_each = p.a_share_each;
    }

pub list_shares-requires : goal.list_shares-requires
list_shares-requires g c =
    let F = g.F.Field.numbers in
    let t = c.new-received in
    let x = c.args.opened.now.setting in
    let r = areas_are _ x c.from-wanted.result (length c.args.out.now) (length c.args.work.now) c.in_ok-check_areas.ensures in
    record {
      given =
          subst (λ (rs : List ℕ). Listable F t.result.points.now t.result.multipliers.now c.threshold.result rs x) (sym t.ensures.shares)
          (listable F (given_of c.args.opened.now) c.args.shares.now t.result.points.now t.result.multipliers.now c.threshold.result
          (t.ensures.points ∙ c.points-points.ensures) (t.ensures.multipliers ∙ c.multipliers.ensures) c.threshold.ensures
          c.requires.passed c.requires.below c.requires.told);
      records = omega arith;
      numbers = r.1;
    }

pub returns : goal.returns
returns g c =
    let F = g.F.Field.numbers in
    let t = c.new-received in
    let x = c.args.opened.now.setting in
    let items = take c.list_shares.result c.list_shares.new.out in
    let r = areas_are _ x c.from-wanted.result (length c.args.out.now) (length c.args.work.now) c.in_ok-check_areas.ensures in
    record {
      fault =
          c.in_ok-check_areas.ensures
          ∙ ap₂ (λ (n z : ℕ). room_fault n x z (length c.args.out.now) (length c.args.work.now)) (ap length c.points-points.ensures) c.from-wanted.ensures;
      area = (
        found_by F (given_of c.args.opened.now) c.args.shares.now t.result.points.now t.result.multipliers.now c.threshold.result
            c.list_shares.result (length c.args.out.now) c.list_shares.new.out (t.ensures.points ∙ c.points-points.ensures) (t.ensures.multipliers ∙ c.multipliers.ensures)
            c.threshold.ensures c.requires.passed c.requires.below c.list_shares.ensures.count (omega arith) (omega arith)
            (subst (λ (rs : List ℕ). AllNear F t.result.points.now t.result.multipliers.now c.threshold.result rs x.radius items) t.ensures.shares c.list_shares.ensures.listed)
            c.list_shares.ensures.beyond,
        omega arith,
      );
    }
