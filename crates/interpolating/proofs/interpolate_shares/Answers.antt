use Rattle.std.proofs.Common.{◌≡◌, ℕ, ◌+◌, ◌*◌, ◌≤◌, length, take, pos, Some, None, sym, ap, ◌∙◌, subst, ap₂, add-one, arith}
use Rattle.std.proofs.lemmas.Result.{err_from_is_err_and}
use Rattle.codes.specs.Opening.{fault_of}
use Rattle.stages.specs.Basis.{basis}
use Rattle.basis.specs.Found.{Finds}
use Rattle.fields.specs.Numbers.{AllBelow}
use Rattle.interpolant.specs.declared.Shape.{Shape}
use Rattle.interpolating.specs.Interpolation.{shape_of, room_fault}
use Rattle.interpolating.proofs.Bounds.{rooms, enough, h11_below, h21_below}
use Rattle.interpolating.proofs.Stage.{wanted, weight_refused, weight_passed, left_behind, weights_are, areas_are, interpolated}
use Rattle.interpolating.proofs.interpolate_shares.Goals as goal

pub returns-in_err-shape : goal.returns-in_err-shape
returns-in_err-shape g c =
    let F = g.F.Field.numbers in
    let p = err_from_is_err_and c.from_residual.result c.from_residual.ensures.1 in
    let αs = c.args.received.now.points.now in
    let vs = c.args.received.now.multipliers.now in
    let rs = c.args.received.now.shares.now in
    let f : Finds (basis F αs vs c.args.threshold rs) c.args.setting.radius c.find_basis-basis.result =
    subst (λ (k : ℕ). Finds (basis F αs vs k rs) c.args.setting.radius c.find_basis-basis.result) c.from.ensures c.find_basis-basis.ensures in
    record {
      fault = ap fault_of p.1 ∙ ap Some p.2
          ∙ weight_refused F αs vs c.args.threshold c.args.setting rs (length c.args.out.now) (length c.args.work.now) c.find_basis-basis.result.w1
          c.find_basis-basis.result.w2 c.in_err-shape.field-0.0 f.first_weight f.second_weight c.in_err-shape.ensures.fault;
      area = left_behind F αs vs c.args.threshold c.args.setting rs c.from_residual.result p.0 c.args.out.now p.1;
    }

pub returns-in_err-check_areas : goal.returns-in_err-check_areas
returns-in_err-check_areas g c =
    let F = g.F.Field.numbers in
    let αs = c.args.received.now.points.now in
    let vs = c.args.received.now.multipliers.now in
    let rs = c.args.received.now.shares.now in
    let k = c.args.threshold in
    let x = c.args.setting in
    let f : Finds (basis F αs vs c.args.threshold rs) c.args.setting.radius c.find_basis-basis.result =
    subst (λ (k : ℕ). Finds (basis F αs vs k rs) c.args.setting.radius c.find_basis-basis.result) c.from.ensures c.find_basis-basis.ensures in
    let p = err_from_is_err_and c.from_residual-in_err-check_areas.result c.from_residual-in_err-check_areas.ensures.1 in
    record {
      fault = ap fault_of p.1 ∙ ap Some p.2
          ∙ weight_passed F αs vs k x rs (length c.args.out.now) (length c.args.work.now) c.find_basis-basis.result.w1 c.find_basis-basis.result.w2
          (Some c.in_err-check_areas.field-0.0) f.first_weight f.second_weight c.in_ok-shape.ensures.fault
          (c.in_err-check_areas.ensures
          ∙ ap (λ (z : ℕ). room_fault (length αs) x z (length c.args.out.now) (length c.args.work.now)) (wanted c.in_ok-shape.shape x c.find_basis-basis.result.w1 c.find_basis-basis.result.w2 c.in_ok-shape.ensures.shape));
      area = left_behind F αs vs k x rs c.from_residual-in_err-check_areas.result p.0 c.args.out.now p.1;
    }

pub write-requires : goal.write-requires
write-requires g c =
    let F = g.F.Field.numbers in
    let αs = c.args.received.now.points.now in
    let vs = c.args.received.now.multipliers.now in
    let rs = c.args.received.now.shares.now in
    let k = c.args.threshold in
    let x = c.args.setting in
    let f : Finds (basis F αs vs c.args.threshold rs) c.args.setting.radius c.find_basis-basis.result =
    subst (λ (k : ℕ). Finds (basis F αs vs k rs) c.args.setting.radius c.find_basis-basis.result) c.from.ensures c.find_basis-basis.ensures in
    let S = c.in_ok-shape.shape in
    let e = c.in_ok-shape.ensures.shape in
    let w = weights_are c.find_basis-basis.result.w1 c.find_basis-basis.result.w2 c.in_ok-shape.ensures.fault in
    let a = areas_are (length αs) x ((S.degree + 1) * S.bound) (length c.args.out.now) (length c.args.work.now) c.in_ok-check_areas.ensures in
    let d : c.in_ok-shape.shape.degree ≡ c.args.setting.list_limit = ap (λ (T : Shape). T.degree) e in
    let m : c.in_ok-shape.shape.multiplicity ≡ c.args.setting.multiplicity = ap (λ (T : Shape). T.multiplicity) e in
    let b : c.in_ok-shape.shape.bound ≡ c.args.setting.multiplicity * c.args.setting.radius = ap (λ (T : Shape). T.bound) e in
    let few = rooms S (length αs) k x.radius x.multiplicity x.list_limit c.requires.accepted c.requires.short d m b in
    let room : 32000 ≤ length c.args.work.now = a.1 in
    let short : c.args.setting.list_limit ≤ 8 = c.requires.accepted.short in
    record {
      points = c.args.received.now.points_below;
      first = subst (AllBelow F.q) (sym f.h11) (h11_below F αs vs k rs c.args.received.now.points_below c.args.received.now.multipliers_below c.args.received.now.shares_below);
      second = subst (AllBelow F.q) (sym f.h21) (h21_below F αs vs k rs c.args.received.now.points_below c.args.received.now.multipliers_below c.args.received.now.shares_below);
      degree = omega arith;
      size = subst (λ (n : ℕ). n * S.bound ≤ length c.args.out.now) (add-one S.degree) a.0;
      space = omega arith;
      enough =
          enough F αs vs k rs c.args.received.now.points_below c.args.received.now.multipliers_below c.args.received.now.shares_below S x.radius x.multiplicity x.list_limit c.requires.accepted d m b
          (ap (λ (T : Shape). pos T.w1) e ∙ w.0 ∙ f.first_weight) (ap (λ (T : Shape). pos T.w2) e ∙ w.1 ∙ f.second_weight);
    }

pub returns : goal.returns
returns g c =
    let F = g.F.Field.numbers in
    let αs = c.args.received.now.points.now in
    let vs = c.args.received.now.multipliers.now in
    let rs = c.args.received.now.shares.now in
    let k = c.args.threshold in
    let x = c.args.setting in
    let f : Finds (basis F αs vs c.args.threshold rs) c.args.setting.radius c.find_basis-basis.result =
    subst (λ (k : ℕ). Finds (basis F αs vs k rs) c.args.setting.radius c.find_basis-basis.result) c.from.ensures c.find_basis-basis.ensures in
    record {
      fault = weight_passed F αs vs k x rs (length c.args.out.now) (length c.args.work.now) c.find_basis-basis.result.w1 c.find_basis-basis.result.w2 None
          f.first_weight f.second_weight c.in_ok-shape.ensures.fault
          (c.in_ok-check_areas.ensures
          ∙ ap (λ (z : ℕ). room_fault (length αs) x z (length c.args.out.now) (length c.args.work.now)) (wanted c.in_ok-shape.shape x c.find_basis-basis.result.w1 c.find_basis-basis.result.w2 c.in_ok-shape.ensures.shape));
      area =
          interpolated F αs vs k x rs c.in_ok-shape.shape (take c.find_basis-basis.result.d c.find_basis-basis.result.h11) (take c.find_basis-basis.result.d c.find_basis-basis.result.h21) c.args.out.now c.write.new.out
          (c.in_ok-shape.ensures.shape ∙ ap₂ (shape_of x) f.first_weight f.second_weight) f.h11 f.h21
          c.write.ensures.solution c.write.ensures.decodes c.write.ensures.rest;
    }
