use Rattle.std.proofs.Common.{ℕ, ◌<◌, [], ◌∷◌, length, sym, subst, arith, length-append, length-set}
use Rattle.std.proofs.lemmas.Slice.Zip.{zip_turn, zip_end}
use Rattle.sift.proofs.Newton.{Newton, newton_none, newton_apart, newton_top, newton_turn, newton_done}
use Rattle.sift.proofs.interpolation.interpolate.Goals as goal

pub loop-point-init : goal.loop-point-init
loop-point-init g c =
    newton_none g.F.Field.numbers c.args.points.now c.args.values.now c.clear.new.a c.clear-2.new.a
    c.clear.ensures (omega arith) c.clear-2.ensures

pub factor-c-requires : goal.factor-c-requires
factor-c-requires g c =
    let F = g.F.Field.numbers in
    let l = length-set c.clear-2.new.a 0 1 in
    let turn = zip_turn c.args.points.now c.args.values.now c.loop-point.yielded c.into_iter-point-iterator.result c.loop-point.point-iterator c.next.new.self c.next.result
    (cc) (cc) c.loop-point.yielded_by (c.in-Some.point, c.in-Some.value) c.in-Some.is c.next.ensures.steps in
    record {
      first = c.loop-point.invariant.elements;
      second = c.loop-point.invariant.product.below;
      point = subst (λ (x : ℕ). x < F.q) (sym (turn.2 0)) (c.requires.points (length c.loop-point.yielded) turn.0);
      aim = subst (λ (y : ℕ). y < F.q) (sym (turn.3 0)) (c.requires.values (length c.loop-point.yielded) turn.1);
      apart = newton_apart F c.loop-point.invariant c.in-Some.point.now (turn.2 0) c.requires.points c.requires.distinct turn.0 (omega arith);
    }

pub mul_linear_in_place-requires : goal.mul_linear_in_place-requires
mul_linear_in_place-requires g c =
    let F = g.F.Field.numbers in
    let l = length-set c.clear-2.new.a 0 1 in
    let turn = zip_turn c.args.points.now c.args.values.now c.loop-point.yielded c.into_iter-point-iterator.result c.loop-point.point-iterator c.next.new.self c.next.result
    (cc) (cc) c.loop-point.yielded_by (c.in-Some.point, c.in-Some.value) c.in-Some.is c.next.ensures.steps in
    record {
      point = subst (λ (x : ℕ). x < F.q) (sym (turn.2 0)) (c.requires.points (length c.loop-point.yielded) turn.0);
      all = c.loop-point.invariant.product.below;
      some = omega arith;
      top = newton_top F c.loop-point.invariant (omega arith) turn.0;
    }

pub loop-point-preserved : goal.loop-point-preserved
loop-point-preserved g c =
    let F = g.F.Field.numbers in
    let l = length-set c.clear-2.new.a 0 1 in
    let turn = zip_turn c.args.points.now c.args.values.now c.loop-point.yielded c.into_iter-point-iterator.result c.loop-point.point-iterator c.next.new.self c.next.result
    (cc) (cc) c.loop-point.yielded_by (c.in-Some.point, c.in-Some.value) c.in-Some.is c.next.ensures.steps in
    subst (λ (n : ℕ). Newton F c.args.points.now c.args.values.now n c.add_multiple.new.a c.mul_linear_in_place.new.a)
    (sym (length-append c.loop-point.yielded ((c.in-Some.point, c.in-Some.value) ∷ [])))
    (newton_turn F c.loop-point.invariant c.in-Some.point.now c.in-Some.value.now c.factor-c.result c.add_multiple.new.a c.mul_linear_in_place.new.a
    (turn.2 0) (turn.3 0) turn.0 (omega arith) (omega arith) (omega arith) c.factor-c.ensures.meets c.add_multiple.ensures c.mul_linear_in_place.ensures)

pub returns : goal.returns
returns g c =
    let l = length-set c.clear-2.new.a 0 1 in
    let end = zip_end c.args.points.now c.args.values.now c.loop-point.yielded c.into_iter-point-iterator.result c.loop-point.point-iterator c.next.new.self c.next.result
    (cc) (cc) c.loop-point.yielded_by c.in-None.is c.next.ensures.steps in
    newton_done g.F.Field.numbers c.loop-point.invariant c.requires.points c.requires.distinct (omega arith) (omega arith)
