use Rattle.std.proofs.Common.{◌≡◌, ℕ, ◌+◌, [], ◌∷◌, ◌++◌, rules, length, get_or, drop, sym, ap, ◌∙◌, ap₂, arith}
use Rattle.algebra.specs.Sums.{sum}
use Rattle.fields.specs.Numbers.{times, ring_of, pos}
use Rattle.polynomials.specs.Series.{poly}
use Rattle.polynomials.proofs.Readings.{poly_at}
use Rattle.functionals.proofs.Runs.{given_more, length_push, sum_none, sum_more, sum_pass, right_zero}
use Rattle.functionals.proofs.dot.Goals as goal

pub loop-coefficient-init : goal.loop-coefficient-init
loop-coefficient-init g c =
    let F = g.F.Field.numbers in
    record {
      inside = omega arith;
      left = search rules;
      right = search rules;
      below = pos F;
      is = sum_none F (λ m. times F (poly F c.args.x.now m) (poly F c.args.p.now m));
    }

pub loop-coefficient-preserved-then-coefficient-ne0 : goal.loop-coefficient-preserved-then-coefficient-ne0
loop-coefficient-preserved-then-coefficient-ne0 g c =
    let F = g.F.Field.numbers in
    let p = c.args.p.now in
    let x = c.args.x.now in
    let f = λ (m : ℕ). times F (poly F x m) (poly F p m) in
    let i = c.loop-coefficient.invariant in
    let n : ℕ = length c.loop-coefficient.yielded in
    let a = given_more n p i.left c.in-Some.ensures.steps.0 in
    let b = given_more n x i.right c.in-Some.ensures.steps.1 in
    let e : length (c.loop-coefficient.yielded ++ ((c.in-Some.coefficient, c.in-Some.number) ∷ [])) ≡ n + 1 = length_push c.loop-coefficient.yielded _ in
    let m =
    sum_more F f n c.loop-coefficient.sum (get_or x n 0) (get_or p n 0) c.add-sum.result i.below (c.requires.second n b.0) (c.requires.first n a.0) i.is
    (ap₂ (times F) (sym (poly_at F x n)) (sym (poly_at F p n)))
    (c.add-sum.ensures ∙ ap (F.add c.loop-coefficient.sum) (c.product.ensures ∙ ap₂ F.mul (sym b.1) (sym a.1))) in
    record {
      inside = omega arith;
      left = a.2 ∙ ap (λ (k : ℕ). drop k p) (sym e);
      right = b.2 ∙ ap (λ (k : ℕ). drop k x) (sym e);
      below = m.0;
      is = m.1 ∙ ap (λ (k : ℕ). sum (ring_of F) k f) (sym e);
    }

pub loop-coefficient-preserved : goal.loop-coefficient-preserved
loop-coefficient-preserved g c =
    let F = g.F.Field.numbers in
    let p = c.args.p.now in
    let x = c.args.x.now in
    let f = λ (m : ℕ). times F (poly F x m) (poly F p m) in
    let i = c.loop-coefficient.invariant in
    let n : ℕ = length c.loop-coefficient.yielded in
    let a = given_more n p i.left c.in-Some.ensures.steps.0 in
    let b = given_more n x i.right c.in-Some.ensures.steps.1 in
    let e : length (c.loop-coefficient.yielded ++ ((c.in-Some.coefficient, c.in-Some.number) ∷ [])) ≡ n + 1 = length_push c.loop-coefficient.yielded _ in
    let m =
    sum_pass F f n c.loop-coefficient.sum i.is
    (ap (times F (poly F x n)) (poly_at F p n) ∙ right_zero F (poly F x n) (get_or p n 0) (a.1 ∙ c.if-coefficient-ne0.false)) in
    record {
      inside = omega arith;
      left = a.2 ∙ ap (λ (k : ℕ). drop k p) (sym e);
      right = b.2 ∙ ap (λ (k : ℕ). drop k x) (sym e);
      below = i.below;
      is = m ∙ ap (λ (k : ℕ). sum (ring_of F) k f) (sym e);
    }
