use Rattle.std.proofs.Common.{◌≡◌, ℕ, ◌+◌, ◌<◌, ◌≢◌, length, take, set, sym, refl, ◌∙◌, subst, arith, length-set}
use Rattle.fields.specs.Numbers.{ring_of}
use Rattle.polynomials.specs.Series.{poly}
use Rattle.digits.specs.Runs.{runs}
use Rattle.digits.specs.Digits.{Decides}
use Rattle.digits.proofs.Courses.{at_leaf, at_start, at_skip, at_end}
use Rattle.digits.proofs.Turns.{all_set, value_zero, value_some, before_stays, turn_same, turn_walked, state_as}
use Rattle.digits.proofs.walking.+walk.Goals as goal
use Rattle.digits.proofs.walking.+walk.Goals.{then-evaluate-eq0, else-evaluate-eq0}

pub returns-then-t-digits : goal.returns-then-t-digits
returns-then-t-digits g t c =
    let F = g.F.Field.numbers in
    record {
      held = c.requires.held;
      same = refl;
      front = refl;
      all = c.requires.all;
      takes = λ ds l a. c.visit.ensures.kept ds (c.requires.takes ds l a);
      walked = at_leaf F c.args.shape.degree (length c.args.digits.now) c.args.t (take c.args.t c.args.digits.now) (runs F c.args.shape.width c.args.runs.now) g.L.Leaf.visits c.args.digits.now c.if-t-digits.true refl refl c.visit.ensures.visited;
    }

pub loop-e-init : goal.loop-e-init
loop-e-init g t c =
    let F = g.F.Field.numbers in
    let p = c.next_digit-polynomial.result in
    let decides : Decides (ring_of F) c.args.shape.degree c.args.t (runs F c.args.shape.width c.args.runs.now) (length p) (poly F p) =
    subst (λ (n : ℕ). Decides (ring_of F) c.args.shape.degree c.args.t (runs F c.args.shape.width c.args.runs.now) n (poly F p)) (sym c.next_digit-polynomial.ensures.long) c.next_digit-polynomial.ensures.decides in (
      c.requires.held,
      refl,
      refl,
      c.requires.all,
      c.requires.takes,
      at_start F c.args.shape.degree (length c.args.digits.now) c.args.t (take c.args.t c.args.digits.now) (runs F c.args.shape.width c.args.runs.now) (length p) (poly F p) decides (omega arith) g.L.Leaf.visits c.root_range-range.result.start c.root_range-range.result.end c.args.leaf.now c.root_range-range.ensures,
    )

pub walk-requires : goal.walk-requires
walk-requires g t c κs within =
    let F = g.F.Field.numbers in
    let q : c.loop-e.e < F.q = omega (arith, c.loop-e-test.true, c.root_range-range.ensures.within) in
    let long : length (set c.loop-e.digits c.args.t c.loop-e.e) ≡ length c.args.digits.now = length-set c.loop-e.digits c.args.t c.loop-e.e ∙ c.loop-e.auto.digits in
    let ne : c.args.t ≢ length c.args.digits.now = c.if-t-digits.false in (
      omega (arith, long, c.decreases, c.requires.place, ne),
      (
        within.0,
        (
          within.1,
          (
            c.shift.ensures.held,
            (
              c.requires.few,
              (
                omega (arith, long, c.requires.place, ne),
                (
                  omega (arith, long, c.requires.deep),
                  (all_set F c.loop-e.digits c.args.t c.loop-e.e c.loop-e.invariant.3 q, λ ds l a. c.loop-e.invariant.4 ds (l ∙ long) a),
                ),
              ),
            ),
          ),
        ),
      ),
    )

pub loop-e-preserved : goal.loop-e-preserved
loop-e-preserved g t c =
    let F = g.F.Field.numbers in
    let s = c.args.shape in
    let p = c.next_digit-polynomial.result in
    let decides : Decides (ring_of F) s.degree c.args.t (runs F s.width c.args.runs.now) (length p) (poly F p) =
    subst (λ (n : ℕ). Decides (ring_of F) s.degree c.args.t (runs F s.width c.args.runs.now) n (poly F p)) (sym c.next_digit-polynomial.ensures.long) c.next_digit-polynomial.ensures.decides in
    let q : c.loop-e.e < F.q = omega (arith, c.loop-e-test.true, c.root_range-range.ensures.within) in
    let inside : c.args.t < length c.args.digits.now = omega (arith, c.requires.place, c.if-t-digits.false) in
    elim c.if-evaluate-eq0.branch [
      | then-evaluate-eq0 w ↦
          let long : length (set c.loop-e.digits c.args.t c.loop-e.e) ≡ length c.args.digits.now = length-set c.loop-e.digits c.args.t c.loop-e.e ∙ c.loop-e.auto.digits in
          let root = value_zero F c.evaluate.result _ c.evaluate.ensures.is w.if-evaluate-eq0.true in
          state_as F s c.args.t g.L.Leaf.takes g.L.Leaf.visits c.args.runs.now c.args.digits.now c.args.leaf.now (c.loop-e.e + 1) w.runs-is w.digits-is w.leaf-is (
            w.shift-then-evaluate-eq0.ensures.held,
            turn_same F s c.args.t c.loop-e.e w.neg.result q w.neg.ensures c.args.runs.now c.loop-e.runs w.shift.new.runs w.walk.new.runs w.shift-then-evaluate-eq0.new.runs c.loop-e.invariant.0 w.shift-then-evaluate-eq0.ensures.held c.loop-e.invariant.1 w.shift.ensures.is w.walk.ensures.same w.shift-then-evaluate-eq0.ensures.is,
            before_stays F c.loop-e.digits c.args.digits.now w.walk.new.digits c.args.t c.loop-e.e c.loop-e.invariant.2 w.walk.ensures.front,
            w.walk.ensures.all,
            λ ds l a. w.walk.ensures.takes ds (l ∙ sym long) a,
            turn_walked F s c.args.t c.loop-e.e w.neg.result q w.neg.ensures c.args.runs.now c.loop-e.runs w.shift.new.runs w.walk.new.runs w.shift-then-evaluate-eq0.new.runs c.loop-e.invariant.0 w.shift-then-evaluate-eq0.ensures.held c.loop-e.invariant.1 w.shift.ensures.is w.walk.ensures.same w.shift-then-evaluate-eq0.ensures.is g.L.Leaf.visits (length p) (poly F p) c.loop-e.digits c.args.digits.now decides inside c.loop-e.auto.digits c.loop-e.invariant.2 root c.loop-e.invariant.5 w.walk.ensures.walked,
          )
      | else-evaluate-eq0 w ↦
          state_as F s c.args.t g.L.Leaf.takes g.L.Leaf.visits c.args.runs.now c.args.digits.now c.args.leaf.now (c.loop-e.e + 1) w.runs-is w.digits-is w.leaf-is (
            c.loop-e.invariant.0,
            c.loop-e.invariant.1,
            c.loop-e.invariant.2,
            c.loop-e.invariant.3,
            c.loop-e.invariant.4,
            at_skip F s.degree (length c.args.digits.now) c.args.t (take c.args.t c.args.digits.now) (runs F s.width c.args.runs.now) (length p) (poly F p) decides inside g.L.Leaf.visits c.loop-e.e (value_some F c.evaluate.result _ c.evaluate.ensures.is c.evaluate.ensures.below w.if-evaluate-eq0.false) c.loop-e.invariant.5,
          )
    ]

pub returns : goal.returns
returns g t c =
    let F = g.F.Field.numbers in
    let p = c.next_digit-polynomial.result in
    let decides : Decides (ring_of F) c.args.shape.degree c.args.t (runs F c.args.shape.width c.args.runs.now) (length p) (poly F p) =
    subst (λ (n : ℕ). Decides (ring_of F) c.args.shape.degree c.args.t (runs F c.args.shape.width c.args.runs.now) n (poly F p)) (sym c.next_digit-polynomial.ensures.long) c.next_digit-polynomial.ensures.decides in
    let inside : c.args.t < length c.args.digits.now = omega (arith, c.requires.place, c.if-t-digits.false) in
    record {
      held = c.loop-e.invariant.0;
      same = c.loop-e.invariant.1;
      front = c.loop-e.invariant.2;
      all = c.loop-e.invariant.3;
      takes = c.loop-e.invariant.4;
      walked = at_end F c.args.shape.degree (length c.args.digits.now) c.args.t (take c.args.t c.args.digits.now) (runs F c.args.shape.width c.args.runs.now) (length p) (poly F p) decides inside g.L.Leaf.visits c.root_range-range.result.start c.root_range-range.result.end c.loop-e.e c.root_range-range.ensures (omega (arith, c.loop-e-test.false)) c.loop-e.invariant.5;
    }
