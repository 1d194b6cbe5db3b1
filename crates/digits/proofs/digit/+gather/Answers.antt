use Rattle.std.proofs.Common.{◌≡◌, ℕ, ◌+◌, ◌-◌, ◌<◌, List, length, get_or, take, drop, set, sym, ap, ◌∙◌, subst, arith, length-drop, length-set, length-take}
use Rattle.fields.specs.Numbers.{ring_of}
use Rattle.polynomials.specs.Series.{Reads}
use Rattle.digits.specs.declared.Shape.{Shape}
use Rattle.digits.specs.Runs.{runs, Held}
use Rattle.digits.specs.Digits.{column}
use Rattle.digits.proofs.Arrays.{held_rest, part_rest}
use Rattle.digits.proofs.Columns.{gathered_one, gathered_front, gathered_more}
use Rattle.digits.proofs.digit.+gather.Goals as goal

pub returns-then-shape-eq0 : goal.returns-then-shape-eq0
returns-then-shape-eq0 g t c =
    gathered_one g.F.Field.numbers c.args.shape c.args.runs.now c.args.out.now c.args.out.now c.args.t c.args.m c.requires.held c.requires.inside c.if-shape-eq0.true c.requires.long

pub returns-then-m-t : goal.returns-then-m-t
returns-then-m-t g t c =
    gathered_front g.F.Field.numbers c.args.shape c.args.runs.now c.args.out.now c.clear.new.a c.args.t c.args.m c.requires.held c.requires.inside c.if-m-t.true c.requires.long c.clear.ensures

pub gather-requires : goal.gather-requires
gather-requires g t c κs within =
    let F = g.F.Field.numbers in
    let s = c.args.shape in
    let some : 0 < s.degree = omega arith in
    let e = c.rest.ensures in
    let held : Held F c.rest.result (take (length c.args.runs.now - s.width) (drop s.width c.args.runs.now)) =
    subst (Held F c.rest.result) (sym (part_rest F s.width c.args.runs.now)) (held_rest F s c.rest.result c.args.runs.now e c.requires.held some) in
    let less : c.rest.result.degree ≡ s.degree - 1 = ap (λ (z : Shape). z.degree) e in
    let same : c.rest.result.width ≡ s.width = ap (λ (z : Shape). z.width) e in
    let out = set c.args.out.now 0 (get_or c.args.runs.now c.args.m 0) in
    let long : length (take (length out - 1) (drop 1 out)) ≡ c.rest.result.degree + 1 =
    length-take (length out - 1) (drop 1 out) ∙ (let a = length-drop 1 out in let b : length out ≡ length c.args.out.now = length-set c.args.out.now 0 (get_or c.args.runs.now c.args.m 0) in omega (arith, c.requires.long, less)) in
    (omega (arith, less, c.decreases), (within, (held, (omega (arith, same, c.requires.inside), long))))

pub returns : goal.returns
returns g t c =
    let F = g.F.Field.numbers in
    let s = c.args.shape in
    let same : c.rest.result.width ≡ s.width = ap (λ (z : Shape). z.width) c.rest.ensures in
    gathered_more F s c.args.runs.now c.args.out.now c.gather.new.out c.args.t c.args.m c.requires.held c.requires.inside c.if-m-t.false c.requires.long
    (subst (λ (w : ℕ). Reads F c.gather.new.out (column (ring_of F) c.args.t (c.args.m - c.args.t) (runs F w (drop s.width c.args.runs.now)))) same
    (subst (λ (l : List ℕ). Reads F c.gather.new.out (column (ring_of F) c.args.t (c.args.m - c.args.t) (runs F c.rest.result.width l))) (part_rest F s.width c.args.runs.now) c.gather.ensures))
