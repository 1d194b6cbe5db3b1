use Rattle.std.proofs.Common.{◌≡◌, ℕ, suc, ◌-◌, ◌<◌, List, length, take, drop, sym, refl, ap, subst, arith}
use Rattle.algebra.specs.PolyRing.{Poly}
use Rattle.algebra.specs.Taylor.{taylor}
use Rattle.fields.specs.Numbers.{elem, ring_of}
use Rattle.digits.specs.declared.Shape.{Shape}
use Rattle.digits.specs.Runs.{runs, term, Held}
use Rattle.digits.proofs.Arrays.{deep_one, held_rest, part_rest}
use Rattle.digits.proofs.Passes.{shift_one, shifted_is, shifted_held}
use Rattle.digits.proofs.shifting.+shift.Goals as goal

pub returns-then-shape-eq0 : goal.returns-then-shape-eq0
returns-then-shape-eq0 g t c =
    record {
      held = c.requires.held;
      is = shift_one g.F.Field.numbers c.args.shape c.args.e c.args.t c.args.runs.now c.requires.held c.if-shape-eq0.true;
    }

pub rest-requires : goal.rest-requires
rest-requires g t c =
    let some : 0 < c.args.shape.degree = omega arith in
    record { some = some; deep = deep_one g.F.Field.numbers c.args.shape c.args.runs.now c.requires.held some }

pub shift-requires : goal.shift-requires
shift-requires g t c κs within =
    let F = g.F.Field.numbers in
    let s = c.args.shape in
    let some : 0 < s.degree = omega arith in
    let e = c.rest.ensures in
    let held : Held F c.rest.result (take (length c.sweep.new.runs - s.width) (drop s.width c.sweep.new.runs)) =
    subst (Held F c.rest.result) (sym (part_rest F s.width c.sweep.new.runs)) (held_rest F s c.rest.result c.sweep.new.runs e c.sweep.ensures.held some) in
    let less : c.rest.result.degree ≡ s.degree - 1 = ap (λ (z : Shape). z.degree) e in
    let same : c.rest.result.depth ≡ s.depth = ap (λ (z : Shape). z.depth) e in
    (omega (arith, less, c.decreases), (within, (c.requires.digit, (omega (arith, same, c.requires.place), held))))

pub returns : goal.returns
returns g t c =
    let F = g.F.Field.numbers in
    let s = c.args.shape in
    let some : 0 < s.degree = omega arith in
    let is = shifted_is F s c.rest.result c.args.e c.args.t c.args.runs.now c.sweep.new.runs c.shift.new.runs _ c.rest.ensures some c.requires.place c.requires.held c.sweep.ensures.held c.shift.ensures.held c.sweep.ensures.is (subst (λ (l : List ℕ). runs F c.rest.result.width c.shift.new.runs ≡ taylor (Poly (ring_of F)) (suc c.rest.result.degree) (term (ring_of F) (elem F c.args.e) c.args.t) (runs F c.rest.result.width l)) (part_rest F s.width c.sweep.new.runs) c.shift.ensures.is) refl in
    record {
      held = shifted_held F s c.rest.result c.args.e c.args.t c.args.runs.now c.sweep.new.runs c.shift.new.runs _ c.rest.ensures some c.requires.place c.requires.held c.sweep.ensures.held c.shift.ensures.held refl is;
      is = is;
    }
