use Rattle.std.proofs.Common.{◌≡◌, ℕ, sym, ap, ◌∙◌, arith}
use native.Mathlib.Decide.{dec_lt}
use Rattle.fields.specs.Numbers.{ring_of}
use Rattle.digits.specs.Runs.{runs}
use Rattle.digits.specs.Digits.{column}
use Rattle.digits.proofs.Columns.{found, nowhere, size_none}
use Rattle.digits.proofs.digit.digit_polynomial.Goals as goal

pub returns-then-size-gt0 : goal.returns-then-size-gt0
returns-then-size-gt0 g c =
    record {
      all = c.gather.ensures.below;
      decides = found g.F.Field.numbers c.args.shape c.args.runs.now c.gather.new.out c.args.t c.loop-m.m c.size.result (omega (arith, c.gather.auto.out, c.requires.long)) c.loop-m.invariant.1 c.gather.ensures c.size.ensures.is c.size.ensures.within c.if-size-gt0.true;
    }

pub loop-m-preserved : goal.loop-m-preserved
loop-m-preserved g c =
    let F = g.F.Field.numbers in
    let none : c.size.result ≡ 0 = omega arith in
    let zero = size_none F c.gather.new.out (sym c.size.ensures.is ∙ none) in (
      record { below = c.gather.ensures.below; is = zero },
      λ i h. elim (dec_lt i c.loop-m.m) [
        | yes l ↦ c.loop-m.invariant.1 i l
        | no l ↦ ap (λ (j : ℕ). column (ring_of F) c.args.t j (runs F c.args.shape.width c.args.runs.now)) (let z : i ≡ c.loop-m.m = omega arith in z) ∙ sym c.gather.ensures.is ∙ zero
      ],
    )

pub returns : goal.returns
returns g c =
    record {
      all = c.loop-m.invariant.0.below;
      decides = nowhere g.F.Field.numbers c.args.shape c.args.runs.now c.loop-m.out c.args.t c.loop-m.m c.requires.held c.requires.place (omega arith) c.loop-m.invariant.1 c.loop-m.invariant.0;
    }
