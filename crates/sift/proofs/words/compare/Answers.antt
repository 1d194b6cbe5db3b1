use Rattle.std.proofs.Common.{ℕ, ◌+◌, true, false, sym, ap, ◌∙◌, add-zero, arith, below_more}
use Rattle.sift.specs.Reading.{differs}
use Rattle.sift.proofs.Counts.{count_none, count_more}
use Rattle.sift.proofs.Gathering.{differs_yes, differs_no}
use Rattle.sift.proofs.words.compare.Goals as goal
use Rattle.sift.proofs.words.compare.Goals.{then-word-j+else-values-j-ne0, else-word-j}

pub loop-j-init : goal.loop-j-init
loop-j-init c = (sym (count_none _), omega arith, λ k h. absurd (omega arith))

pub loop-j-preserved : goal.loop-j-preserved
loop-j-preserved c =
    let word = c.args.word.now in
    let rs = c.args.shares.now in
    let j = c.loop-j.j in
    elim c.if-word-j.branch [
      | then-word-j+else-values-j-ne0 w ↦ (
        w.distance-is ∙ ap (λ (n : ℕ). n + 1) c.loop-j.invariant.0 ∙ sym (count_more (differs word rs) j true (differs_yes word rs j (λ e. grind (arith, e)))),
        omega (arith, w.distance-is),
        below_more _ _ c.loop-j.invariant.2 (λ h. absurd (h w.if-values-j-ne0.false)),
      )
      | else-word-j w ↦ (
        w.distance-is ∙ c.loop-j.invariant.0 ∙ sym (count_more (differs word rs) j false (differs_no word rs j (grind arith)) ∙ add-zero _),
        omega (arith, w.distance-is),
        below_more _ _ c.loop-j.invariant.2 (λ h. grind arith),
      )
    ]
