use Rattle.std.proofs.Common.{◌+◌, length, get_or, sym, ap, ◌∙◌, subst}
use Rattle.elimination.proofs.Sweeps.{Sweeping, sweep_pass, sweep_still, sweep_turn}
use Rattle.elimination.proofs.sweep.Goals.{then-j-p+then-value-ne0, else-j-p, else-j-p-via-then-j-p+else-value-ne0, else-j-p-via-else-j-p}
use Rattle.elimination.proofs.sweep.Goals as goal

pub loop-j-preserved : goal.loop-j-preserved
loop-j-preserved g c =
    let F = g.F.Field.numbers in
    let rows = c.args.rows.now in
    let pivot = c.args.pivot.now in
    let values = c.args.values.now in
    let p = c.args.p in
    let j = c.loop-j.j in
    elim c.if-j-p.branch [
      | then-j-p+then-value-ne0 w ↦
          subst (Sweeping F (length pivot) rows pivot values p (j + 1)) (sym w.rows-is)
          (sweep_turn F rows pivot values p j w.neg.result c.loop-j.rows w.add_shifted_multiple.new.a w.if-j-p.true
          (w.neg.ensures ∙ ap F.neg (w.mul-ratio.ensures ∙ ap (F.mul (get_or values j 0)) c.inv-inverse.ensures))
          w.add_shifted_multiple.ensures
          c.loop-j.invariant)
      | else-j-p w ↦
          subst (Sweeping F (length pivot) rows pivot values p (j + 1)) (sym w.rows-is)
          (elim w.else-j-p.branch [
            | else-j-p-via-then-j-p+else-value-ne0 w' ↦ sweep_still F rows pivot values p j c.loop-j.rows w'.if-value-ne0.false c.loop-j.invariant
            | else-j-p-via-else-j-p w' ↦ sweep_pass F rows pivot values p j c.loop-j.rows w'.if-j-p.false c.loop-j.invariant
          ])
    ]
