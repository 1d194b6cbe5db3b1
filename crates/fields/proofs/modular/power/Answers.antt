use mathlib.Core.Path.{◌∙◌}
use Prim.Native.Nat.{◌<◌}
use native.Mathlib.Omega.{arith}
use Rattle.fields.proofs.Squaring.{Kept, even_turn, odd_turn}
use Rattle.fields.proofs.modular.power.Goals as goal
use Rattle.fields.proofs.modular.power.Goals.{then-rest-eq1, else-rest-eq1}

pub loop-rest-preserved : goal.loop-rest-preserved
loop-rest-preserved c =
    let q = c.args.q in
    let r = c.loop-rest.result in
    let x = c.loop-rest.factor in
    let n = c.loop-rest.rest in
    let e = c.product-factor.ensures in
    let pos : 0 < q = omega arith in
    let kept : Kept q r x n c.if-rest-eq1.result c.product-factor.result =
    elim c.if-rest-eq1.branch [
      | then-rest-eq1 w ↦ odd_turn q r x n _ _ w.if-rest-eq1.true pos (w.result-is ∙ w.product-result.ensures) e
      | else-rest-eq1 w ↦ even_turn q r x n _ _ (omega arith) c.loop-rest.invariant.0 w.result-is e
    ] in
    (kept.0, kept.1 ∙ c.loop-rest.invariant.1)
