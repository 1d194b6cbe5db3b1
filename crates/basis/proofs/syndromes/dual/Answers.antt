use Rattle.std.proofs.Common.{◌∙◌, arith}
use Rattle.basis.proofs.Powers.{product_none, product_other, product_same, dual_by}
use Rattle.basis.proofs.syndromes.dual.Goals as goal
use Rattle.basis.proofs.syndromes.dual.Goals.{then-h-j, else-h-j}

pub loop-h-init : goal.loop-h-init
loop-h-init g c = product_none g.F.Field.numbers _

pub loop-h-preserved : goal.loop-h-preserved
loop-h-preserved g c =
    let F = g.F.Field.numbers in
    elim c.if-h-j.branch [
      | then-h-j w ↦
          w.product-is ∙ product_other F c.args.points.now c.args.j c.loop-h.h c.loop-h.product w.mul-product.result w.add.result w.neg.result
          c.loop-h.invariant w.if-h-j.true w.neg.ensures w.add.ensures w.mul-product.ensures
      | else-h-j w ↦
          w.product-is ∙ product_same F c.args.points.now c.args.j c.loop-h.h c.loop-h.product c.loop-h.invariant w.if-h-j.false
    ]

pub returns : goal.returns
returns g c =
    dual_by g.F.Field.numbers c.args.points.now c.args.multipliers.now c.args.j c.loop-h.product c.loop-h.h c.mul.result c.inv.result c.inv-2.result
    c.loop-h.invariant (omega arith) c.inv.ensures c.inv-2.ensures c.mul.ensures
