use Rattle.std.proofs.Common.{sym, ◌∙◌, arith}
use Rattle.digits.proofs.Spans.{span_none, span_one}
use Rattle.digits.proofs.digit.root_range.Goals as goal

pub returns-then-n-eq1 : goal.returns-then-n-eq1
returns-then-n-eq1 g c = span_none g.F.Field.numbers c.args.p.now c.requires (sym c.if-n-eq1.true ∙ c.size-n.ensures.is) (omega (arith, c.if-n-eq1.true, c.size-n.ensures.within))

pub returns-then-n-eq2 : goal.returns-then-n-eq2
returns-then-n-eq2 g c =
    span_one g.F.Field.numbers c.args.p.now c.requires c.inv.result c.mul.result c.neg-root.result c.inv.ensures c.mul.ensures c.neg-root.ensures (sym c.if-n-eq2.true ∙ c.size-n.ensures.is)
    (omega (arith, c.if-n-eq2.true, c.size-n.ensures.within))
