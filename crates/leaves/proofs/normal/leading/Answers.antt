use Rattle.std.proofs.Common.{◌≡◌, sym, ◌∙◌, arith}
use Rattle.leaves.proofs.Scaling.{constant_there, leads_second, leads_first}
use Rattle.leaves.proofs.normal.leading.Goals as goal

pub bounds-f1-0 : goal.bounds-f1-0
bounds-f1-0 g c =
    let F = g.F.Field.numbers in
    let e : c.size-n.result ≡ 0 = omega arith in
    constant_there F c.args.f1.now c.args.f2.now c.requires.proper (sym c.size-n.ensures.is ∙ e)

pub returns-then-n-gt0 : goal.returns-then-n-gt0
returns-then-n-gt0 g c =
    leads_second g.F.Field.numbers c.args.f1.now c.args.f2.now c.size-n.result c.requires.second c.size-n.ensures.is (omega arith)

pub returns-else-n-gt0 : goal.returns-else-n-gt0
returns-else-n-gt0 g c =
    let e : c.size-n.result ≡ 0 = omega arith in
    leads_first g.F.Field.numbers c.args.f1.now c.args.f2.now c.requires.first c.requires.proper (sym c.size-n.ensures.is ∙ e)
