use Rattle.std.proofs.Common.{ap, ◌∙◌}
use Rattle.functionals.proofs.Tables.{entry_first, entry_left, entry_top, entry_rest}
use Rattle.functionals.proofs.entry.Goals as goal

pub returns-then-i-eq0 : goal.returns-then-i-eq0
returns-then-i-eq0 g c =
    entry_first g.F.Field.numbers c.args.alpha c.args.size c.requires.some c.args.table.now c.args.i c.requires.before c.if-i-eq0.true

pub returns-then-i-size-eq0 : goal.returns-then-i-size-eq0
returns-then-i-size-eq0 g c =
    entry_left g.F.Field.numbers c.args.alpha c.args.size c.requires.some c.args.table.now c.args.i c.requires.before c.if-i-eq0.false
    c.if-i-size-eq0.true

pub returns-then-i-size : goal.returns-then-i-size
returns-then-i-size g c =
    c.mul-scaled.ensures
    ∙ entry_top g.F.Field.numbers c.args.alpha c.args.size c.requires.some c.args.table.now c.args.i c.requires.before
    c.if-i-size-eq0.false c.if-i-size.true

pub returns-else-i-size : goal.returns-else-i-size
returns-else-i-size g c =
    let F = g.F.Field.numbers in
    c.add.ensures ∙ ap (F.add _) c.mul-scaled.ensures
    ∙ entry_rest F c.args.alpha c.args.size c.requires.some c.args.table.now c.args.i c.requires.before c.if-i-size-eq0.false
    c.if-i-size.false
