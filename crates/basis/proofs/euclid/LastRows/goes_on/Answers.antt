use Rattle.std.proofs.Common.{sym, refl}
use Rattle.stages.specs.Euclid.{Row, row}
use Rattle.basis.specs.Rows.{limit}
use Rattle.basis.proofs.Steps.{size_by, tested}
use Rattle.basis.proofs.euclid.LastRows.goes_on.Goals as goal

pub returns : goal.returns
returns g c =
    let F = g.F.Field.numbers in
    let t = c.args.self.now in
    let L : Row = row t.la.now t.lb.now in
    sym (tested (limit c.args.stop) L c.size.result c.size-2.result c.goes_on.result
    (size_by F L.a c.size.result c.requires.first c.size.ensures.is)
    (size_by F L.b c.size-2.result c.requires.second c.size-2.ensures.is)
    c.goes_on.ensures refl)
