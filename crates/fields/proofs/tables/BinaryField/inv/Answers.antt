use Rattle.std.proofs.Common.{◌∙◌}
use Rattle.fields.proofs.LookUps.{inverses}
use Rattle.fields.proofs.tables.BinaryField.inv.Goals as goal

pub returns : goal.returns
returns g c =
    let t = g.T.Tabled in
    c.inverse.ensures ∙ inverses t.highest t.polynomial t.primitive _ _ c.tables.ensures.powers c.tables.ensures.places c.args.a
