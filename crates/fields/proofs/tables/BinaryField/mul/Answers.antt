use Rattle.std.proofs.Common.{◌∙◌}
use Rattle.fields.proofs.LookUps.{products}
use Rattle.fields.proofs.tables.BinaryField.mul.Goals as goal

pub returns : goal.returns
returns g c =
    let t = g.T.Tabled in
    c.product.ensures ∙ products t.highest t.polynomial t.primitive _ _ c.tables.ensures.powers c.tables.ensures.places c.args.a c.args.b
