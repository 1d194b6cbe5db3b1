use Rattle.std.proofs.Common.{ap, ◌∙◌}
use Rattle.algebra.specs.Poly.{padd}
use Rattle.fields.specs.Numbers.{ring_of}
use Rattle.polynomials.specs.Series.{poly}
use Rattle.polynomials.proofs.Readings.{become}
use Rattle.leaves.proofs.Horner.{plus_once}
use Rattle.leaves.proofs.forms.add_product.Goals as goal

pub returns : goal.returns
returns g c =
    let F = g.F.Field.numbers in
    let p = c.args.p.now in
    become c.add_multiple.ensures (plus_once F (poly F p) (poly F c.multiply_into.new.out) ∙ ap (padd (ring_of F) (poly F p)) c.multiply_into.ensures.is)
