use Rattle.polynomials.proofs.Readings.{padded_reads}
use Rattle.polynomials.proofs.pad.Goals as goal

pub returns : goal.returns
returns g c =
    padded_reads g.F.Field.numbers c.args.p.now _ c.requires.all c.copy_from_slice.ensures.after (c.fill.ensures.after (λ y e. e))
