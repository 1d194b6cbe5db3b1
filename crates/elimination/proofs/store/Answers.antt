use Rattle.elimination.proofs.Sweeps.{stored}
use Rattle.elimination.proofs.store.Goals as goal

pub returns : goal.returns
returns g c =
    stored g.F.Field.numbers c.args.rows.now c.args.pivot.now c.args.p c.requires.first c.requires.second c.requires.room c.put.ensures
