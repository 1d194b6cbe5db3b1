use Rattle.leaves.proofs.Horner.{one_is, copied, itself}
use Rattle.leaves.proofs.forms.begin.Goals as goal

pub returns : goal.returns
returns g c =
    let F = g.F.Field.numbers in
    record {
      sum = copied F c.copy_from_slice.ensures.after (itself F c.args.run.now c.requires.all);
      power = one_is F c.args.power.now c.requires.power_long;
    }
