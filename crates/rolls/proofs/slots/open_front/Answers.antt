use Rattle.rolls.proofs.Placing.{opened}
use Rattle.rolls.proofs.slots.open_front.Goals as goal

pub returns : goal.returns
returns g c = opened (λ _ _. mathlib.Core.Bool.true) c.args.x c.args.row.now c.rotate_right.new.self c.rotate_right.ensures.after c.requires
