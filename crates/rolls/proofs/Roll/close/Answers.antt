use Rattle.std.proofs.Common.{ap, ◌∙◌, arith, rules}
use Rattle.rolls.specs.Insertion.{cleared}
use Rattle.rolls.proofs.Clearing.{all_blank, closes, cleared_least}
use Rattle.rolls.proofs.Roll.close.Goals as goal

pub returns-clause-holds : goal.returns-clause-holds
returns-clause-holds g c =
    let slots = c.args.self.slots.now in
    closes c.args.blank c.min-from.result slots c.fill_with.new.self (omega arith)
    (all_blank _ _ _ c.fill_with.new.self _ c.fill_with.ensures.ran.1 (λ x q h. search rules))
    (search rules)
    ∙ ap (λ n. cleared c.args.blank n slots) c.min-from.ensures
    ∙ cleared_least c.args.blank c.args.self.len slots
