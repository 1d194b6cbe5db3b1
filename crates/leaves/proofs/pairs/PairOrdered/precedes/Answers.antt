use Rattle.std.proofs.Common.{ap, ◌∙◌}
use Rattle.rolls.proofs.Orders.{goes_by}
use Rattle.leaves.specs.Ordering.{pairs_compare}
use Rattle.leaves.specs.contracts.pairs.PairOrd.TheImpl.Laws.{matches_partial_cmp-law}
use Rattle.leaves.proofs.pairs.PairOrdered.precedes.Goals as goal

pub returns : goal.returns
returns c =
    c.lt.ensures ∙ ap (λ less. less c.args.self.now c.args.other.now) (goes_by pairs_compare matches_partial_cmp-law)
