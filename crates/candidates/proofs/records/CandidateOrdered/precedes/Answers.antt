use Rattle.std.proofs.Common.{ap, ◌∙◌}
use Rattle.rolls.proofs.Orders.{goes_by}
use Rattle.candidates.specs.Orders.{candidates_compare}
use Rattle.candidates.specs.contracts.records.CandidateOrd.TheImpl.Laws.{matches_partial_cmp-law}
use Rattle.candidates.proofs.records.CandidateOrdered.precedes.Goals as goal

pub returns : goal.returns
returns c =
    c.lt.ensures ∙ ap (λ less. less c.args.self.now c.args.other.now) (goes_by candidates_compare matches_partial_cmp-law)
