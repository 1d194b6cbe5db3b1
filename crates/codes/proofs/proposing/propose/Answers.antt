use Rattle.std.proofs.Common.{Result, sym, ◌∙◌, subst, arith}
use Rattle.faults.specs.declared.CodeFault.{CodeFault}
use Rattle.codes.specs.declared.Setting.{Setting}
use Rattle.codes.specs.Settings.{Proposed}
use Rattle.codes.proofs.Proposals.{proposed, meaning}
use Rattle.codes.proofs.proposing.propose.Goals as goal

pub returns : goal.returns
returns c =
    let n = c.args.n in
    let k = c.args.k in
    let τ = c.args.radius in
    let found = c.least_setting.result in
    record {
      is = c.ok_or.ensures.value ∙ proposed n k τ found (omega arith) (omega arith) (omega arith) (omega arith) c.least_setting.ensures;
      means =
          subst (λ (r : Result Setting CodeFault). Proposed n k τ r) (sym c.ok_or.ensures.value) (meaning n k τ found c.least_setting.ensures);
    }
