use Rattle.std.proofs.Common.{ℕ, rules, ◌∙◌}
use Rattle.std.proofs.lemmas.Iterator.Adapters.{YieldsList-from_rev_slice}
use Rattle.std.proofs.lemmas.Iterator.Consumers.{fold_from_yields_List}
use borrow.Author.Tests.{tests}
use Rattle.codes.proofs.Issued.{value_fold}
use Rattle.codes.proofs.issuing.value.Goals as goal

pub returns : goal.returns
returns g c =
    let F = g.F.Field.numbers in
    fold_from_yields_List _ (λ (sum y : ℕ). F.add y (F.mul c.args.x sum)) 0 c.fold.result c.fold.ensures.ran
    (YieldsList-from_rev_slice c.args.message.now cc) (λ a y b q k. search (rules, tests))
    ∙ value_fold F c.args.x c.args.message.now
