use Rattle.std.proofs.Common.{◌||◌, eqb, leb, rules, ◌∙◌}
use Rattle.std.proofs.lemmas.Iterator.{YieldsList-from_slice}
use Rattle.std.proofs.lemmas.Iterator.Search.{position_from_yields_List}
use borrow.Author.Tests.{tests}
use Rattle.codes.proofs.Firsts.{position_first}
use Rattle.codes.proofs.checking.first_unfit.Goals as goal

pub returns : goal.returns
returns c =
    position_from_yields_List (λ x. eqb x 0 || leb c.args.q x) _ _ c.position.result c.position.ensures.ran (YieldsList-from_slice c.args.xs.now cc)
    (λ x b q k. search (rules, tests))
    ∙ position_first (λ x. eqb x 0 || leb c.args.q x) c.args.xs.now
