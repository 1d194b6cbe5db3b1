use Rattle.std.proofs.Common.{ℕ, Bool, rules, ◌∙◌, arith}
use Rattle.std.proofs.lemmas.Iterator.{YieldsList-from_range, YieldsList-from_map}
use Rattle.std.proofs.lemmas.Iterator.Search.{find_from_yields_List}
use borrow.Author.Tests.{tests}
use Rattle.codes.specs.declared.Setting.{Setting}
use Rattle.codes.specs.Settings.{least_limit, accepted_setting, accepts, setting}
use Rattle.codes.proofs.Firsts.{find_first, same_option}
use Rattle.codes.proofs.proposing.Wanted.least_limit.Goals as goal

pub returns : goal.returns
unfolding least_limit accepted_setting
returns c =
    let n = c.args.self.n in
    let k = c.args.self.k in
    let made : ℕ → Setting = setting c.args.self.radius c.args.multiplicity in
    let test : Setting → Bool = λ x. accepts n k x.radius x.multiplicity x.list_limit in
    same_option c.find.result
    ∙ find_from_yields_List test _ _ c.find.result c.find.ensures.ran
    (YieldsList-from_map _ made (YieldsList-from_range 1 9 8 c.map.ensures.source (omega arith)) c.map.ensures.closure (λ x r q k. search rules))
    (λ x b q k. search (rules, tests))
    ∙ find_first test made 1 8
