use Rattle.std.proofs.Common.{ℕ, Bool, eqb, get_or, length, take, rules, refl, ◌∙◌, arith}
use Rattle.std.specs.List.{list_any}
use Rattle.std.proofs.lemmas.Iterator.{YieldsList-from_range}
use Rattle.std.proofs.lemmas.Iterator.Search.{find_from_yields_List}
use borrow.Author.Tests.{tests}
use Rattle.codes.specs.Opening.{repeats}
use Rattle.codes.proofs.Firsts.{any_first, find_number, below_same, same_option}
use Rattle.codes.proofs.checking.first_repeat.Goals as goal

pub returns : goal.returns
returns c =
    let xs = c.args.xs.now in
    let test : ℕ → Bool = λ i. list_any (λ y. eqb y (get_or xs i 0)) (take i xs) in
    same_option c.find.result
    ∙ find_from_yields_List test _ _ c.find.result c.find.ensures.ran (YieldsList-from_range 0 (length xs) (length xs) refl (omega arith)) (λ x b q k. search (rules, tests))
    ∙ find_number test 0 (length xs)
    ∙ below_same (length xs) test (repeats xs) (λ i h. any_first (λ y. eqb y (get_or xs i 0)) i xs (omega arith))
