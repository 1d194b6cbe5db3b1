use Rattle.std.proofs.Common.{ℕ, List, ap, ◌∙◌}
use Rattle.gathering.specs.Shares.{empty_fault, element_fault, numbers}
use Rattle.gathering.proofs.Copies.{below_if_ok, on_ok, pass_first}
use Rattle.gathering.proofs.fill.Goals as goal

pub returns : goal.returns
returns g c =
    let told = g.S.Source.told c.args.source.now in
    let a = c.in_ok-copy.ensures in
    let b = c.check_elements.ensures in
    record {
      fault =
          b ∙ ap (λ (xs : List ℕ). element_fault c.args.q xs) a.shares
          ∙ pass_first (empty_fault told) (element_fault c.args.q (numbers told)) a.fault;
      shares = on_ok c.check_elements.result a.shares;
      below = below_if_ok c.args.q c.copy.new.out c.check_elements.result b;
    }
