use Rattle.std.proofs.Common.{sym, subst}
use Rattle.functionals.specs.Tables.{WeightTable, point}
use Rattle.functionals.proofs.Tables.{finite_table}
use Rattle.functionals.proofs.weight_table.Goals as goal

pub returns-in-Finite : goal.returns-in-Finite
returns-in-Finite g c =
    let F = g.F.Field.numbers in
    subst (λ s. WeightTable F (point F s) c.args.size c.taylor_table.new.out) (sym c.in-Finite.is)
    (finite_table F c.in-Finite.beta c.args.size c.taylor_table.new.out c.taylor_table.ensures)
