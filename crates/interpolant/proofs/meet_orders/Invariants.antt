use Rattle.std.proofs.Common.{◌≡◌, ◌+◌, ◌*◌, length, drop}
use Rattle.elimination.specs.Tableaus.{Fits, SameAreas}
use Rattle.interpolant.specs.States.{Orders}
use Rattle.interpolant.proofs.meet_orders.Given as goal

abbrev pub invariant-loop-xs : goal.invariant-loop-xs
invariant-loop-xs g l =
    let F = g.F.Field.numbers in
    let a = length l.yielded in
    record {
      fits : Fits F.q (length l.cs) l.bound l.tableau;
      areas : SameAreas l.initial.tableau l.tableau;
      size : l.xs-iterator.iter.size ≡ l.bound;
      rest : l.xs-iterator.iter.rest.now ≡ drop (a * l.bound) l.taylor;
      left : l.xs-iterator.n + a ≡ l.count;
      met : Orders F l.bound l.alpha l.cs a l.initial.tableau.rows.now l.initial.tableau.ranks.now l.tableau.rows.now l.tableau.ranks.now;
    }
