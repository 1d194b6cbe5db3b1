use Rattle.std.proofs.Common.{◌≡◌, ◌+◌, ◌*◌, suc, length, drop}
use Rattle.elimination.specs.Tableaus.{Fits, SameAreas}
use Rattle.interpolant.proofs.Loops.{Row}
use Rattle.interpolant.proofs.meet_place.Given as goal

abbrev pub invariant-loop-b : goal.invariant-loop-b
invariant-loop-b g l =
    let F = g.F.Field.numbers in
    let b = length l.yielded in
    let count = suc l.shape.degree in
    record {
      fits : Fits F.q count l.shape.bound l.tableau;
      areas : SameAreas l.initial.tableau l.tableau;
      size : l.b-iterator.iter.iter.size ≡ count;
      rest : l.b-iterator.iter.iter.rest.now ≡ drop (b * count) l.tables.weights.now;
      left : l.b-iterator.iter.n + b ≡ l.shape.multiplicity;
      order : l.b-iterator.count ≡ b;
      met : Row F count l.shape.bound l.alpha l.shape.multiplicity b l.tables.weights.now l.initial.tableau.rows.now l.initial.tableau.ranks.now
          l.tableau.rows.now l.tableau.ranks.now;
    }
