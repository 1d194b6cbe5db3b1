use Rattle.std.proofs.Common.{◌≡◌, ◌≤◌, ◌*◌, suc, length, drop}
use Rattle.elimination.specs.Tableaus.{Fits, SameAreas}
use Rattle.interpolant.proofs.Loops.{Through}
use Rattle.interpolant.proofs.meet_places.Given as goal

abbrev pub invariant-loop-alpha : goal.invariant-loop-alpha
invariant-loop-alpha g l =
    let F = g.F.Field.numbers in
    let i = length l.yielded in
    record {
      fits : Fits F.q (suc l.shape.degree) l.shape.bound l.tableau;
      areas : SameAreas l.initial.tableau l.tableau;
      tall : l.shape.multiplicity * l.shape.bound ≤ length l.tables.taylor.now;
      wide : l.shape.multiplicity * suc l.shape.degree ≤ length l.tables.weights.now;
      inside : i ≤ length l.places.points.now;
      points : l.alpha-iterator.a.rest.now ≡ drop i l.places.points.now;
      ys : l.alpha-iterator.b.a.rest.now ≡ drop i l.places.ys.now;
      zs : l.alpha-iterator.b.b.rest.now ≡ drop i l.places.zs.now;
      met : Through F (suc l.shape.degree) l.shape.bound l.shape.multiplicity i l.places.points.now l.places.ys.now l.places.zs.now l.initial.tableau.rows.now
          l.initial.tableau.ranks.now l.tableau.rows.now l.tableau.ranks.now;
    }
