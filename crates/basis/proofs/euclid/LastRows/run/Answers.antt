use Rattle.std.proofs.Common.{◌-◌, ◌<◌, length, sym, refl, ◌∙◌, subst}
use Rattle.stages.specs.Coefficients.{size}
use Rattle.stages.specs.Euclid.{Row, row}
use Rattle.basis.specs.Rows.{limit}
use Rattle.basis.proofs.Steps.{on_some, ran_none, ran_more, ran_all, same_areas}
use Rattle.basis.proofs.Falls.{next_falls}
use Rattle.basis.proofs.euclid.LastRows.run.Goals as goal

pub loop-stop-init : goal.loop-stop-init
loop-stop-init g c =
    let t = c.args.self.now in
    record {
      areas = record { pa = refl; pb = refl; la = refl; lb = refl };
      ran = ran_none g.F.Field.numbers (limit c.args.stop) (length t.la.now) (row t.pa.now t.pb.now) (row t.la.now t.lb.now) c.requires.first c.requires.second;
    }

pub loop-stop-smaller : goal.loop-stop-smaller
loop-stop-smaller g c =
    let F = g.F.Field.numbers in
    let u = c.loop-stop.self in
    let L : Row = row u.la.now u.lb.now in
    let P : Row = row u.pa.now u.pb.now in
    let r = c.loop-stop.invariant.ran in
    subst (λ (N : Row). size N.a < size u.la.now) (sym c.step.ensures.last)
    (next_falls F P L r.before_fits r.last_fits
    (on_some (size L.a) (limit c.args.stop (size L.b - 1)) (sym c.goes_on.ensures ∙ c.loop-stop-test.true)))

pub loop-stop-preserved : goal.loop-stop-preserved
loop-stop-preserved g c =
    let F = g.F.Field.numbers in
    let u = c.loop-stop.self in
    let L : Row = row u.la.now u.lb.now in
    let P : Row = row u.pa.now u.pb.now in
    let r = c.loop-stop.invariant.ran in
    let on = sym c.goes_on.ensures ∙ c.loop-stop-test.true in
    record {
      areas = same_areas c.loop-stop.invariant.areas c.step.ensures.areas;
      ran = ran_more F (limit c.args.stop) r on c.step.ensures.before c.step.ensures.last
          (next_falls F P L r.before_fits r.last_fits (on_some (size L.a) (limit c.args.stop (size L.b - 1)) on));
    }

pub returns-clause-run : goal.returns-clause-run
returns-clause-run g c = ran_all g.F.Field.numbers (limit c.args.stop) c.loop-stop.invariant.ran (sym c.goes_on.ensures ∙ c.loop-stop-test.false)
