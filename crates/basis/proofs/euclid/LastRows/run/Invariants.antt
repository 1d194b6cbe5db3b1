use Rattle.std.proofs.Common.{length}
use Rattle.stages.specs.Coefficients.{size}
use Rattle.stages.specs.Euclid.{row, two_rows, run}
use Rattle.basis.specs.Rows.{SameAreas, limit}
use Rattle.basis.proofs.Steps.{Ran}
use Rattle.basis.proofs.euclid.LastRows.run.Given as goal

abbrev pub invariant-loop-stop : goal.invariant-loop-stop
invariant-loop-stop g l =
    let F = g.F.Field.numbers in
    let t = l.initial.self in
    let u = l.self in
    record {
      areas : SameAreas t u;
      ran : Ran F (limit l.stop) (length t.la.now) (run F (limit l.stop) (length t.la.now) (two_rows (row t.pa.now t.pb.now) (row t.la.now t.lb.now)))
          (row u.pa.now u.pb.now) (row u.la.now u.lb.now);
    }

abbrev pub decreases-loop-stop : goal.decreases-loop-stop
decreases-loop-stop g l = size l.self.la.now
