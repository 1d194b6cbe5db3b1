use Rattle.std.proofs.Common.{min, length}
use Rattle.collections.specs.Standing.{standing}
use Rattle.runs.proofs.Recovered.{blank_law, same_kinds, same_rest}
use Rattle.runs.proofs.calls.run_blank.Goals as goal

pub returns : goal.returns
returns g c =
    let F = g.F.Field.numbers in
    let lent = length c.args.work.now in
    let n = min (length c.args.calls.now) (length c.args.answers.now) in
    let e = c.run.ensures in
    record {
      law =
          blank_law F g.F.Field.SHEET_NUMBER lent c.run.result n (standing c.new-c.result.kept) (standing c.run.new.c.kept) c.args.calls.now
          c.run.new.answers c.new-c.ensures e.count e.runs;
      kinds = same_kinds c.args.calls.now c.run.new.answers c.run.result n e.count e.kinds;
      rest = same_rest c.run.new.answers c.args.answers.now c.run.result n e.count e.rest;
      wiped = e.wiped;
    }
