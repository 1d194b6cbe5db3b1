use Rattle.std.proofs.Common.{◌<◌, length, take, refl, ◌∙◌, arith, length-take}
use Rattle.std.proofs.lemmas.List.{drop-set-lt}
use Rattle.collections.specs.Standing.{standing}
use Rattle.runs.specs.Law.{stop}
use Rattle.runs.proofs.Running.{again, none_befit, one_more_befits}
use Rattle.runs.proofs.calls.run.Goals as goal

pub loop-i-init : goal.loop-i-init
loop-i-init g c = record { runs = stop; kinds = none_befit; rest = refl; area = refl }

pub loop-i-preserved : goal.loop-i-preserved
loop-i-preserved g c =
    let F = g.F.Field.numbers in
    let i = c.loop-i.i in
    let calls = take c.min-made.result c.args.calls.now in
    let answers = c.loop-i.answers in
    let room : i < length answers = omega (arith, length-take c.min-made.result c.args.calls.now) in
    record {
      runs =
          again F.q F g.F.Field.SHEET_NUMBER (length c.args.work.now) (length c.loop-i.guard.area.now) (standing c.args.c.now.kept) (standing c.loop-i.c.kept)
          (standing c.perform.new.c.kept) calls answers i c.perform.result _ c.loop-i.invariant.area c.loop-i-test.true room c.loop-i.invariant.runs c.perform.ensures.law;
      kinds = one_more_befits calls answers i c.perform.result _ c.loop-i-test.true room c.loop-i.invariant.kinds c.perform.ensures.kind;
      rest = drop-set-lt c.min-made.result answers i c.perform.result (omega (arith, length-take c.min-made.result c.args.calls.now)) ∙ c.loop-i.invariant.rest;
      area = omega arith;
    }
