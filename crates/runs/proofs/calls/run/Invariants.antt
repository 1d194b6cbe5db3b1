use Rattle.std.proofs.Common.{◌≡◌, map, length, take, drop}
use Rattle.collections.specs.Standing.{standing}
use Rattle.runs.specs.Law.{Runs, reply}
use Rattle.runs.specs.Kinds.{EachBefits}
use Rattle.runs.proofs.calls.run.Given as goal

abbrev pub invariant-loop-i : goal.invariant-loop-i
invariant-loop-i g l =
    record {
      runs : Runs g.F.Field.numbers.q g.F.Field.numbers g.F.Field.SHEET_NUMBER (length l.initial.guard.area.now) (standing l.initial.c.kept) (take l.i l.call-items) (map reply (take l.i l.answers)) (standing l.c.kept);
      kinds : EachBefits (take l.i l.call-items) (take l.i l.answers);
      rest : drop l.made l.answers ≡ drop l.made l.initial.answers;
      area : length l.guard.area.now ≡ length l.initial.guard.area.now;
    }
