use Rattle.std.proofs.Common.{◌++◌, length, take, codes, decimal}
use Rattle.std.specs.Fmt.{HasWritten, IsPlainFormatter}
use Rattle.console.specs.Lines.{ended, candidate_lines}
use Rattle.console.proofs.lines.ListedDisplay.fmt.Given as goal

abbrev pub invariant-loop-candidate : goal.invariant-loop-candidate
invariant-loop-candidate g l =
    IsPlainFormatter l.fn.f
    → HasWritten g.W.Write.write_str_gives l.fn.f
    (ended (codes "candidates " ++ decimal (length l.candidates)) ++ candidate_lines l.self.threshold l.self.places (take l.candidate-index l.candidates)) l.f
