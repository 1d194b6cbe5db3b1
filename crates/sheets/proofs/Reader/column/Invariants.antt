use Rattle.std.proofs.Common.{◌≡◌, take}
use Rattle.sheets.specs.Sheet.{column}
use Rattle.sheets.proofs.Reader.column.Given as goal

abbrev pub invariant-loop-p : goal.invariant-loop-p
invariant-loop-p l = take l.p l.number-items ≡ column l.self.entries.now l.part l.p
