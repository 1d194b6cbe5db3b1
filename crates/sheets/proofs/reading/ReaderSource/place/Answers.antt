use Rattle.std.proofs.Common.{ap, ◌∙◌, arith}
use Rattle.sheets.specs.Sheet.{share_in}
use Rattle.sheets.specs.Reading.{meant}
use Rattle.sheets.proofs.Told.{told_at, told_past}
use Rattle.sheets.proofs.reading.ReaderSource.place.Goals as goal

pub returns-then-i-places : goal.returns-then-i-places
returns-then-i-places c = told_past (meant c.args.self.now) c.args.i (omega arith)

pub returns : goal.returns
returns c = c.share.ensures ∙ ap share_in c.number.ensures ∙ told_at (meant c.args.self.now) c.args.i (omega arith)
