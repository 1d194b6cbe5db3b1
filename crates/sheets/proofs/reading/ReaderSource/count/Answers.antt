use Rattle.std.proofs.Common.{sym, ◌∙◌}
use Rattle.sheets.specs.Reading.{meant}
use Rattle.sheets.proofs.Told.{told_count}
use Rattle.sheets.proofs.reading.ReaderSource.count.Goals as goal

pub returns : goal.returns
returns c = c.places.ensures.is ∙ sym (told_count (meant c.args.self.now))
