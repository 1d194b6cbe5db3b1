use Rattle.std.proofs.Common.{length}
use Rattle.collections.specs.Standing.{standing}
use Rattle.console.specs.Lines.{report_text}
use Rattle.console.proofs.Told.{told, printed, two_befit, of_either}
use Rattle.console.proofs.listing.list_over.Goals as goal

pub listed-requires : goal.listed-requires
listed-requires g c =
    (told g.F.Field.numbers g.F.Field.SHEET_NUMBER (length c.args.work.now) c.args.header.threshold c.args.header.places c.args.bytes
    (standing c.run_blank.result.kept) c.run_blank.new.answers _ c.run_blank.auto.answers c.run_blank.ensures.law.runs).listed

pub returns : goal.returns
returns g c =
    let both = two_befit c.args.bytes c.run_blank.new.answers _ c.run_blank.auto.answers c.run_blank.ensures.kinds in
    record {
      prints =
          printed (report_text c.listed.result) c.listed.ensures.text
          (told g.F.Field.numbers g.F.Field.SHEET_NUMBER (length c.args.work.now) c.args.header.threshold c.args.header.places c.args.bytes
          (standing c.run_blank.result.kept) c.run_blank.new.answers _ c.run_blank.auto.answers c.run_blank.ensures.law.runs);
      kind = of_either c.listed.result c.args.bytes _ _ c.listed.ensures.fault both.0 both.1;
    }
