use Rattle.std.proofs.Common.{length, sym}
use Rattle.roots.specs.Asked.{asked}
use Rattle.roots.proofs.Accepted.{sized, answerable}
use Rattle.roots.proofs.listing.roots.Goals as goal

pub list_roots-requires : goal.list_roots-requires
list_roots-requires g c =
    answerable g.F.Field.numbers.q (asked c.args.question) (length c.args.out.now) (length c.args.work.now)
    (sized g.F.Field.numbers.q (asked c.args.question) (length c.args.out.now) (length c.args.work.now) (sym c.in_ok-check.ensures))
