use Rattle.std.proofs.Common.{refl, take}
use Rattle.codes.specs.Opening.{given}
use Rattle.collections.specs.declared.Opened.{Opened}
use Rattle.collections.specs.Book.{opened, opening, done, Right}
use Rattle.collections.specs.Standing.{given_of, standing}
use Rattle.collections.proofs.Booked.{opens}
use Rattle.collections.proofs.Fairness.{fair_kept}
use Rattle.collections.proofs.Kept.open.Goals as goal

pub returns : goal.returns
returns c =
    let checked = c.in_ok-code.ensures in
    let o : Opened = record { code = c.in_ok-code.code; setting = c.args.o.setting } in
    let g = given c.args.o in
    let right : Right c.args.q (standing c.args.self.now) (opening g) done (opened (given_of o) (take o.code.count c.new.result.at)) =
    opens c.args.q (standing c.args.self.now) g o c.new.result.at c.in_ok-still_blank.ensures checked.fault checked.code refl c.new.ensures in
    record { judged = record { right = right; same = tt }; sound = λ h. ((checked.code.field, c.ranges.q.fits), fair_kept c.args.q _ (opening g) done _ right h.1) }
