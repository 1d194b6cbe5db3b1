use Rattle.std.proofs.Common.{sym, subst}
use Rattle.collections.specs.Book.{entering, done, Right}
use Rattle.collections.specs.Standing.{standing, Over}
use Rattle.collections.proofs.Booked.{enters_equal, enters_empty}
use Rattle.collections.proofs.Fairness.{fair_kept}
use Rattle.collections.proofs.Kept.enter.Goals as goal

pub returns-else-held-value : goal.returns-else-held-value
returns-else-held-value c = record {
  judged =
      record {
        right = enters_equal c.args.q _ c.args.place c.args.value c.in_ok-found.found c.in-Filled.held c.in_ok-found.ensures c.in-Filled.is c.if-value-q.false c.if-held-value.false;
        same = tt;
      };
  sound = λ h. h;
}

pub returns-in-Empty : goal.returns-in-Empty
returns-in-Empty c =
    let act = entering c.args.place c.args.value in
    let right : Right c.args.q (standing c.args.self.now) act done (standing c.put.new.self) =
    enters_empty c.args.q _ _ c.args.place c.args.value c.in_ok-found.found c.in_ok-found.ensures c.in-Empty.is c.if-value-q.false c.put.ensures.book in
    record {
      judged = record { right = right; same = tt };
      sound = λ h. (subst (Over c.args.q) (sym c.put.ensures.opened) h.0, fair_kept c.args.q _ act done _ right h.1);
    }
