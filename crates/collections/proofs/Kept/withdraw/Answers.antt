use Rattle.std.proofs.Common.{ℕ, sym, subst}
use Rattle.collections.specs.Book.{withdrawing, done, Right}
use Rattle.collections.specs.Standing.{standing, Over}
use Rattle.collections.proofs.Booked.{withdraws}
use Rattle.collections.proofs.Fairness.{fair_kept}
use Rattle.collections.proofs.Kept.withdraw.Goals as goal

pub returns-in-Filled : goal.returns-in-Filled
returns-in-Filled c =
    let act = withdrawing c.args.place in
    let right : (q : ℕ) → Right q (standing c.args.self.now) act done (standing c.put.new.self) =
    λ q. withdraws q _ _ c.args.place c.in_ok-read.field-0 c.in-Filled.field-0 c.in_ok-read.ensures c.in-Filled.is c.put.ensures.book in
    record {
      judged = λ q. record { right = right q; same = tt };
      sound = λ q h. (subst (Over q) (sym c.put.ensures.opened) h.0, fair_kept q _ act done _ (right q) h.1);
    }
