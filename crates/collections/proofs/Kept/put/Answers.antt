use Rattle.std.proofs.Common.{Option, sym, ap, ◌∙◌}
use Rattle.collections.specs.declared.Page.{Page}
use Rattle.collections.specs.Book.{putting}
use Rattle.collections.specs.Standing.{page}
use Rattle.collections.proofs.Booked.{page_put}
use Rattle.collections.proofs.Kept.put.Goals as goal

pub returns-in-Some-clause-book : goal.returns-in-Some-clause-book
returns-in-Some-clause-book c =
    page_put c.in-Some.page.opened c.in-Some.page.places.at c.put.new.self.at c.args.place c.args.x c.put.ensures
    ∙ sym (ap (λ (p : Option Page). putting (page p) c.args.place c.args.x) c.in-Some.is)
