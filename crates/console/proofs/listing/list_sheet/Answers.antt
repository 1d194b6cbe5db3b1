use Rattle.std.proofs.Common.{◌≡◌, ℕ, min, length, Result, ap, ◌∙◌, subst}
use Rattle.faults.specs.declared.SheetFault.{SheetFault}
use Rattle.console.specs.declared.Header.{Header}
use Rattle.console.specs.Lines.{report_text}
use Rattle.console.specs.Output.{PrintsHeaded, PrintsBy}
use Rattle.console.proofs.listing.list_sheet.Goals as goal

pub returns-in_ok-work-in-Ok-clause-prints : goal.returns-in_ok-work-in-Ok-clause-prints
returns-in_ok-work-in-Ok-clause-prints c =
    let text = report_text c.list_headed.result in
    let room : length c.deref_mut.result.now ≡ 32000 = c.deref_mut.ensures.len ∙ c.in_ok-work-in-Ok.ensures.len in
    subst (λ (h : Result Header SheetFault). PrintsBy h c.args.bytes.now text) c.in-Ok.ensures
    (subst (λ (w : ℕ). PrintsHeaded c.in-Ok.header w c.args.bytes.now text) (ap (min 32000) room) c.list_headed.ensures.prints)
