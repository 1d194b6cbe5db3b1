use Rattle.std.proofs.Common.{◌≡◌, ℕ, Ok, Result, ap, ◌∙◌, rules}
use Rattle.std.proofs.lemmas.Result.{err_from_is_err_and}
use Rattle.faults.specs.declared.SheetFault.{SheetFault}
use Rattle.sheets.specs.declared.FieldName.{FieldName}
use Rattle.sheets.specs.Named.{naming}
use Rattle.sheets.specs.Reading.{meant}
use Rattle.sheets.specs.Sheet.{Sheet}
use Rattle.console.specs.declared.Header.{Header}
use Rattle.console.specs.Headers.{header_by, header_of, header_in}
use Rattle.console.proofs.Overlong.{refused, accepted}
use Rattle.console.proofs.headers.read_header.Goals as goal
use Rattle.console.proofs.headers.read_header.Goals.{In_ok-sheet}

-- what the reader reads is the header
read : (c : In_ok-sheet) → header_of (meant c.in_ok-sheet.sheet) ≡ header_in c.args.bytes.now
read c =
    accepted c.args.bytes.now (meant c.in_ok-sheet.sheet) c.in_ok-sheet.ensures.fault c.in_ok-sheet.ensures.reads.sheet c.in_ok-sheet.ensures.reads.short

named : (s : Sheet) (field : FieldName) (n k : ℕ) → Ok field ≡ naming s.field → n ≡ s.count → k ≡ s.threshold
    → ◌≡◌ {A = Result Header SheetFault} (Ok (record { field = field; places = n; threshold = k })) (header_of s)
named s field n k h e f = rw (e, f) (ap (λ r. header_by r s) h)

pub returns : goal.returns
returns c =
    let s = meant c.in_ok-sheet.sheet in
    let threshold : c.from.result ≡ s.threshold = search rules in
    named s c.in_ok-field.field c.places.result c.from.result (c.in_ok-field.ensures ∙ ap naming c.field.ensures) c.places.ensures.is threshold
    ∙ read (goal.at.returns c).In_ok-sheet

pub returns-in_err-sheet : goal.returns-in_err-sheet
returns-in_err-sheet c =
    let p = err_from_is_err_and c.from_residual.result c.from_residual.ensures.1 in
    rw (p.1, p.2) (refused c.args.bytes.now _ c.in_err-sheet.ensures.fault)

pub returns-in_err-field : goal.returns-in_err-field
returns-in_err-field c =
    let s = meant c.in_ok-sheet.sheet in
    let p = err_from_is_err_and c.from_residual-in_err-field.result c.from_residual-in_err-field.ensures.1 in
    rw (p.1, p.2) (ap (λ r. header_by r s) (c.in_err-field.ensures ∙ ap naming c.field.ensures) ∙ read (goal.at.returns-in_err-field c).In_ok-sheet)
