use Rattle.std.proofs.Common.{◌≡◌, ℕ, take, None, sym, ap, ◌∙◌, subst}
use Rattle.std.proofs.lemmas.List.FromFn.{length-map-range_with_len}
use Rattle.codes.specs.Opening.{first_fault, Holds}
use Rattle.codes.specs.Codewords.{message_fault}
use Rattle.sheets.specs.Sheet.{given_in}
use Rattle.sheets.specs.Reading.{meant}
use Rattle.issuance.proofs.Sheets.{roomy, fronted, over_none}
use Rattle.issuance.proofs.issuing.issue_over.Goals as goal

pub returns : goal.returns
returns g c =
    let F = g.F.Field.numbers in
    let s = meant c.args.sheet.now in
    let message = c.args.message.now in
    let code = c.in_ok-code.code in
    let holds : Holds F.q (given_in s) code = subst (λ (q : ℕ). Holds q (given_in s) code) (c.Q.ensures ∙ g.met.F.Field.counts) c.in_ok-code.ensures.code in
    let opened : None ≡ first_fault F.q (given_in s) = c.in_ok-code.ensures.fault ∙ ap (λ (q : ℕ). first_fault q (given_in s)) (c.Q.ensures ∙ g.met.F.Field.counts) in
    let told : None ≡ message_fault F.q s.threshold message =
    c.in_ok-issue.ensures.fault ∙ roomy F.q code.count code.threshold message code.places.1
    ∙ ap (λ (k : ℕ). message_fault F.q k message) holds.threshold in
    record {
      fault = over_none F s message opened told;
      issues =
          record {
            field = c.field.ensures;
            code = holds;
            word =
                ap (λ (n : ℕ). take n c.issue.new.out) (sym (length-map-range_with_len _ 0 s.count))
                ∙ fronted F F.q (given_in s) code message _ c.issue.new.out holds c.in_ok-issue.ensures.area;
          };
    }
