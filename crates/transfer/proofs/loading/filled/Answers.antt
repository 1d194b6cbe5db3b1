use Rattle.std.proofs.Common.{Some, sym, ap, ◌∙◌, subst}
use Rattle.std.proofs.lemmas.Result.{err_from_is_err_and, IfOk-from_err}
use Rattle.codes.specs.Opening.{fault_of}
use Rattle.collections.specs.Book.{opening, Right}
use Rattle.collections.specs.Standing.{standing, said}
use Rattle.sheets.specs.Sheet.{given_in, shares_in}
use Rattle.sheets.specs.Reading.{meant}
use Rattle.transfer.specs.Loading.{enterings}
use Rattle.transfer.proofs.Acts.{opens_refused, opens_first}
use Rattle.transfer.proofs.loading.filled.Goals as goal

pub returns-in_err-open_by : goal.returns-in_err-open_by
returns-in_err-open_by g c =
    let q = g.F.Field.numbers.q in
    let s = meant c.args.sheet.now in
    let p = err_from_is_err_and c.from_residual-in_err-open_by.result c.from_residual-in_err-open_by.ensures.1 in
    let n = standing c.new-new.result.kept in
    let e = standing c.open_by.new.c.kept in
    let right = subst (λ r. Right q n (opening (given_in s)) (said r) e) c.in_err-open_by.was c.open_by.ensures.right in
    record {
      fault =
          ap fault_of p.1 ∙ ap Some p.2
          ∙ sym (opens_refused q (standing c.args.c.now.kept) n (given_in s) (enterings 0 (shares_in s)) c.in_err-open_by.field-0.0 e c.in_ok-still_blank.ensures c.new-new.ensures right);
      book = IfOk-from_err c.from_residual-in_err-open_by.result _ c.from_residual-in_err-open_by.ensures.0;
    }

pub returns-in_err-enter_all : goal.returns-in_err-enter_all
returns-in_err-enter_all g c =
    let q = g.F.Field.numbers.q in
    let s = meant c.args.sheet.now in
    let p = err_from_is_err_and c.from_residual-in_err-enter_all.result c.from_residual-in_err-enter_all.ensures.1 in
    let n = standing c.new-new.result.kept in
    let e = standing c.open_by.new.c.kept in
    let right = subst (λ r. Right q n (opening (given_in s)) (said r) e) c.in_ok-open_by.was c.open_by.ensures.right in
    let first = opens_first q (standing c.args.c.now.kept) n (given_in s) (enterings 0 (shares_in s)) e c.in_ok-still_blank.ensures c.new-new.ensures right in
    record {
      fault = ap fault_of p.1 ∙ ap Some p.2 ∙ c.in_err-enter_all.ensures.fault ∙ sym first.fault;
      book = IfOk-from_err c.from_residual-in_err-enter_all.result _ c.from_residual-in_err-enter_all.ensures.0;
    }

pub returns : goal.returns
returns g c =
    let q = g.F.Field.numbers.q in
    let s = meant c.args.sheet.now in
    let n = standing c.new-new.result.kept in
    let e = standing c.open_by.new.c.kept in
    let right = subst (λ r. Right q n (opening (given_in s)) (said r) e) c.in_ok-open_by.was c.open_by.ensures.right in
    let first = opens_first q (standing c.args.c.now.kept) n (given_in s) (enterings 0 (shares_in s)) e c.in_ok-still_blank.ensures c.new-new.ensures right in
    record {
      fault = c.in_ok-enter_all.ensures.fault ∙ sym first.fault;
      book = c.in_ok-enter_all.ensures.book ∙ sym first.book;
    }
