use Rattle.std.proofs.Common.{Some, sym, ap, ◌∙◌, arith}
use Rattle.std.proofs.lemmas.Result.{err_from_is_err_and, IfOk-from_err}
use Rattle.codes.specs.Opening.{fault_of}
use Rattle.gathering.proofs.Copies.{given_by, refused_by, copy_none, copy_more, copy_empty, copy_full, copy_all}
use Rattle.gathering.proofs.copy.Goals as goal

pub loop-place-init : goal.loop-place-init
loop-place-init g c = copy_none (g.S.Source.told c.args.source.now) c.args.out.now

pub loop-place-preserved : goal.loop-place-preserved
loop-place-preserved g c =
    copy_more (g.S.Source.told c.args.source.now) c.loop-place.place c.in_ok-number.field-0 c.loop-place.out (omega arith) (omega arith)
    (sym c.place.ensures ∙ given_by c.place.result _ _ (sym c.ok_or.ensures.value ∙ c.in_ok-number.was)) c.loop-place.invariant

pub returns-in_err-number : goal.returns-in_err-number
returns-in_err-number g c =
    let p = err_from_is_err_and c.from_residual.result c.from_residual.ensures.1 in
    let r = refused_by c.place.result _ _ (sym c.ok_or.ensures.value ∙ c.in_err-number.was) in
    record {
      fault =
          ap fault_of p.1 ∙ ap Some (p.2 ∙ r.1)
          ∙ copy_empty (g.S.Source.told c.args.source.now) c.loop-place.place c.loop-place.out (omega arith) (sym c.place.ensures ∙ r.0) c.loop-place.invariant;
      shares = IfOk-from_err c.from_residual.result _ c.from_residual.ensures.0;
    }

pub returns : goal.returns
returns g c =
    record {
      fault = copy_full (g.S.Source.told c.args.source.now) c.loop-place.place c.loop-place.out (omega arith) c.loop-place.invariant;
      shares = copy_all (g.S.Source.told c.args.source.now) c.loop-place.place c.loop-place.out (omega arith) (omega arith) c.loop-place.invariant;
    }
