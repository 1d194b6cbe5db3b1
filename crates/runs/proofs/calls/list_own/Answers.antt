use Rattle.std.proofs.Common.{length, arith, length-take}
use Rattle.std.proofs.lemmas.Result.{err_from_is_err_and}
use Rattle.collections.specs.Standing.{standing}
use Rattle.runs.proofs.Own.{own_listed, own_refused}
use Rattle.runs.proofs.calls.list_own.Goals as goal

pub returns-in_err-count : goal.returns-in_err-count
returns-in_err-count g c =
    let p = err_from_is_err_and c.from_residual.result c.from_residual.ensures.1 in
    rw (p.1, p.2)
    (own_refused g.F.Field.numbers (standing c.args.c.now.kept) c.args.records _ (length c.args.work.now) c.args.c.now.sound.1 (simp length-take (omega arith))
    c.in_err-count.field-0.0 c.in_err-count.ensures.fault)

pub returns : goal.returns
returns g c =
    own_listed g.F.Field.numbers (standing c.args.c.now.kept) c.args.records _ (length c.args.work.now) c.args.c.now.sound.1 (simp length-take (omega arith))
    c.in_ok-count.count _ c.list.new.out _ c.in_ok-count.ensures.fault c.in_ok-count.ensures.area
