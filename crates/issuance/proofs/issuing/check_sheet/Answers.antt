use Rattle.std.proofs.Common.{IfOk, ap, ◌∙◌, subst}
use Rattle.codes.specs.Opening.{Given, first_fault, Holds}
use Rattle.sheets.specs.Reading.{meant}
use Rattle.sheets.proofs.Told.{given_of}
use Rattle.issuance.proofs.issuing.check_sheet.Goals as goal

pub returns : goal.returns
returns c =
    let q = c.args.q in
    let same =
    given_of (meant c.args.sheet.now) c.places-n.result c.points-points.result c.multipliers-multipliers.result c.threshold.result c.setting.result
    c.places-n.ensures.is c.points-points.ensures.front c.multipliers-multipliers.ensures.front c.threshold.ensures c.setting.ensures in
    record {
      fault = c.check.ensures.fault ∙ ap (first_fault q) same;
      code = subst (λ (g : Given). IfOk c.check.result (Holds q g)) same c.check.ensures.code;
    }
