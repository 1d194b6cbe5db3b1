use Rattle.std.proofs.Common.{◌≡◌, ◌+◌, ◌-◌, length, ◌∙◌, arith}
use Rattle.std.proofs.lemmas.List.{length-take-le}
use Rattle.digits.specs.Runs.{runs}
use Rattle.digits.proofs.Columns.{zeros, lent_length, lent_all, lent_decides}
use Rattle.digits.proofs.digit.next_digit.Goals as goal

pub returns : goal.returns
returns g c =
    let F = g.F.Field.numbers in
    let n = c.args.shape.degree + 1 - 0 in
    let out = c.digit_polynomial.new.out in
    let long : length out ≡ n = c.digit_polynomial.auto.out ∙ length-take-le n (zeros F 9) (omega arith) in
    record {
      long = lent_length F n 9 out long (omega arith);
      all = lent_all F n 9 out long c.digit_polynomial.ensures.all;
      decides = lent_decides F c.args.shape.degree c.args.t (runs F c.args.shape.width c.args.runs.now) n 9 out long (omega arith) (omega arith) c.digit_polynomial.ensures.decides;
    }
