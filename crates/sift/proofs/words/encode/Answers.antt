use Rattle.std.proofs.Common.{arith}
use Rattle.polynomials.proofs.Divides.{unset_all}
use Rattle.sift.proofs.Gathering.{writing_more}
use Rattle.sift.proofs.words.encode.Goals as goal

pub loop-j-init : goal.loop-j-init
loop-j-init g c =
    let F = g.F.Field.numbers in
    record {
      all = c.clear.ensures.below;
      ends = λ k u. unset_all F c.clear.new.a c.clear.ensures.below c.clear.ensures.is k;
      is = λ k u. absurd (omega arith);
    }

pub loop-j-preserved : goal.loop-j-preserved
loop-j-preserved g c =
    writing_more g.F.Field.numbers c.evaluate.result c.mul.result c.loop-j.invariant (omega arith) c.args.received.now.multipliers_below
    c.evaluate.ensures.below c.evaluate.ensures.is (cc)
