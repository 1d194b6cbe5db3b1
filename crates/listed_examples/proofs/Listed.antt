-- The listings of the worked shares, by trying every message.
use Rattle.std.proofs.Common.{refl, arith}
use Rattle.algebra.specs.Sums.{count}
use Rattle.codes.specs.Codewords.{value}
use Rattle.stages.specs.Coefficients.{size_to, less, sum, product, power}
use Rattle.fields.specs.Fields.{numbers7}
use Rattle.examples.specs.Messages.{before_each, messages, near}
use Rattle.examples.specs.Worked.{points, shares}
use Rattle.listed_examples.specs.Listed.{opened_with, ListedCases}
use Rattle.listed_examples.proofs.Tried.{tried}

pub listed_cases : ListedCases
unfolding count value size_to less sum product power before_each messages near
listed_cases =
    record {
      two_listed = tried numbers7 (opened_with 2 3 2 4) shares ((refl, tt), (tt, tt)) (omega arith);
      one_listed = tried numbers7 (opened_with 2 2 1 1) shares (tt, tt) (omega arith);
      constants =
          tried numbers7 (opened_with 1 5 5 6) points
          ((refl, (refl, (refl, (refl, (refl, tt))))), ((refl, (refl, (refl, (refl, tt)))), ((refl, (refl, (refl, tt))), ((refl, (refl, tt)), ((refl, tt), (tt, tt)))))) (omega arith);
    }
