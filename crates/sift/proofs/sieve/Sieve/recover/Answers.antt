use Rattle.std.proofs.Common.{arith}
use Rattle.sift.proofs.Recovery.{gathered_points, gathered_quotients, gathered_distinct, recovered}
use Rattle.sift.proofs.Sieves.{placed}
use Rattle.sift.proofs.sieve.Sieve.recover.Goals as goal

pub returns : goal.returns
returns g c =
    recovered g.F.Field.numbers (placed c.args.self.now) c.gather.ensures (omega arith) (omega arith)
    c.interpolate.new.out c.encode.new.word (omega arith) c.interpolate.ensures c.encode.ensures
