use Rattle.std.proofs.Common.{◌-◌, length, arith}
use Rattle.basis.proofs.Steps.{take_below, taken}
use Rattle.basis.proofs.euclid.take_multiple.Goals as goal

pub returns : goal.returns
returns g c =
    let F = g.F.Field.numbers in
    let p = c.args.p.now in
    let d = c.args.g.now in
    taken F c.args.c c.args.k c.neg.result d p c.add_shifted_multiple.new.a c.requires.second c.requires.first
    (take_below F (length p - c.args.k) d c.requires.second) c.requires.room (omega arith) c.neg.ensures c.add_shifted_multiple.ensures
