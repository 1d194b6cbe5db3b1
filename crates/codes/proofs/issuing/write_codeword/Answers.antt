use Rattle.std.proofs.Common.{◌≡◌, length, take, arith}
use Rattle.codes.proofs.Issued.{at_place, written_more}
use Rattle.codes.proofs.issuing.write_codeword.Goals as goal

pub loop-i-preserved : goal.loop-i-preserved
loop-i-preserved g c =
    let f = at_place g.F.Field.numbers c.args.points.now c.args.multipliers.now c.args.message.now in
    let before = take (length c.args.points.now) c.args.out.now in
    let e : c.mul.result ≡ f c.loop-i.i = cc in
    written_more f c.loop-i.i c.mul.result before c.loop-i.place-items (omega arith) e c.loop-i.invariant
