use Rattle.std.proofs.Common.{ℕ, take, arith}
use Rattle.std.proofs.lemmas.List.{length-take-le}
use Rattle.basis.proofs.Laid.{five}
use Rattle.basis.proofs.Basis.write.Goals as goal

pub returns : goal.returns
returns c =
    let r = c.args.self.now in
    let d : ℕ = r.d in
    let w = r.width in
    five d (take d r.s) (take d r.h10) (take d r.h11) (take d r.h20) (take d r.h21) c.args.out.now
    (length-take-le d r.s (let e = r.s_length in omega arith)) (length-take-le d r.h10 (let e = r.h10_length in omega arith))
    (length-take-le d r.h11 (let e = r.h11_length in omega arith)) (length-take-le d r.h20 (let e = r.h20_length in omega arith))
    (length-take-le d r.h21 (let e = r.h21_length in omega arith))
    c.put.new.out c.put-2.new.out c.put-3.new.out c.put-4.new.out c.put-5.new.out
    c.put.ensures c.put-2.ensures c.put-3.ensures c.put-4.ensures c.put-5.ensures
