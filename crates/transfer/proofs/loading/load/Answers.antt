use Rattle.std.proofs.Common.{arith, rules}
use Rattle.collections.specs.Standing.{standing}
use Rattle.transfer.specs.Loading.{Loads, done}
use Rattle.transfer.proofs.Back.{loads_back}
use Rattle.transfer.proofs.loading.load.Goals as goal

pub returns : goal.returns
returns g c =
    let q = g.F.Field.numbers.q in
    let tag = g.F.Field.SHEET_NUMBER in
    let b = standing c.args.c.now.kept in
    let bs = c.args.bytes.now in
    let e = standing c.in_ok-loaded.loaded.kept in
    let right : Loads q tag b bs done e = search rules in
    record {
      right = right;
      same = tt;
      back = loads_back q tag b bs e (λ i. let h = c.type_inv.bytes i in omega arith) right;
    }
