use Rattle.std.proofs.Common.{drop}
use Rattle.collections.specs.Standing.{standing}
use Rattle.transfer.specs.Loading.{enterings}
use Rattle.transfer.proofs.Acts.{Done}
use Rattle.transfer.proofs.loading.enter_all.Given as goal

abbrev pub invariant-loop-i : goal.invariant-loop-i
invariant-loop-i g l =
    let q = g.F.Field.numbers.q in
    let xs = g.S.Source.told l.source in
    Done q (standing l.initial.c.kept) (enterings 0 xs) (standing l.c.kept) (enterings l.i (drop l.i xs))
