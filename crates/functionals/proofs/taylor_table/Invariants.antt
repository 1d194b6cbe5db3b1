use Rattle.polynomials.proofs.Writes.{Written}
use Rattle.functionals.specs.Tables.{coefficient}
use Rattle.functionals.proofs.Tables.{cell}
use Rattle.functionals.proofs.taylor_table.Given as goal

abbrev pub invariant-loop-i : goal.invariant-loop-i
invariant-loop-i g l = Written 0 l.i (cell l.size (coefficient g.F.Field.numbers l.alpha)) l.initial.out l.out
