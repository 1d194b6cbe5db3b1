use Rattle.polynomials.proofs.Writes.{Written}
use Rattle.functionals.proofs.Tables.{cell, unit}
use Rattle.functionals.proofs.unit_table.Given as goal

abbrev pub invariant-loop-i : goal.invariant-loop-i
invariant-loop-i g l = Written 0 l.i (cell l.size (unit g.F.Field.numbers l.size)) l.initial.out l.out
