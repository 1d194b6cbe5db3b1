use Rattle.std.proofs.Common.{◌≡◌, length}
use Rattle.stages.specs.Euclid.{row, divide}
use Rattle.basis.specs.Rows.{Fits}
use Rattle.basis.proofs.euclid.divide_row.Given as goal

abbrev pub invariant-loop-k : goal.invariant-loop-k
invariant-loop-k g l =
    let F = g.F.Field.numbers in
    Fits F.q (length l.initial.a) (row l.a l.b)
    × (divide F l.m (row l.la l.lb) l.k (row l.a l.b) ≡ divide F l.m (row l.la l.lb) l.turns (row l.initial.a l.initial.b))
