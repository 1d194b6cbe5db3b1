use Rattle.std.proofs.Common.{◌-◌, length}
use Rattle.polynomials.specs.Series.{poly}
use Rattle.polynomials.proofs.Divides.{Dividing}
use Rattle.polynomials.proofs.divide.Given as goal

abbrev pub invariant-loop-k : goal.invariant-loop-k
invariant-loop-k g l =
    let F = g.F.Field.numbers in
    Dividing F (length l.g - 1) (poly F l.g) (length l.initial.p - (length l.g - 1)) (poly F l.initial.p) l.k l.p l.q
