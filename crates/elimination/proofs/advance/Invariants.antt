use Rattle.std.proofs.Common.{◌≡◌, ◌∷◌, get_or}
use Rattle.polynomials.proofs.Writes.{Written}
use Rattle.elimination.proofs.Advances.{moved}
use Rattle.elimination.proofs.advance.Given as goal

abbrev pub invariant-loop-i : goal.invariant-loop-i
invariant-loop-i g l =
    (l.last ≡ get_or (0 ∷ l.initial.row) l.i 0)
    × Written 0 l.i (moved g.F.Field.numbers l.bound l.alpha l.initial.row) l.initial.row l.row
