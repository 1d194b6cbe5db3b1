use Rattle.std.proofs.Common.{get_or}
use Rattle.polynomials.proofs.Writes.{Written}
use Rattle.polynomials.proofs.scale.Given as goal

abbrev pub invariant-loop-x : goal.invariant-loop-x
invariant-loop-x g l =
    let F = g.F.Field.numbers in
    Written 0 l.x-index (λ k. F.mul l.c (get_or l.initial.a k 0)) l.initial.a l.a
