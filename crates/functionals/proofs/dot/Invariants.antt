use Rattle.std.proofs.Common.{◌≡◌, ◌<◌, ◌≤◌, length, drop}
use Rattle.algebra.specs.Sums.{sum}
use Rattle.fields.specs.Numbers.{elem, times, ring_of}
use Rattle.polynomials.specs.Series.{poly}
use Rattle.functionals.proofs.dot.Given as goal

abbrev pub invariant-loop-coefficient : goal.invariant-loop-coefficient
invariant-loop-coefficient g l =
    let F = g.F.Field.numbers in
    let n = length l.yielded in
    record {
      inside : n ≤ length l.p;
      left : l.coefficient-iterator.a.rest.now ≡ drop n l.p;
      right : l.coefficient-iterator.b.rest.now ≡ drop n l.x;
      below : l.sum < F.q;
      is : elem F l.sum ≡ sum (ring_of F) n (λ m. times F (poly F l.x m) (poly F l.p m));
    }
