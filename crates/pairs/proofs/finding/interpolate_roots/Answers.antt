use Rattle.std.proofs.Common.{◌≡◌, ◌+◌, ◌*◌, length, arith}
use Rattle.interpolant.specs.Problems.{basis_problem}
use Rattle.interpolant.proofs.Solves.{some_bound}
use Rattle.pairs.proofs.Rooms.{not_all_zero}
use Rattle.pairs.proofs.finding.interpolate_roots.Goals as goal

pub list_roots-requires : goal.list_roots-requires
list_roots-requires g c =
    let F = g.F.Field.numbers in
    let S = c.args.shape in
    let f = c.requires.fits in
    let r = f.roots in
    let long : length c.interpolate_basis.new.out ≡ (c.args.shape.degree + 1) * c.args.shape.bound = omega arith in
    record {
      degree = f.some;
      few = f.few;
      wide = some_bound S (length c.args.points.now) c.requires.enough;
      short = f.short;
      first = f.first;
      second = f.second;
      long = long;
      all = c.interpolate_basis.ensures.solution.below;
      some = not_all_zero F (basis_problem F S c.args.points.now c.args.h11.now c.args.h21.now) (length c.args.points.now) S.multiplicity
          c.interpolate_basis.new.out c.interpolate_basis.ensures.solution;
      enough = c.requires.records;
      work = omega arith;
    }
