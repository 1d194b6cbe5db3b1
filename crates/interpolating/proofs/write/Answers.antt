use Rattle.std.proofs.Common.{◌≡◌, suc, ◌+◌, ◌-◌, ◌*◌, length, sym, subst, arith}
use Rattle.std.proofs.lemmas.List.{take_at}
use Rattle.std.proofs.lemmas.Slice.{drop-append-drop}
use Rattle.interpolant.specs.Problems.{basis_problem, Solution, Decodes}
use Rattle.interpolating.proofs.write.Goals as goal

pub returns : goal.returns
returns g c =
    let F = g.F.Field.numbers in
    let long : length c.interpolate_basis.new.out ≡ suc c.args.shape.degree * c.args.shape.bound = omega arith in
    let front = take_at c.interpolate_basis.new.out _ (suc c.args.shape.degree * c.args.shape.bound) long in
    record {
      solution =
          subst
          (Solution F (basis_problem F c.args.shape c.args.points.now c.args.h11.now c.args.h21.now) (length c.args.points.now) c.args.shape.multiplicity)
          (sym front) c.interpolate_basis.ensures.solution;
      decodes = subst (Decodes F c.args.shape c.args.points.now c.args.h11.now c.args.h21.now) (sym front) c.interpolate_basis.ensures.decodes;
      rest = drop-append-drop ((c.args.shape.degree + 1) * c.args.shape.bound - 0) c.args.out.now c.interpolate_basis.new.out _ (omega arith) (omega arith);
    }
