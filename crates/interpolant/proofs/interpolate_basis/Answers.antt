use Rattle.interpolant.proofs.Bases.{of_ratios, of_basis}
use Rattle.interpolant.proofs.interpolate_basis.Goals as goal

pub returns : goal.returns
returns g c =
    let F = g.F.Field.numbers in
    let v =
    of_ratios F c.args.shape c.args.points.now c.args.h11.now c.args.h21.now c.ratios.new.ys c.ratios.new.zs
    c.interpolate_points.new.out c.ratios.ensures c.interpolate_points.ensures in
    record {
      solution = v;
      decodes = of_basis F c.args.shape c.args.points.now c.args.h11.now c.args.h21.now c.interpolate_points.new.out v;
    }
