use Rattle.std.proofs.Common.{◌≡◌, ℕ, suc, ◌+◌, ◌-◌, ◌*◌, ◌^◌, ◌<◌, length, sym, ap, ◌∙◌, subst, arith, rules}
use Rattle.polynomials.specs.Series.{poly, Reads}
use Rattle.functionals.specs.Runs.{run}
use Rattle.interpolant.specs.Problems.{FirstRows}
use Rattle.interpolant.proofs.Solves.{weights_small, solved}
use Rattle.interpolant.proofs.interpolate_points.Goals as goal

pub start_ranks-requires : goal.start_ranks-requires
start_ranks-requires g c =
    let u = weights_small c.args.shape (length c.args.places.points.now) c.requires.enough in
    let v = c.requires.space in
    let e : length c.args.ranks.now - 1 ≡ c.args.shape.degree = omega arith in
    let fits : length c.args.work.now < 2 ^ 64 = search rules in
    subst (λ (n : ℕ). n * (c.args.shape.w1 + c.args.shape.w2) < 2 ^ 64) (sym e) (omega arith)

pub returns : goal.returns
returns g c =
    let F = g.F.Field.numbers in
    let S = c.args.shape in
    let places = c.args.places in
    let after = c.meet_places.new.tableau in
    let long : length c.start_rows.new.rows ≡ suc S.degree * length c.args.out.now =
    let e = c.split_at_mut-rows.ensures.front_len in omega arith in
    solved F S places.points.now places.ys.now places.zs.now c.start_rows.new.rows c.start_ranks.new.ranks
    after.rows.now after.ranks.now c.fetch.new.pivot c.least-best.result
    (long ∙ ap (λ (z : ℕ). suc S.degree * z) c.requires.size) (omega arith) c.meet_places.ensures.fits.ranked c.requires.enough
    (subst (λ (z : ℕ). FirstRows F z S.bound c.start_rows.new.rows) c.requires.size c.start_rows.ensures)
    c.start_ranks.ensures c.meet_places.ensures.met
    c.least-best.ensures.inside c.least-best.ensures.least
    (subst (λ (z : ℕ). Reads F c.fetch.new.pivot (poly F (run z after.rows.now c.least-best.result))) c.requires.size c.fetch.ensures)
