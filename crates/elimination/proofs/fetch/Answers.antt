use Rattle.std.proofs.Common.{◌≡◌, ℕ, ◌+◌, ◌-◌, ◌*◌, List, length, take, drop, sym, refl, ap, ◌∙◌, subst, arith}
use Rattle.polynomials.specs.Series.{poly, Reads}
use Rattle.functionals.specs.Runs.{run}
use Rattle.functionals.proofs.Runs.{run_below}
use Rattle.elimination.proofs.fetch.Goals as goal

pub returns : goal.returns
unfolding run
returns g c =
    let F = g.F.Field.numbers in
    let rows = c.args.rows.now in
    let n : ℕ = length c.args.pivot.now in
    let at : ℕ = c.args.p * n in
    let e : c.copy_from_slice.new.self ≡ run n rows c.args.p =
    c.copy_from_slice.ensures.after ∙ ap (λ (k : ℕ). take k (drop at rows)) (let z : at + n - at ≡ n = omega arith in z) in
    subst (λ (l : List ℕ). Reads F l (poly F (run n rows c.args.p))) (sym e)
    (record { below = run_below F n rows c.args.p c.requires.all; is = refl })
