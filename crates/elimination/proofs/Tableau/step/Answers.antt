use Rattle.std.proofs.Common.{ℕ, length, subst, arith}
use Rattle.elimination.specs.Rows.{Measured, Pivoted}
use Rattle.elimination.proofs.Steps.{stepped_none, stepped_some}
use Rattle.elimination.proofs.Tableau.step.Goals as goal

pub returns-in-Some-clause-stepped : goal.returns-in-Some-clause-stepped
returns-in-Some-clause-stepped g c =
    let F = g.F.Field.numbers in
    let t = c.args.self.now in
    let rows = t.rows.now in
    let ranks = t.ranks.now in
    let xs = c.args.xs.now in
    let cs = c.args.cs.now in
    let after = c.pivot_on.new.self in
    stepped_some F c.args.alpha xs cs rows ranks c.measure.new.values c.requires.fits.ranked (omega arith)
    (subst (λ (n : ℕ). Measured F n rows ranks xs cs c.measure.new.values) c.requires.fits.size c.measure.ensures) c.in-Some.p
    after.rows.now after.ranks.now c.in-Some.ensures
    (subst (λ (n : ℕ). Pivoted F n (length xs) c.args.alpha rows ranks c.measure.new.values c.in-Some.p after.rows.now after.ranks.now)
    c.requires.fits.size c.pivot_on.ensures.pivoted)

pub returns-in_default-clause-stepped : goal.returns-in_default-clause-stepped
returns-in_default-clause-stepped g c =
    let F = g.F.Field.numbers in
    let rows = c.args.self.now.rows.now in
    let ranks = c.args.self.now.ranks.now in
    let xs = c.args.xs.now in
    let cs = c.args.cs.now in
    stepped_none F c.args.alpha xs cs rows ranks c.measure.new.values c.requires.fits.ranked (omega arith)
    (subst (λ (n : ℕ). Measured F n rows ranks xs cs c.measure.new.values) c.requires.fits.size c.measure.ensures) c.in_default.ensures
