use Rattle.std.proofs.Common.{◌≡◌, ℕ, ◌+◌, ◌<◌, length, get_or, set, sym, subst, arith, get_or-set_same}
use Rattle.polynomials.specs.Series.{poly}
use Rattle.functionals.specs.Runs.{run}
use Rattle.elimination.specs.Rows.{Pivoted}
use Rattle.elimination.proofs.Steps.{pivoted_dead, pivoted_live}
use Rattle.elimination.proofs.Tableau.pivot_on.Goals as goal

pub returns-then-ranks-p-clause-pivoted : goal.returns-then-ranks-p-clause-pivoted
returns-then-ranks-p-clause-pivoted g c =
    let F = g.F.Field.numbers in
    let t = c.args.self.now in
    let p = c.args.p in
    let ranks = t.ranks.now in
    let e : length t.pivot.now ≡ length c.fetch.new.pivot = omega arith in
    subst (λ (n : ℕ). Pivoted F n c.args.bound c.args.alpha t.rows.now ranks t.values.now p c.store.new.rows (set ranks p (get_or ranks p 0 + 1)))
    (sym e)
    (pivoted_live F c.args.bound t.rows.now c.fetch.new.pivot t.values.now c.sweep.new.rows p c.requires.values c.sweep.ensures
    (subst (λ (n : ℕ). poly F c.fetch.new.pivot ≡ poly F (run n t.rows.now p)) e c.fetch.ensures.is)
    c.args.alpha ranks c.advance.new.row c.store.new.rows (omega arith) c.advance.ensures c.store.ensures)

pub returns-else-ranks-p-clause-pivoted : goal.returns-else-ranks-p-clause-pivoted
returns-else-ranks-p-clause-pivoted g c =
    let F = g.F.Field.numbers in
    let t = c.args.self.now in
    let p = c.args.p in
    let ranks = t.ranks.now in
    let e : length t.pivot.now ≡ length c.fetch.new.pivot = omega arith in
    let inside : p < length ranks = omega arith in
    subst (λ (n : ℕ). Pivoted F n c.args.bound c.args.alpha t.rows.now ranks t.values.now p c.sweep.new.rows (set ranks p (get_or ranks p 0 + 1)))
    (sym e)
    (pivoted_dead F c.args.bound t.rows.now c.fetch.new.pivot t.values.now c.sweep.new.rows p c.requires.values c.sweep.ensures
    (subst (λ (n : ℕ). poly F c.fetch.new.pivot ≡ poly F (run n t.rows.now p)) e c.fetch.ensures.is)
    c.args.alpha ranks (let u = get_or-set_same ranks p (get_or ranks p 0 + 1) 0 inside in omega arith))
