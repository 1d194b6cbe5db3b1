use Rattle.std.proofs.Common.{◌≡◌, ℕ, Bor, List, ◌+◌, ◌<◌, length, get_or, sym, ap, ◌∙◌, subst, arith}
use Rattle.algebra.specs.Sums.{sum}
use Rattle.polynomials.proofs.Readings.{poly_at}
use Rattle.fields.specs.Numbers.{elem, pos, times, ring_of}
use Rattle.functionals.proofs.Runs.{rest_none, rest_more, rest_run, run_sum, term, term_is, sum_none, sum_more, sum_pass, left_zero, functional_is}
use Rattle.functionals.proofs.discrepancy.Goals.{then-weight-ne0, else-weight-ne0}
use Rattle.functionals.proofs.discrepancy.Goals as goal

pub loop-weight-init : goal.loop-weight-init
loop-weight-init g c =
    let F = g.F.Field.numbers in
    (rest_none (length c.args.xs.now) c.args.row.now, pos F, sum_none F (term F c.args.row.now c.args.xs.now c.args.cs.now))

pub loop-weight-preserved : goal.loop-weight-preserved
loop-weight-preserved g c =
    let F = g.F.Field.numbers in
    let row = c.args.row.now in
    let xs = c.args.xs.now in
    let cs = c.args.cs.now in
    let t = c.loop-weight.weight-index in
    let front = c.split_at.result.0.now in
    let e = rest_run (length xs) t row c.loop-weight.rest.now front c.loop-weight.invariant.0 c.split_at.ensures.front in
    let back = rest_more (length xs) t row c.loop-weight.rest.now c.split_at.result.1.now c.loop-weight.invariant.0 c.split_at.ensures.back in
    elim c.if-weight-ne0.branch [
      | then-weight-ne0 w ↦
          let m =
          sum_more F (term F row xs cs) t c.loop-weight.sum (get_or cs t 0) w.dot.result w.add-sum.result c.loop-weight.invariant.1
          (c.requires.third t (omega arith)) w.dot.ensures.below c.loop-weight.invariant.2
          (term_is F row xs cs front t w.dot.result e c.split_at.ensures.front_len w.dot.ensures.is)
          (w.add-sum.ensures ∙ ap (F.add c.loop-weight.sum) w.product.ensures) in
          let n = subst (λ (r : ℕ). (r < F.q) × (elem F r ≡ sum (ring_of F) (t + 1) (term F row xs cs))) (sym w.sum-is) m in
          (ap (λ (r : Bor (List ℕ)). r.now) w.rest-is ∙ back, n.0, n.1)
      | else-weight-ne0 w ↦
          let m =
          sum_pass F (term F row xs cs) t c.loop-weight.sum c.loop-weight.invariant.2
          (ap (λ z. times F z (run_sum F row xs t)) (poly_at F cs t) ∙ left_zero F (get_or cs t 0) (run_sum F row xs t) w.if-weight-ne0.false) in
          let n = subst (λ (r : ℕ). (r < F.q) × (elem F r ≡ sum (ring_of F) (t + 1) (term F row xs cs))) (sym w.sum-is) (c.loop-weight.invariant.1, m) in
          (ap (λ (r : Bor (List ℕ)). r.now) w.rest-is ∙ back, n.0, n.1)
    ]

pub returns-clause-is : goal.returns-clause-is
returns-clause-is g c =
    let F = g.F.Field.numbers in
    let row = c.args.row.now in
    let xs = c.args.xs.now in
    let cs = c.args.cs.now in
    functional_is F row xs cs c.loop-weight.sum
    (c.loop-weight.invariant.2 ∙ ap (λ (n : ℕ). sum (ring_of F) n (term F row xs cs)) (let e : c.loop-weight.weight-index ≡ length cs = omega arith in e))
