use Rattle.std.proofs.Common.{ℕ, ◌<◌, length, get_or, sym, subst, arith}
use Rattle.fields.specs.Numbers.{pos}
use Rattle.functionals.specs.Runs.{run}
use Rattle.functionals.specs.Tables.{Discrepancy}
use Rattle.functionals.proofs.Runs.{rest_more, rest_run, each_more}
use Rattle.elimination.proofs.measure.Goals.{then-ranks-j, else-ranks-j}
use Rattle.elimination.proofs.measure.Goals as goal

pub loop-j-preserved : goal.loop-j-preserved
loop-j-preserved g c =
    let F = g.F.Field.numbers in
    let rows = c.args.rows.now in
    let xs = c.args.xs.now in
    let cs = c.args.cs.now in
    let size = c.args.size in
    let j = c.loop-j.j in
    let e = rest_run size j rows c.loop-j.rest.now c.split_at.result.0.now c.loop-j.invariant.0 c.split_at.ensures.front in
    let P : ℕ → ℕ → Type 0 = λ i v. (v < F.q) × (get_or c.args.ranks.now i 0 < length xs → Discrepancy F (run size rows i) xs cs v) in (
      rest_more size j rows c.loop-j.rest.now c.split_at.result.1.now c.loop-j.invariant.0 c.split_at.ensures.back,
      each_more P c.loop-j.values j c.if-ranks-j.value (omega arith) c.loop-j.invariant.1
          (elim c.if-ranks-j.branch [
            | then-ranks-j w ↦
                subst (P j) (sym w.value-is)
                (w.discrepancy.ensures.below, λ _. subst (λ l. Discrepancy F l xs cs w.discrepancy.result) e w.discrepancy.ensures.is)
            | else-ranks-j w ↦ subst (P j) (sym w.value-is) (pos F, λ h. absurd (let u = w.if-ranks-j.false in omega arith))
          ]),
    )
