use Rattle.std.proofs.Common.{◌≡◌, ℕ, suc, ◌-◌, length, ap, ◌∙◌, ap₂, arith}
use Rattle.stages.specs.Coefficients.{power}
use Rattle.polynomials.proofs.Writes.{written_none, written_down}
use Rattle.basis.proofs.Powers.{powers_none, powers_more, powers_written}
use Rattle.basis.proofs.syndromes.add_powers.Goals as goal

pub loop-i-init : goal.loop-i-init
loop-i-init g c =
    let F = g.F.Field.numbers in
    let n : ℕ = length c.args.sums.now in (
      powers_none F c.args.t c.args.alpha c.requires.factor ∙ ap (λ (e : ℕ). F.mul c.args.t (power F c.args.alpha e)) (let z : 0 ≡ n - n = omega arith in z),
      written_none n _ c.args.sums.now,
    )

pub loop-i-preserved : goal.loop-i-preserved
loop-i-preserved g c =
    let F = g.F.Field.numbers in
    let xs = c.args.sums.now in
    let n : ℕ = length xs in
    let i : ℕ = c.loop-i.i in
    let w = c.loop-i.invariant.1 in (
      powers_more F c.args.t c.args.alpha (n - i) c.loop-i.power c.mul-power.result c.requires.factor c.requires.point c.loop-i.invariant.0 c.mul-power.ensures
          ∙ ap (λ (e : ℕ). F.mul c.args.t (power F c.args.alpha e)) (let z : suc (n - i) ≡ n - (i - 1) = omega arith in z),
      written_down c.add.result w (omega arith) (omega arith) (omega arith)
          (c.add.ensures ∙ ap₂ F.add (w.under (i - 1) (omega arith))
          (c.loop-i.invariant.0 ∙ ap (λ (e : ℕ). F.mul c.args.t (power F c.args.alpha e)) (let z : n - i ≡ n - 1 - (i - 1) = omega arith in z))),
    )

pub returns : goal.returns
returns g c =
    powers_written g.F.Field.numbers c.args.t c.args.alpha c.loop-i.i c.args.sums.now c.loop-i.sums (omega arith) c.loop-i.invariant.1
