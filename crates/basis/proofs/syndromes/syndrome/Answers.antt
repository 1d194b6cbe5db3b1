use Rattle.std.proofs.Common.{◌≡◌, ℕ, ◌-◌, ◌<◌, length, get_or, refl, ap, ◌∙◌, arith}
use Rattle.stages.specs.Syndrome.{syndrome}
use Rattle.basis.proofs.Powers.{sums_none, sums_more, sums_all}
use Rattle.basis.proofs.syndromes.syndrome.Goals as goal

pub loop-j-init : goal.loop-j-init
loop-j-init g c =
    let n : ℕ = length c.args.out.now in
    let long : length c.fill.new.self ≡ n = c.fill.ensures.len in
    let some : 0 < n = c.requires.some in
    sums_none g.F.Field.numbers c.args.points.now c.args.multipliers.now (length c.fill.new.self - 1) c.args.shares.now
    n c.fill.new.self (omega arith) (c.fill.ensures.after (λ y e. e))

pub loop-j-preserved : goal.loop-j-preserved
loop-j-preserved g c =
    let F = g.F.Field.numbers in
    sums_more F c.args.points.now c.args.multipliers.now (length c.fill.new.self - 1) c.args.shares.now
    c.loop-j.j c.mul-t.result (get_or c.args.points.now c.loop-j.j 0) (length c.fill.new.self - 1) c.loop-j.out c.add_powers.new.sums
    c.loop-j.invariant refl
    (c.mul-t.ensures ∙ ap (F.mul (get_or c.args.shares.now c.loop-j.j 0)) c.dual.ensures) refl c.add_powers.ensures

pub returns : goal.returns
returns g c =
    let F = g.F.Field.numbers in
    sums_all F c.args.points.now c.args.multipliers.now (length c.fill.new.self - 1) c.args.shares.now
    c.loop-j.j c.loop-j.out c.loop-j.invariant (omega arith)
    ∙ ap (λ (n : ℕ). syndrome F c.args.points.now c.args.multipliers.now (n - 1) c.args.shares.now) c.fill.ensures.len
