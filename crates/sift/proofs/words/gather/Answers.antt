use Rattle.std.proofs.Common.{length, get_or, refl, arith}
use Rattle.sift.proofs.Gathering.{gathering_none, gathering_take, gathering_pass, gathering_done}
use Rattle.sift.proofs.words.gather.Goals as goal
use Rattle.sift.proofs.words.gather.Goals.{then-i-xs+then-value-ne0, else-i-xs, else-i-xs-via-then-i-xs+else-value-ne0, else-i-xs-via-else-i-xs}

pub loop-j-init : goal.loop-j-init
loop-j-init g c =
    gathering_none g.F.Field.numbers c.args.received.now.points.now c.args.received.now.multipliers.now c.args.received.now.shares.now c.args.values.now
    (length c.args.xs.now) c.args.xs.now c.args.ys.now

pub loop-j-preserved : goal.loop-j-preserved
loop-j-preserved g c =
    let F = g.F.Field.numbers in
    let αs = c.args.received.now.points.now in
    let vs = c.args.received.now.multipliers.now in
    let rs = c.args.received.now.shares.now in
    let values = c.args.values.now in
    elim c.if-i-xs.branch [
      | then-i-xs+then-value-ne0 w ↦
          gathering_take F αs vs rs values c.if-i-xs.i (get_or αs c.loop-j.j 0) w.mul.result c.if-i-xs.xs c.if-i-xs.ys c.loop-j.invariant
          (omega (arith, w.if-i-xs.true)) (omega arith) (omega arith) w.if-value-ne0.true refl (let a = w.mul.ensures in let b = w.inv.ensures in cc)
          w.i-is w.xs-is w.ys-is
      | else-i-xs w ↦
          gathering_pass F αs vs rs values c.if-i-xs.i c.if-i-xs.xs c.if-i-xs.ys c.loop-j.invariant
          (elim w.else-i-xs.branch [
            | else-i-xs-via-then-i-xs+else-value-ne0 v ↦ λ _. v.if-value-ne0.false
            | else-i-xs-via-else-i-xs v ↦ λ h. absurd (omega (arith, v.if-i-xs.false))
          ])
          w.i-is w.xs-is w.ys-is
    ]

pub returns : goal.returns
returns g c =
    gathering_done g.F.Field.numbers c.args.received.now.points.now c.args.received.now.multipliers.now c.args.received.now.shares.now c.args.values.now
    (length c.args.received.now.points.now) c.loop-j.invariant (omega arith) c.requires.enough
