use Rattle.std.proofs.Common.{true, false, refl, arith}
use Rattle.rolls.proofs.Placing.{told_known, told_full, told_new, exact, within, by_default}
use Rattle.rolls.proofs.slots.place.Goals as goal
use Rattle.rolls.proofs.slots.place.Goals.{else-i-len-via-then-i-len+else-not-precedes, else-i-len-via-else-i-len}

pub returns-then-not-precedes : goal.returns-then-not-precedes
returns-then-not-precedes g c =
    let less = g.T.Ordered.less in
    (told_known less c.args.x c.args.slots.now c.args.len c.lower-i.result c.args.x c.requires (exact less c.args.x c.args.slots.now c.args.len c.lower-i.result c.lower-i.ensures.value) c.if-i-len.true
    (by_default less c.args.x c.args.slots.now c.lower-i.result c.index-slots-i.result false (omega arith) c.if-not-precedes.ensures))

pub returns-then-len-slots : goal.returns-then-len-slots
returns-then-len-slots g c =
    let less = g.T.Ordered.less in
    (told_full less c.args.x c.args.slots.now c.args.len c.lower-i.result c.args.x c.requires (exact less c.args.x c.args.slots.now c.args.len c.lower-i.result c.lower-i.ensures.value)
    (within less c.args.x c.args.slots.now c.args.len c.lower-i.result c.lower-i.ensures.bound)
    (elim c.else-i-len.branch [
      | else-i-len-via-then-i-len+else-not-precedes w ↦ λ h. by_default less c.args.x c.args.slots.now c.lower-i.result w.index-slots-i.result true (omega arith) w.if-not-precedes.ensures
      | else-i-len-via-else-i-len w ↦ λ h. absurd (omega arith)
    ])
    c.if-len-slots.true)

pub returns : goal.returns
returns g c =
    let less = g.T.Ordered.less in
    (told_new less c.args.x c.args.slots.now c.args.len c.lower-i.result c.args.x c.requires (exact less c.args.x c.args.slots.now c.args.len c.lower-i.result c.lower-i.ensures.value)
    c.open_front.new.row _
    (within less c.args.x c.args.slots.now c.args.len c.lower-i.result c.lower-i.ensures.bound)
    (elim c.else-i-len.branch [
      | else-i-len-via-then-i-len+else-not-precedes w ↦ λ h. by_default less c.args.x c.args.slots.now c.lower-i.result w.index-slots-i.result true (omega arith) w.if-not-precedes.ensures
      | else-i-len-via-else-i-len w ↦ λ h. absurd (omega arith)
    ])
    (omega arith) c.open_front.ensures refl)
