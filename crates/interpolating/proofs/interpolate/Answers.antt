use Rattle.std.proofs.Common.{◌≡◌, ℕ, ◌≤◌, List, length, take, sym, refl, ap, ◌∙◌, subst}
use Rattle.fields.specs.Numbers.{AllBelow}
use Rattle.decoding.specs.Setting.{Accepted}
use Rattle.interpolating.proofs.Openings.{fitting, points_long, gathered_long}
use Rattle.interpolating.proofs.interpolate.Goals as goal

pub new-received-requires : goal.new-received-requires
new-received-requires g c =
    let q = g.F.Field.numbers.q in
    let o = c.in_ok-opened.opened.now in
    let f = fitting q c.args.collection.now.kept o c.in_ok-opened.ensures c.args.collection.now.sound in
    let s = c.in_ok-shares.ensures.gathered in
    let given : length c.points.result.now ≡ c.in_ok-opened.opened.now.code.count = ap length c.points.ensures ∙ points_long o in
    record {
      points = subst (AllBelow q) (sym c.points.ensures) f.points;
      multipliers = subst (AllBelow q) (sym c.multipliers.ensures) f.multipliers;
      shares = subst (λ (k : ℕ). AllBelow k (take c.count-n.result c.in_ok-shares.shares)) (c.Q.ensures ∙ g.met.F.Field.counts) s.below;
      a_multiplier_each = ap length c.multipliers.ensures ∙ f.same ∙ sym (ap length c.points.ensures);
      a_share_each = gathered_long _ c.count-n.result c.count-n.result _ c.in_ok-shares.shares refl s ∙ c.count-n.ensures ∙ sym given;
    }

pub interpolate_shares-requires : goal.interpolate_shares-requires
interpolate_shares-requires g c =
    let o = c.in_ok-opened.opened.now in
    let f = fitting g.F.Field.numbers.q c.args.collection.now.kept o c.in_ok-opened.ensures c.args.collection.now.sound in
    let e = sym (c.new-received.ensures.points ∙ c.points.ensures) in
    record {
      short = subst (λ (l : List ℕ). length l ≤ 32) e f.short;
      accepted =
          subst (λ (l : List ℕ). Accepted (length l) c.threshold.result o.setting.radius o.setting.multiplicity o.setting.list_limit) e
          (subst (λ (k : ℕ). Accepted (length (take o.code.count o.code.points)) k o.setting.radius o.setting.multiplicity o.setting.list_limit)
          (sym c.threshold.ensures) f.accepts);
    }
