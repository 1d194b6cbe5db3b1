use Rattle.std.proofs.Common.{ℕ, take, sym, refl, ◌∙◌, subst}
use Rattle.fields.specs.Numbers.{AllBelow}
use Rattle.interpolating.proofs.Openings.{points_long, gathered_long}
use Rattle.recovery.proofs.Opened.{passed}
use Rattle.recovery.proofs.list.Goals as goal

pub list_opened-requires : goal.list_opened-requires
list_opened-requires g c =
    let q = g.F.Field.numbers.q in
    let o = c.in_ok-opened.opened.now in
    let s = c.in_ok-shares.ensures.gathered in
    record {
      passed = passed q c.args.collection.now.kept c.in_ok-opened.opened.now c.in_ok-opened.ensures c.args.collection.now.sound;
      below = subst (λ (k : ℕ). AllBelow k (take c.count-n.result c.in_ok-shares.shares)) (c.Q.ensures ∙ g.met.F.Field.counts) s.below;
      told =
          gathered_long _ c.count-n.result c.count-n.result _ c.in_ok-shares.shares refl s
          ∙ c.count-n.ensures ∙ sym (points_long c.in_ok-opened.opened.now);
    }
