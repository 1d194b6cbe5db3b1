use Rattle.std.proofs.Common.{◌≡◌, ℕ, ◌+◌, ◌<◌, length, sym, ◌∙◌, subst, subst₂, arith, rules}
use Rattle.leaves.specs.Reached.{Reconstructs}
use Rattle.leaves.proofs.Rational.{stopped_below, reconstructed}
use Rattle.leaves.proofs.reaching.reconstruct.Goals as goal

pub find-requires : goal.find-requires
find-requires g c =
    let k = c.pad.auto.out in
    let m = c.requires.areas in
    let same : length c.args.digits.now + 1 ≡ length c.pad.new.out = sym (k ∙ c.requires.series) in
    record {
      some = omega (arith, k, c.requires.series);
      all = c.pad.ensures.below;
      lengths = record { pa_length = m.pa_length ∙ same; pb_length = m.pb_length ∙ same; la_length = m.la_length ∙ same; lb_length = m.lb_length ∙ same };
    }

pub scale-requires : goal.scale-requires
scale-requires g c =
    let F = g.F.Field.numbers in
    let u = c.find.new.self in
    record {
      factor = subst (λ (n : ℕ). n < F.q) (sym c.neg.ensures) (F.laws.neg_below 1);
      all = stopped_below F _ c.args.digits.now c.pad.new.out u.pa.now u.pb.now u.la.now u.lb.now
          (c.pad.auto.out ∙ c.requires.series) (omega (arith, c.requires.long)) c.pad.ensures c.find.ensures.rows;
    }

-- the areas hold what the rows held last, since the rows kept them
pub returns : goal.returns
returns g c =
    let F = g.F.Field.numbers in
    let u = c.find.new.self in
    let first : c.f1-1.given.0 ≡ c.scale.new.a = let tie = sym c.find.ensures.areas.lb in search rules in
    let second : c.f2-1.given.0 ≡ u.la.now = let tie = sym c.find.ensures.areas.la in search rules in
    subst₂ (Reconstructs F c.args.w1 c.args.w2 c.args.digits.now) (sym first) (sym second)
    (reconstructed F c.args.w1 c.args.w2 c.args.digits.now c.pad.new.out u.pa.now u.pb.now u.la.now u.lb.now
    c.scale.new.a c.neg.result c.requires.long (c.pad.auto.out ∙ c.requires.series) c.pad.ensures c.find.ensures.rows c.neg.ensures c.scale.ensures)
