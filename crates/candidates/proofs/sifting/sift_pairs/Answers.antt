use Rattle.std.proofs.Common.{◌≡◌, ℕ, ◌≤◌, [], length, take, sym, ap, ◌∙◌, subst, arith, rules}
use Rattle.sift.proofs.Described.{described}
use Rattle.sift.proofs.Sieves.{placed}
use Rattle.candidates.specs.Sifting.{ListsSifted}
use Rattle.candidates.proofs.Entering.{has_at}
use Rattle.candidates.proofs.Nearness.{none_sifted, more_sifted, closed_sifted, closed_blank, near}
use Rattle.candidates.proofs.sifting.sift_pairs.Goals as goal

pub loop-pair-init : goal.loop-pair-init
loop-pair-init g c =
    let F = g.F.Field.numbers in (
      subst (λ (n : ℕ). ListsSifted F c.args.sieve.now.received.points.now c.args.sieve.now.received.multipliers.now c.args.sieve.now.received.shares.now c.args.sieve.now.h1.now c.args.sieve.now.h2.now c.args.sieve.now.threshold c.args.sieve.now.radius [] (take n c.new-roll.result.slots.now))
          (sym c.new-roll.ensures.empty)
          (none_sifted F c.args.sieve.now.received.points.now c.args.sieve.now.received.multipliers.now c.args.sieve.now.received.shares.now c.args.sieve.now.h1.now c.args.sieve.now.h2.now c.args.sieve.now.threshold c.args.sieve.now.radius),
      omega arith,
      cc,
      cc,
    )

pub enter-requires : goal.enter-requires
enter-requires g c =
    let F = g.F.Field.numbers in
    let (C, d) = described F (placed c.args.sieve.now) in
    record {
      roomy =
          record {
            few = c.requires.roomy.few;
            fewer = c.requires.roomy.fewer;
            fits = omega arith;
            fits_too = omega arith;
          };
      usable = c.requires.usable _ (has_at _ _ _ (omega arith));
      space = omega (arith, ap length c.new-roll.ensures.same);
      ascending = (c.loop-pair.invariant.0 C d).ascending;
    }

pub loop-pair-preserved : goal.loop-pair-preserved
loop-pair-preserved g c = (
  more_sifted g.F.Field.numbers c.args.sieve.now.received.points.now c.args.sieve.now.received.multipliers.now c.args.sieve.now.received.shares.now c.args.sieve.now.h1.now c.args.sieve.now.h2.now c.args.sieve.now.threshold c.args.sieve.now.radius
      c.args.pairs.now c.loop-pair.pair-index (record { first = []; second = [] }) (take c.loop-pair.roll.len c.loop-pair.roll.slots.now) (take c.enter.new.roll.len c.enter.new.roll.slots.now)
      c.loop-pair-test.true c.loop-pair.invariant.0 c.enter.ensures.entered,
  omega (arith, c.enter.ensures.grows),
  c.enter.ensures.room ∙ c.loop-pair.invariant.2,
  c.enter.ensures.lender ∙ c.loop-pair.invariant.3,
)

-- what the roll leaves is what the slots hold, since it was lent them and nothing else
pub returns : goal.returns
returns g c =
    let F = g.F.Field.numbers in
    let n = c.loop-pair.roll.len in
    let slots = c.loop-pair.roll.slots.now in
    let same = ap length c.new-roll.ensures.same in
    let tie = sym (c.loop-pair.invariant.3 ∙ c.new-roll.ensures.lender) in
    let fits : n ≤ length slots = omega arith in
    let long : length c.args.slots.now ≡ length slots = omega arith in
    record {
      count = omega arith;
      sifted =
          closed_sifted F c.args.sieve.now.received.points.now c.args.sieve.now.received.multipliers.now c.args.sieve.now.received.shares.now c.args.sieve.now.h1.now c.args.sieve.now.h2.now c.args.sieve.now.threshold c.args.sieve.now.radius
          c.args.pairs.now c.loop-pair.pair-index n c.close.result slots c.close.new.self.0 c.loop-pair-test.false fits c.close.ensures.count c.close.ensures.holds (search rules)
          c.loop-pair.invariant.0;
      near =
          near F c.args.sieve.now.received.points.now c.args.sieve.now.received.multipliers.now c.args.sieve.now.received.shares.now c.args.sieve.now.h1.now c.args.sieve.now.h2.now c.args.sieve.now.threshold c.args.sieve.now.radius c.args.pairs.now _
          (closed_sifted F c.args.sieve.now.received.points.now c.args.sieve.now.received.multipliers.now c.args.sieve.now.received.shares.now c.args.sieve.now.h1.now c.args.sieve.now.h2.now c.args.sieve.now.threshold c.args.sieve.now.radius
          c.args.pairs.now c.loop-pair.pair-index n c.close.result slots c.close.new.self.0 c.loop-pair-test.false fits c.close.ensures.count c.close.ensures.holds (search rules)
          c.loop-pair.invariant.0);
      beyond =
          closed_blank n c.close.result (length c.args.slots.now) slots c.close.new.self.0 fits c.close.ensures.count long c.close.ensures.holds (search rules);
    }
