use Rattle.std.proofs.Common.{◌⊎◌, take, sym, subst, arith}
use Rattle.polynomials.specs.Series.{poly}
use Rattle.rolls.specs.Order.{Has, Lists}
use Rattle.rolls.proofs.Accepted.{length_after}
use Rattle.candidates.specs.Order.{in_order}
use Rattle.candidates.specs.Telling.{Passing}
use Rattle.candidates.specs.Sifting.{locator}
use Rattle.candidates.specs.Orders.{in_order_total}
use Rattle.candidates.proofs.Entering.{with_room, count_after, one_more}
use Rattle.candidates.proofs.sifting.enter.Goals as goal

pub returns : goal.returns
returns g c =
    let F = g.F.Field.numbers in
    let n = c.args.roll.now.len in
    let slots = c.args.roll.now.slots.now in
    let told = c.insert.ensures.inserted in
    let x = c.in-Some.found in
    record {
      entered = λ C d.
          let P = Passing F C c.args.sieve.now.threshold (poly F c.args.sieve.now.received.shares.now) c.args.sieve.now.radius (locator F c.args.sieve.now.h1.now c.args.sieve.now.h2.now c.args.pair.now) in
          subst (Lists in_order (λ z. Has z (take n slots) ⊎ P z))
          (sym (with_room in_order x slots n c.insert.result c.insert.new.self.slots.now c.insert.new.self.len c.requires.space told))
          (one_more in_order_total P x (take n slots) c.requires.ascending (c.in-Some.ensures C d).0 (c.in-Some.ensures C d).1);
      grows = count_after in_order x slots n c.insert.result c.insert.new.self.slots.now c.insert.new.self.len c.requires.space told;
      room = length_after in_order x slots n c.insert.result c.insert.new.self.slots.now c.insert.new.self.len (omega arith) told;
      lender = c.insert.ensures.lender;
    }
