use Rattle.std.proofs.Common.{ℕ, ◌+◌, ◌-◌, length, sym, subst, arith}
use Rattle.algebra.specs.Poly.{Below}
use Rattle.fields.specs.Numbers.{Element, ring_of}
use Rattle.polynomials.specs.Series.{poly}
use Rattle.polynomials.proofs.Divides.{unset_all}
use Rattle.sift.specs.Received.{Passed, NonePasses}
use Rattle.sift.proofs.Described.{described}
use Rattle.sift.proofs.Sieves.{placed}
use Rattle.sift.proofs.sieve.Sieve.sift.Goals as goal

pub sift_by-requires : goal.sift_by-requires
sift_by-requires g c =
    let F = g.F.Field.numbers in
    record {
      locator = c.locate.ensures.below;
      low = subst (Below (ring_of F) (length c.args.self.now.received.points.now - c.args.self.now.threshold + 1)) (sym c.locate.ensures.is) c.requires.low;
      room = omega arith;
      message_room = c.requires.message_room;
      word_room = c.requires.word_room;
    }

pub returns-in-Some : goal.returns-in-Some
returns-in-Some g c =
    let F = g.F.Field.numbers in
    record {
      code = described F (placed c.args.self.now);
      sifted = λ C d.
          subst (λ (w : ℕ → Element F). Passed F C c.args.self.now.threshold c.args.self.now.radius (poly F c.args.self.now.received.shares.now) w c.in-Some.distance c.sift_by.new.message c.sift_by.new.word)
          c.locate.ensures.is (c.in-Some.ensures C d);
    }

pub returns-in-None : goal.returns-in-None
returns-in-None g c =
    let F = g.F.Field.numbers in
    record {
      code = described F (placed c.args.self.now);
      sifted = λ C d. (
        subst (λ (w : ℕ → Element F). NonePasses F C c.args.self.now.threshold c.args.self.now.radius (poly F c.args.self.now.received.shares.now) w)
            c.locate.ensures.is (c.in-None.ensures C d),
        λ j _. unset_all F c.clear.new.a c.clear.ensures.below c.clear.ensures.is j,
        λ j _. unset_all F c.clear-in-None.new.a c.clear-in-None.ensures.below c.clear-in-None.ensures.is j,
      );
    }
