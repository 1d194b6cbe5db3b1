use Rattle.std.proofs.Common.{◌≡◌, ℕ, ◌+◌, ◌≤◌, length, Option, sym, subst, arith}
use Rattle.algebra.specs.Sums.{count}
use Rattle.polynomials.specs.Series.{poly}
use Rattle.sift.specs.Roots.{vanishes}
use Rattle.sift.specs.Received.{Found}
use Rattle.sift.proofs.Recovery.{resized}
use Rattle.sift.proofs.Outcome.{enough, none_splits, none_off, none_near, passed}
use Rattle.sift.proofs.Sieves.{placed}
use Rattle.sift.proofs.sieve.Sieve.sift_by.Goals as goal

pub returns-then-not-splits : goal.returns-then-not-splits
returns-then-not-splits g c C d =
    none_splits g.F.Field.numbers (placed c.args.self.now) c.splits.ensures.written C d c.args.self.now.threshold c.args.self.now.radius
    (c.if-not-splits.ensures.no (λ t. t))

pub recover-requires : goal.recover-requires
recover-requires g c =
    record {
      each = omega arith;
      enough =
          subst (λ (k : ℕ). k + count (length c.args.self.now.received.points.now) (vanishes c.splits.new.values) ≤ length c.args.self.now.received.points.now)
          (let e : c.args.self.now.threshold ≡ length c.split_at_mut-xs.result.0.now = omega arith in e)
          (enough g.F.Field.numbers (placed c.args.self.now) c.splits.ensures.written c.args.self.now.threshold (c.if-not-splits.ensures.yes tt) c.args.self.now.fewer c.requires.low);
      room = omega arith;
      node_room = omega arith;
      message_room = omega arith;
      word_room = omega arith;
    }

pub returns-in_err-distance : goal.returns-in_err-distance
returns-in_err-distance g c C d =
    let F = g.F.Field.numbers in
    let b = c.in_err-distance.ensures in
    let t = resized c.recover.ensures (let e : length c.split_at_mut-xs.result.0.now ≡ c.args.self.now.threshold = omega arith in e) in
    let l : c.args.self.now.threshold ≤ length c.recover.new.message = omega arith in
    subst (λ (o : Option ℕ). Found F C c.args.self.now.threshold c.args.self.now.radius (poly F c.args.self.now.received.shares.now) (poly F c.args.locator.now) o c.recover.new.message c.recover.new.word)
    (sym c.from_residual.ensures)
    (none_off F (placed c.args.self.now) c.splits.ensures.written C d c.args.self.now.threshold c.args.self.now.radius t l b.0 b.1 b.2 b.3)

pub returns-then-distance-self : goal.returns-then-distance-self
returns-then-distance-self g c C d =
    let b = c.in_ok-distance.ensures in
    let t = resized c.recover.ensures (let e : length c.split_at_mut-xs.result.0.now ≡ c.args.self.now.threshold = omega arith in e) in
    let l : c.args.self.now.threshold ≤ length c.recover.new.message = omega arith in
    passed g.F.Field.numbers (placed c.args.self.now) c.splits.ensures.written C d c.args.self.now.threshold c.args.self.now.radius t l
    (c.if-not-splits.ensures.yes tt) c.in_ok-distance.distance b.0 b.1 (omega arith)

pub returns-else-distance-self : goal.returns-else-distance-self
returns-else-distance-self g c C d =
    let b = c.in_ok-distance.ensures in
    let t = resized c.recover.ensures (let e : length c.split_at_mut-xs.result.0.now ≡ c.args.self.now.threshold = omega arith in e) in
    let l : c.args.self.now.threshold ≤ length c.recover.new.message = omega arith in
    none_near g.F.Field.numbers (placed c.args.self.now) c.splits.ensures.written C d c.args.self.now.threshold c.args.self.now.radius t l
    c.in_ok-distance.distance b.0 (omega arith)
