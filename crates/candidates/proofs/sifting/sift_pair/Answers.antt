use Rattle.std.proofs.Common.{sym, subst, arith}
use Rattle.polynomials.specs.Series.{poly}
use Rattle.candidates.specs.Telling.{Passing, Only}
use Rattle.candidates.specs.Sifting.{locator}
use Rattle.candidates.proofs.Telling.{passed_only, none_only, short_distance}
use Rattle.candidates.proofs.sifting.sift_pair.Goals as goal

pub returns-in_err-distance : goal.returns-in_err-distance
returns-in_err-distance g c C d =
    let F = g.F.Field.numbers in
    let w = locator F c.args.sieve.now.h1.now c.args.sieve.now.h2.now c.args.pair.now in
    let r = poly F c.args.sieve.now.received.shares.now in
    subst (Only (Passing F C c.args.sieve.now.threshold r c.args.sieve.now.radius w)) (sym c.from_residual.ensures)
    (none_only F C c.args.sieve.now.threshold r (omega (arith, d.places)) c.args.sieve.now.radius w (c.in_err-distance.ensures.sifted C d).0)

pub overflow_cast-found : goal.overflow_cast-found
overflow_cast-found g c =
    let (C, d) = c.sift.ensures.code in
    omega (arith, short_distance g.F.Field.numbers C d (c.in_ok-distance.ensures.sifted C d))

pub returns : goal.returns
returns g c C d =
    let F = g.F.Field.numbers in
    passed_only F C c.args.sieve.now.threshold (poly F c.args.sieve.now.received.shares.now) (omega (arith, d.places)) c.args.sieve.now.radius
    (locator F c.args.sieve.now.h1.now c.args.sieve.now.h2.now c.args.pair.now)
    (record { distance = c.in_ok-distance.distance; message = c.sift.new.message; word = c.sift.new.word })
    (omega arith) (omega arith) (c.in_ok-distance.ensures.sifted C d)
