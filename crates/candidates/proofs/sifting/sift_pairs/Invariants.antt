use Rattle.std.proofs.Common.{◌≡◌, ◌≤◌, length, take}
use Rattle.candidates.specs.Sifting.{ListsSifted}
use Rattle.candidates.proofs.sifting.sift_pairs.Given as goal

abbrev pub invariant-loop-pair : goal.invariant-loop-pair
invariant-loop-pair g l =
    ListsSifted g.F.Field.numbers l.sieve.received.points.now l.sieve.received.multipliers.now l.sieve.received.shares.now l.sieve.h1.now l.sieve.h2.now l.sieve.threshold l.sieve.radius (take l.pair-index l.pairs) (take l.roll.len l.roll.slots.now)
    × (l.roll.len ≤ l.pair-index)
    × (length l.roll.slots.now ≡ length l.initial.roll.slots.now)
    × (l.roll.slots.ghost_name ≡ l.initial.roll.slots.ghost_name)
