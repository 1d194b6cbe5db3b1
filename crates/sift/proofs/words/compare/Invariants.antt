use Rattle.std.proofs.Common.{◌≡◌, ℕ, ◌<◌, ◌≤◌, ◌≢◌, get_or}
use Rattle.algebra.specs.Sums.{count}
use Rattle.sift.specs.Reading.{differs}
use Rattle.sift.proofs.words.compare.Given as goal

abbrev pub invariant-loop-j : goal.invariant-loop-j
invariant-loop-j l =
    (l.distance ≡ count l.j (differs l.word l.shares))
    × (l.distance ≤ l.j)
    × ((k : ℕ) → k < l.j → get_or l.values k 0 ≢ 0 → get_or l.word k 0 ≡ get_or l.shares k 0)
