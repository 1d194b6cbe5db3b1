-- An area of zeros.
use Rattle.std.specs.Prelude.{◌≡◌, ℕ, ◌<◌, List, length, slice_index}

-- each number is zero
abbrev pub AllZero : List ℕ → Type 0
AllZero xs = (k : ℕ) → k < length xs → slice_index xs k ≡ 0
