-- A list of numbers as runs of one length, that is as a family of polynomials.
use Rattle.std.specs.Prelude.{ℕ, ◌*◌, List, take, drop}
use Rattle.fields.specs.Numbers.{Numbers, Element}
use Rattle.polynomials.specs.Series.{poly}

-- the run t of a list of runs of B numbers
unfoldable pub run : ℕ → List ℕ → ℕ → List ℕ
run B xs t = take B (drop (t * B) xs)

-- the polynomial t is the run t, the lowest coefficient first
abbrev pub family : (F : Numbers) → ℕ → List ℕ → ℕ → ℕ → Element F
family F B xs t = poly F (run B xs t)
