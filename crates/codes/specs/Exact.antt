-- Which openings are accepted, without an order of checks: exactly those of a valid code with as many multipliers as points and with an accepted setting.
use Rattle.std.specs.Prelude.{◌≡◌, ℕ, ◌↔◌, length, None}
use Rattle.decoding.specs.Setting.{Accepted}
use Rattle.codes.specs.Valid.{Valid}
use Rattle.codes.specs.Opening.{Given, first_fault}

pub record Fit (q : ℕ) (g : Given) : Type 0 where
  pub code : Valid q (length g.points) g.points g.multipliers g.threshold
  pub same : length g.multipliers ≡ length g.points
  pub setting : Accepted (length g.points) g.threshold g.setting.radius g.setting.multiplicity g.setting.list_limit

abbrev pub OpensExactly : Type 0
OpensExactly = (q : ℕ) (g : Given) → first_fault q g ≡ None ↔ Fit q g
