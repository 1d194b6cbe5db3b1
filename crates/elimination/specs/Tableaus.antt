-- The lent areas that a step works in.
use Rattle.std.specs.Prelude.{◌≡◌, ℕ, ◌*◌, ◌≤◌, length}
use Rattle.fields.specs.Numbers.{AllBelow}
use Rattle.elimination.specs.declared.Tableau.{Tableau}

-- count rows of count runs of B numbers below q, with as many ranks and values, and room for a copy of a row
pub record Fits (q count B : ℕ) (t : Tableau) : Type 0 where
  pub below : AllBelow q t.rows.now
  pub ranked : length t.ranks.now ≡ count
  pub valued : length t.values.now ≡ count
  pub size : length t.pivot.now ≡ count * B
  pub room : count * length t.pivot.now ≤ length t.rows.now

-- the areas are those of before, whatever stands in them
pub record SameAreas (t t' : Tableau) : Type 0 where
  pub rows : t'.rows.ghost_name ≡ t.rows.ghost_name
  pub ranks : t'.ranks.ghost_name ≡ t.ranks.ghost_name
  pub values : t'.values.ghost_name ≡ t.values.ghost_name
  pub pivot : t'.pivot.ghost_name ≡ t.pivot.ghost_name
