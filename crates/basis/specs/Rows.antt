-- When a row of numbers fits, areas for two rows, and the stop rules of a run.
use Rattle.std.specs.Prelude.{◌≡◌, ℕ, List, length}
use Rattle.fields.specs.Numbers.{AllBelow}
use Rattle.stages.specs.Euclid.{Row}
use Rattle.basis.specs.declared.euclid.LastRows.{LastRows}
use Rattle.basis.specs.declared.euclid.Stop.{Stop}
use Rattle.basis.specs.declared.euclid.Stop.TheVariants.{Crossing, Short}

-- a row of n elements each
pub record Fits (q n : ℕ) (r : Row) : Type 0 where
  pub a_below : AllBelow q r.a
  pub b_below : AllBelow q r.b
  pub a_length : length r.a ≡ n
  pub b_length : length r.b ≡ n

-- areas of n numbers each
pub record Room (n : ℕ) (pa pb la lb : List ℕ) : Type 0 where
  pub pa_length : length pa ≡ n
  pub pb_length : length pb ≡ n
  pub la_length : length la ≡ n
  pub lb_length : length lb ≡ n

-- the areas are those of before, whatever stands in them
pub record SameAreas (t t' : LastRows) : Type 0 where
  pub pa : t'.pa.ghost_name ≡ t.pa.ghost_name
  pub pb : t'.pb.ghost_name ≡ t.pb.ghost_name
  pub la : t'.la.ghost_name ≡ t.la.ghost_name
  pub lb : t'.lb.ghost_name ≡ t.lb.ghost_name

-- what the size of a row's a must not pass for the run to stop there, where its b has the degree l
abbrev pub limit : Stop → ℕ → ℕ
limit Crossing l = l
limit (Short n) l = n
