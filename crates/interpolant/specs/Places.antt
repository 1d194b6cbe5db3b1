-- The places of the roots, as a program has them.
use Rattle.std.specs.Prelude.{◌≡◌, ℕ, length}
use Rattle.fields.specs.Numbers.{AllBelow}
use Rattle.interpolant.specs.declared.Places.{Places}

-- as many ratios as points, all by numbers below q
pub record Placed (q : ℕ) (p : Places) : Type 0 where
  pub points : AllBelow q p.points.now
  pub ys : AllBelow q p.ys.now
  pub zs : AllBelow q p.zs.now
  pub count_ys : length p.points.now ≡ length p.ys.now
  pub count_zs : length p.points.now ≡ length p.zs.now
