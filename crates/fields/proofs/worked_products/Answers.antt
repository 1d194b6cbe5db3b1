use mathlib.Core.Path.{refl}
use Rattle.binary.specs.Binary.{carryless, reduced, product}
use Rattle.fields.proofs.worked_products.Goals as goal

-- antt computes the three products
pub returns : goal.returns
unfolding carryless reduced product
returns c = record { defined = (refl, refl, refl); computed = cc }
