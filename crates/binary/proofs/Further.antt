-- A field that is not used yet: 1,024 elements, reduced by x^10 + x^3 + 1. It needs the computed test and nothing else.
use mathlib.Core.Path.{refl}
use Rattle.binary.proofs.Doubling.{double, doubles}
use Rattle.binary.proofs.Powers.{Primitive, powers}

pub primitive1024 : Primitive 9 0x409
unfolding double doubles powers
primitive1024 = record { monic = refl; returns = tt; all = tt }
