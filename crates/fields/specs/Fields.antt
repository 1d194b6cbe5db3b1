-- The four fields, and some of their products.
use Rattle.std.specs.Prelude.{◌≡◌, refl}
use Rattle.std.proofs.Common.{lit<}
use Rattle.binary.proofs.Doubling.{double, doubles}
use Rattle.binary.proofs.Powers.{Primitive, powers}
use Rattle.fields.specs.Numbers.{Numbers}
use Rattle.fields.specs.Total.{numbers_of}
use Rattle.fields.specs.Modular.{modular}
use Rattle.fields.specs.Binaries.{binary}

-- the integers modulo 7
abbrev pub numbers7 : Numbers
numbers7 = numbers_of (modular 7 (lit< tt) tt)

-- the integers modulo 929
abbrev pub numbers929 : Numbers
numbers929 = numbers_of (modular 929 (lit< tt) tt)

-- 16 elements, reduced by x^4 + x + 1
pub primitive16 : Primitive 3 0x13
unfolding double doubles powers
primitive16 = record { monic = refl; returns = tt; all = tt }

abbrev pub numbers16 : Numbers
numbers16 = numbers_of (binary 3 0x13 primitive16)

-- 256 elements, reduced by x^8 + x^4 + x^3 + x^2 + 1
pub primitive256 : Primitive 7 0x11D
unfolding double doubles powers
primitive256 = record { monic = refl; returns = tt; all = tt }

abbrev pub numbers256 : Numbers
numbers256 = numbers_of (binary 7 0x11D primitive256)

-- a product in each field but the first
abbrev pub WorkedProducts : Type 0
WorkedProducts = (numbers16.mul 2 9 ≡ 1) × (numbers256.mul 128 2 ≡ 29) × (numbers929.mul 2 465 ≡ 1)
