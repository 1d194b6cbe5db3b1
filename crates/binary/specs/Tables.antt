-- Look-ups in a table of n powers of an element and a table of the places of all elements in it: a product, and an inverse.
use Rattle.std.specs.Prelude.{cond, ◌||◌, List, ℕ, ◌+◌, ◌-◌, ◌%◌, eqb, get_or}

module _ (n : ℕ) (exps places : List ℕ) where
  -- a product with 0 is 0; else the exponents are added
  abbrev pub looked_up : ℕ → ℕ → ℕ
  looked_up a b = cond (eqb a 0 || eqb b 0) 0 (get_or exps ((get_or places a 0 + get_or places b 0) % n) 0)

  -- the opposite exponent
  abbrev pub looked_up_inverse : ℕ → ℕ
  looked_up_inverse a = get_or exps ((n - get_or places a 0) % n) 0
