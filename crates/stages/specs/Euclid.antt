-- Euclid's rows on x ^ D and S, as lists of D + 1 coefficients: one step, the run with its stop rule, and the run from the first two rows.
use Rattle.std.specs.Prelude.{ℕ, zero, suc, ◌+◌, ◌-◌, cond, List, [], ◌∷◌, ◌++◌, replicate, nat_le, slice_index}
use Rattle.fields.specs.Numbers.{Numbers}
use Rattle.stages.specs.Coefficients.{size, less}

-- a row (a, b) stands for a + y b
pub record Row : Type 0 where
  pub a : List ℕ
  pub b : List ℕ

-- two rows that follow one another
pub record Rows : Type 0 where
  pub before : Row
  pub last : Row

abbrev pub row : List ℕ → List ℕ → Row
row a b = record { a = a; b = b }

abbrev pub two_rows : Row → Row → Rows
two_rows P L = record { before = P; last = L }

module _ (F : Numbers) where
  -- P - c x ^ k L
  abbrev pub row_less : ℕ → ℕ → Row → Row → Row
  row_less c k L P = row (less F c k L.a P.a) (less F c k L.b P.b)

  -- P less its quotient times L: where L.a has the degree m, multiples of x ^ (k - 1) L, .., L are taken from P, which clear the coefficients of
  -- x ^ (k - 1 + m), .., x ^ m in P.a one after another
  unfoldable pub divide : ℕ → Row → ℕ → Row → Row
  divide m L zero P = P
  divide m L (suc k) P = divide m L k (row_less (F.mul (slice_index P.a (k + m)) (F.inv (slice_index L.a m))) k L P)

  -- the row after P and L: P less the quotient of P.a by L.a times L
  abbrev pub next : Row → Row → Row
  next P L = divide (size L.a - 1) L (size P.a - (size L.a - 1)) P

  -- the rows go on while the last one's a has a degree of limit l at least, where l is the degree of its b; n steps at most
  unfoldable pub run : (ℕ → ℕ) → ℕ → Rows → Rows
  run limit zero R = R
  run limit (suc n) R =
      cond (nat_le (size R.last.a) (limit (size R.last.b - 1))) R
      (run limit n (two_rows R.last (next R.before R.last)))

  -- (x ^ D, 0) and (S, -1)
  abbrev pub start : ℕ → List ℕ → Rows
  start D S = two_rows (row (replicate D 0 ++ 1 ∷ []) (replicate (suc D) 0)) (row S (F.neg 1 ∷ replicate D 0))

  -- the last two rows of the run on x ^ D and S: no more steps than S has coefficients
  abbrev pub rows : (ℕ → ℕ) → ℕ → List ℕ → Rows
  rows limit D S = run limit (suc D) (start D S)
