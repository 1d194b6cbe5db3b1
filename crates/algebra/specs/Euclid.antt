-- Euclid's algorithm on x ^ D and S, by rows (a, b) with a + b S divisible by x ^ D, in this order: what holds of two rows that follow
-- one another (Rows); the first two rows and the next one; a pair (g, h) as a combination of two rows; the rows at which a run stops
-- (Stopped), for any rule that says when. The rule is a function limit: the run goes on while the last row's a has a degree of limit l at
-- least, where l is the degree of its b. With limit l = l it stops at the first row with deg a < deg b; with limit l = w + 1 at the first
-- row with deg a at most w.
use Rattle.std.specs.Prelude.{◌≡◌, ◌≢◌, ℕ, suc, ◌+◌, ◌-◌, ◌≤◌}
use Rattle.algebra.specs.Ring.{Ring}
use Rattle.algebra.specs.Field.{Field}
use Rattle.algebra.specs.Poly.{conv, padd, pneg, pzero, const, Below, Order, drop, mono, Degree}
use Rattle.algebra.specs.PolyRing.{Poly}
use Rattle.algebra.specs.Division.{quotient}

pub record Row (R : Ring) : Type 0 where
  pub a : ℕ → R.El
  pub b : ℕ → R.El

-- What holds of the row before, P, and the last row, L, where P.a has the degree p and L.b the degree l
pub record Rows (R : Ring) (D : ℕ) (S : ℕ → R.El) (P L : Row R) (p l : ℕ) : Type 0 where
  pub before : Order R D (padd R P.a (conv R P.b S))
  pub last : Order R D (padd R L.a (conv R L.b S))
  -- the determinant is x ^ D, up to a constant factor, which each step of Euclid negates
  pub sign : R.El
  pub sign≢zero : sign ≢ R.𝟘
  pub determinant : padd R (conv R P.a L.b) (pneg R (conv R L.a P.b)) ≡ conv R (const R sign) (mono R D)
  -- the degrees fall from P.a to L.a, rise from P.b to L.b, and those of P.a and L.b sum to D
  pub a_degree : Degree R p P.a
  pub a_falls : Below R p L.a
  pub b_degree : Degree R l L.b
  pub b_rises : Below R l P.b
  pub sum : p + l ≡ D

module _ (𝓕 : Field) where
  infixl 60 ◌⊞◌
  infixl 70 ◌⊠◌
  infix 80 ⊟◌
  open 𝓕.ring use {El, 𝟙, ⊖◌}
  open Poly 𝓕.ring use {◌⊕◌ as ◌⊞◌, ⊖◌ as ⊟◌, ◌⊗◌ as ◌⊠◌}

  -- the first two rows
  abbrev pub top : ℕ → Row 𝓕.ring
  top D = record { a = mono 𝓕.ring D; b = pzero 𝓕.ring }

  abbrev pub second : (ℕ → El) → Row 𝓕.ring
  second S = record { a = S; b = ⊟ const 𝓕.ring 𝟙 }

  -- the quotient of P.a, of the degree p, by L.a, of the degree m
  abbrev pub ratio : ℕ → ℕ → Row 𝓕.ring → Row 𝓕.ring → ℕ → El
  ratio p m P L = quotient 𝓕 m L.a (suc (p - m)) P.a

  -- the row after P and L
  abbrev pub next : ℕ → ℕ → Row 𝓕.ring → Row 𝓕.ring → Row 𝓕.ring
  next p m P L =
      record { a = P.a ⊞ ⊟ (ratio p m P L ⊠ L.a); b = P.b ⊞ ⊟ (ratio p m P L ⊠ L.b) }

  -- the multiples of P and of L whose sum is (g, h), where s is the sign of the rows
  unfoldable pub part_before : ℕ → El → Row 𝓕.ring → (ℕ → El) → (ℕ → El) → ℕ → El
  part_before D s L g h = const 𝓕.ring (𝓕.inv s) ⊠ drop D (g ⊠ L.b ⊞ ⊟ (h ⊠ L.a))

  unfoldable pub part_last : ℕ → El → Row 𝓕.ring → (ℕ → El) → (ℕ → El) → ℕ → El
  part_last D s P g h = const 𝓕.ring (𝓕.inv s) ⊠ drop D (P.a ⊠ h ⊞ ⊟ (P.b ⊠ g))

-- (g, h) = f₁ P + f₂ L
pub record Combination (R : Ring) (P L : Row R) (g h f₁ f₂ : ℕ → R.El) : Type 0 where
  pub first : g ≡ padd R (conv R f₁ P.a) (conv R f₂ L.a)
  pub second : h ≡ padd R (conv R f₁ P.b) (conv R f₂ L.b)

-- Where a run stops that goes on while L.a has a degree of limit l at least
pub record Stopped (R : Ring) (limit : ℕ → ℕ) (D : ℕ) (S : ℕ → R.El) : Type 0 where
  pub P : Row R
  pub L : Row R
  pub p : ℕ
  pub l : ℕ
  pub rows : Rows R D S P L p l
  pub low : Below R (limit l) L.a
  -- P.b has the degree l' at most, and P was no row to stop at
  pub l' : ℕ
  pub b_below : Below R (suc l') P.b
  pub high : limit l' ≤ p
