-- Look-ups in the two tables of a binary field: products and inverses of the field, for all numbers.
use Rattle.std.specs.Prelude.{◌≡◌, List, ℕ, suc, ◌-◌, ◌^◌, length}
use Rattle.std.proofs.Common.{◌∙◌, ap, ap₂}
use Rattle.binary.specs.Binary.{product, inverse}
use Rattle.binary.specs.Tables.{looked_up, looked_up_inverse}
use Rattle.binary.proofs.Powers.{Primitive, powers, length_powers}
use Rattle.binary.proofs.Tables.{logs, length_logs, product_looked_up, inverse_looked_up}
use Rattle.fields.specs.Total.{on_elements, on_nonzero, elements_agree, nonzero_agree}

module _ (w red : ℕ) (P : Primitive w red) (exps places : List ℕ) (e : exps ≡ powers w red) (l : places ≡ logs w red) where
  many : length exps ≡ 2 ^ suc w - 1
  many = ap length e ∙ length_powers w red P

  all : length places ≡ 2 ^ suc w
  all = ap length l ∙ length_logs w red P

  pub products : (a b : ℕ) → on_elements (length places) (looked_up (length exps) exps places) a b ≡ on_elements (2 ^ suc w) (product (suc w) red) a b
  products a b =
      ap₂ (λ (q n : ℕ). on_elements q (looked_up n exps places) a b) all many
      ∙ ap₂ (λ (xs ys : List ℕ). on_elements (2 ^ suc w) (looked_up (2 ^ suc w - 1) xs ys) a b) e l
      ∙ elements_agree (2 ^ suc w) _ _ (product_looked_up w red P) a b

  pub inverses : (a : ℕ) → on_nonzero (length places) (looked_up_inverse (length exps) exps places) a ≡ on_nonzero (2 ^ suc w) (inverse (suc w) red) a
  inverses a =
      ap₂ (λ (q n : ℕ). on_nonzero q (looked_up_inverse n exps places) a) all many
      ∙ ap₂ (λ (xs ys : List ℕ). on_nonzero (2 ^ suc w) (looked_up_inverse (2 ^ suc w - 1) xs ys) a) e l
      ∙ nonzero_agree (2 ^ suc w) _ _ (inverse_looked_up w red P) a
