-- Powers modulo q by squaring: what one turn of the loop keeps.
-- In order: powers of a square, a turn without and with a factor.
use Rattle.std.specs.Prelude.{◌≡◌, ℕ, suc, ◌+◌, ◌*◌, ◌/◌, ◌%◌, ◌^◌, ◌<◌}
use Rattle.std.proofs.Common.{sym, ◌∙◌, ap, ap₂, arith, mod-lt}
use Rattle.std.proofs.lemmas.Nat.{pow-mod, pow-add, mul-pow}
use Rattle.std.proofs.Math.Nat.{pow-suc}
use Rattle.algebra.specs.Residue.{mod_mul_mod, mul_mod_mod}

pow_square : (x n : ℕ) → (x * x) ^ n ≡ x ^ (n * 2)
pow_square x n = mul-pow x x n ∙ sym (pow-add x n n) ∙ ap (λ (z : ℕ). x ^ z) (let e : n + n ≡ n * 2 = omega arith in e)

-- a turn leaves r·x^n as it is modulo q, with s for r, y for x and half of n
abbrev pub Kept : ℕ → ℕ → ℕ → ℕ → ℕ → ℕ → Type 0
Kept q r x n s y = (s < q) × (s * y ^ (n / 2) % q ≡ r * x ^ n % q)

-- s·(x²)^m modulo q, where x² is a remainder
square_mod : (q s x m : ℕ) → s * (x * x % q) ^ m % q ≡ s * x ^ (m * 2) % q
square_mod q s x m =
    sym (mul_mod_mod s ((x * x % q) ^ m) q) ∙ ap (λ (z : ℕ). s * z % q) (pow-mod (x * x) m q) ∙ mul_mod_mod s ((x * x) ^ m) q
    ∙ ap (λ (z : ℕ). s * z % q) (pow_square x m)

pub even_turn : (q r x n s y : ℕ) → n % 2 ≡ 0 → r < q → s ≡ r → y ≡ x * x % q → Kept q r x n s y
even_turn q r x n s y h l es ey = (
  rw es l,
  ap₂ (λ (a b : ℕ). a * b ^ (n / 2) % q) es ey ∙ square_mod q r x (n / 2)
      ∙ ap (λ (z : ℕ). r * x ^ z % q) (let e : n / 2 * 2 ≡ n = omega arith in e),
)

pub odd_turn : (q r x n s y : ℕ) → n % 2 ≡ 1 → 0 < q → s ≡ r * x % q → y ≡ x * x % q → Kept q r x n s y
odd_turn q r x n s y h pos es ey =
    let m : ℕ = n / 2 in
    let p : ℕ = x ^ (m * 2) in (
      rw es (mod-lt (r * x) pos),
      ap₂ (λ (a b : ℕ). a * b ^ m % q) es ey ∙ square_mod q (r * x % q) x m ∙ mod_mul_mod (r * x) q p
          ∙ ap (λ (z : ℕ). z % q) (let z : r * x * p ≡ r * (p * x) = omega arith in z)
          ∙ ap (λ (z : ℕ). r * z % q) (sym (pow-suc x (m * 2)) ∙ ap (λ (z : ℕ). x ^ z) (let e : suc (m * 2) ≡ n = omega arith in e)),
    )
