-- The syndrome of the shares rs, for the points αs and the multipliers vs of as many places.
use Rattle.std.specs.Prelude.{ℕ, ◌-◌, cond, List, [], ◌∷◌, ◌++◌, length, ◌==◌, slice_index}
use Rattle.fields.specs.Numbers.{Numbers}
use Rattle.stages.specs.Coefficients.{listed, sum, product, power}

module _ (F : Numbers) (αs vs : List ℕ) where
  -- 1 / (v j ∏ (α j - α h)) over the other places h
  unfoldable pub dual : ℕ → ℕ
  dual j =
      F.mul (F.inv (slice_index vs j))
      (F.inv (product F (length αs) (λ h. cond (h == j) 1 (F.add (slice_index αs j) (F.neg (slice_index αs h))))))

  -- the sum of r j (dual j) (α j) ^ (D - 1 - i): the coefficient of x ^ i, for i < D
  unfoldable pub coefficient : ℕ → List ℕ → ℕ → ℕ
  coefficient D rs i =
      sum F (length αs) (λ j. F.mul (F.mul (slice_index rs j) (dual j)) (power F (slice_index αs j) (D - 1 - i)))

  -- the D coefficients, and a zero as the coefficient of x ^ D
  unfoldable pub syndrome : ℕ → List ℕ → List ℕ
  syndrome D rs = listed D (coefficient D rs) ++ 0 ∷ []
