-- The worked cases as one statement. Modulo 7, with the points 1 to 6, multipliers 1 and the threshold 2, the shares are 0 0 0 5 6 0: their syndrome, rows and
-- weights, the pair of a codeword, and the codewords near them; then constant words; then products and settings.
use Rattle.std.specs.Prelude.{◌≡◌, ℕ, suc, ◌-◌, List, [], ◌∷◌, map, replicate, pos, slice_index}
use Rattle.fields.specs.Fields.{numbers7, WorkedProducts}
use Rattle.codes.specs.Codewords.{codeword}
use Rattle.codes.specs.Worked.{WorkedSettings}
use Rattle.stages.specs.Coefficients.{listed, sum}
use Rattle.stages.specs.Euclid.{row}
use Rattle.stages.specs.Basis.{Basis, basis, w1, w2}
use Rattle.stages.specs.Words.{distance}
use Rattle.examples.specs.Messages.{near}

abbrev pub points : List ℕ
points = 1 ∷ 2 ∷ 3 ∷ 4 ∷ 5 ∷ 6 ∷ []

abbrev pub multipliers : List ℕ
multipliers = replicate 6 1

abbrev pub shares : List ℕ
shares = 0 ∷ 0 ∷ 0 ∷ 5 ∷ 6 ∷ 0 ∷ []

abbrev pub sheet : Basis
sheet = basis numbers7 points multipliers 2 shares

-- the sum and the product of polynomials modulo 7, the first n coefficients
abbrev pub plus : ℕ → List ℕ → List ℕ → List ℕ
plus n p q = listed n (λ i. numbers7.add (slice_index p i) (slice_index q i))

abbrev pub times : ℕ → List ℕ → List ℕ → List ℕ
times n p q = listed n (λ i. sum numbers7 (suc i) (λ j. numbers7.mul (slice_index p j) (slice_index q (i - j))))

-- the pair f1 = 2, f2 = 3 + x
abbrev pub f1 : List ℕ
f1 = 2 ∷ []

abbrev pub f2 : List ℕ
f2 = 3 ∷ 1 ∷ []

-- 3 (x - 1) (x - 2) (x - 3): up to a factor the locator of the places 0, 1 and 2
abbrev pub three_errors : List ℕ
three_errors = times 5 (3 ∷ []) (times 5 (6 ∷ 1 ∷ []) (times 5 (5 ∷ 1 ∷ []) (4 ∷ 1 ∷ [])))

pub record WorkedCases : Type 0 where
  -- S = 3 + x + x² + 6x³
  pub syndrome : sheet.S ≡ 3 ∷ 1 ∷ 1 ∷ 6 ∷ 0 ∷ []
  -- h10 = 3 + 4x + 2x², h11 = 6 + 6x
  pub before : sheet.rows.before ≡ row (3 ∷ 4 ∷ 2 ∷ 0 ∷ 0 ∷ []) (6 ∷ 6 ∷ 0 ∷ 0 ∷ 0 ∷ [])
  -- h20 = 2, h21 = 4 + x + 3x²
  pub last : sheet.rows.last ≡ row (2 ∷ 0 ∷ 0 ∷ 0 ∷ 0 ∷ []) (4 ∷ 1 ∷ 3 ∷ 0 ∷ 0 ∷ [])
  -- with the radius 3
  pub first_weight : w1 3 sheet ≡ pos 0
  pub second_weight : w2 3 sheet ≡ pos 1
  -- the word of the message 1 + x differs from the shares at the places 0, 1 and 2, and its pair is f1, f2: f1 h11 + f2 h21 is their locator, up to a factor
  pub word : codeword numbers7 points multipliers (1 ∷ 1 ∷ []) ≡ 2 ∷ 3 ∷ 4 ∷ 5 ∷ 6 ∷ 0 ∷ []
  pub word_distance : distance 6 shares (2 ∷ 3 ∷ 4 ∷ 5 ∷ 6 ∷ 0 ∷ []) ≡ 3
  pub pair : plus 5 (times 5 f1 sheet.rows.before.b) (times 5 f2 sheet.rows.last.b) ≡ three_errors
  -- of the 49 messages two have a word within 3 of the shares, and one within 2
  pub within_three : near numbers7 points multipliers shares 2 3 ≡ (0 ∷ 0 ∷ []) ∷ (1 ∷ 1 ∷ []) ∷ []
  pub within_two : near numbers7 points multipliers shares 2 2 ≡ (0 ∷ 0 ∷ []) ∷ []
  -- with the threshold 1 and the shares 1 to 6, the words within 5 are the six constant ones other than zero
  pub constants : map (codeword numbers7 points multipliers) (near numbers7 points multipliers points 1 5)
      ≡ replicate 6 1 ∷ replicate 6 2 ∷ replicate 6 3 ∷ replicate 6 4 ∷ replicate 6 5 ∷ replicate 6 6 ∷ []
  -- 2·9 = 1 in the field of 16 elements, 128·2 = 29 in that of 256, 2·465 = 1 modulo 929
  pub products : WorkedProducts
  -- with n = 6, k = 2, τ = 3 and s = 2, ℓ = 3 is not accepted and ℓ = 4 is; and what is proposed
  pub settings : WorkedSettings
