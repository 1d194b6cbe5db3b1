-- Listings of the worked shares: modulo 7, with the points 1 to 6, multipliers 1 and the threshold 2, the shares are 0 0 0 5 6 0; then the shares 1 to 6
-- with the threshold 1.
use Rattle.std.specs.Prelude.{ℕ, List, [], ◌∷◌, replicate}
use Rattle.fields.specs.Fields.{numbers7}
use Rattle.codes.specs.Opening.{Given}
use Rattle.codes.specs.Settings.{setting}
use Rattle.candidates.specs.declared.records.Candidate.{Candidate}
use Rattle.listings.specs.Listing.{padded, Listing}
use Rattle.examples.specs.Worked.{points, multipliers, shares}

-- these places with the threshold k, the radius τ, the multiplicity s and the list limit ℓ
abbrev pub opened_with : (k τ s ℓ : ℕ) → Given
opened_with k τ s ℓ = record { points = points; multipliers = multipliers; threshold = k; setting = setting τ s ℓ }

-- a record of a listing
abbrev pub listed_as : ℕ → List ℕ → List ℕ → Candidate
listed_as d message word = record { distance = d; message = padded message; word = padded word }

-- the constant word of c, at distance 5 from the shares 1 to 6
abbrev pub constant : ℕ → Candidate
constant c = listed_as 5 (c ∷ []) (replicate 6 c)

pub record ListedCases : Type 0 where
  -- with the radius 3 the listing has both words, and with the radius 2, multiplicity 1 and list limit 1 only the first
  pub two_listed : Listing numbers7 (opened_with 2 3 2 4) shares
      (listed_as 2 (0 ∷ 0 ∷ []) (replicate 6 0) ∷ listed_as 3 (1 ∷ 1 ∷ []) (2 ∷ 3 ∷ 4 ∷ 5 ∷ 6 ∷ 0 ∷ []) ∷ [])
  pub one_listed : Listing numbers7 (opened_with 2 2 1 1) shares (listed_as 2 (0 ∷ 0 ∷ []) (replicate 6 0) ∷ [])
  -- with the threshold 1 and the shares 1 to 6, the words within 5 are the six constant ones other than zero
  pub constants : Listing numbers7 (opened_with 1 5 5 6) points (constant 1 ∷ constant 2 ∷ constant 3 ∷ constant 4 ∷ constant 5 ∷ constant 6 ∷ [])
