-- Received shares as lists of numbers, in this order: what is asked of the points, multipliers and shares; that a code has these points and
-- multipliers; and what the sift by a polynomial answers, by the relation Passes of the decoding theory.
use Rattle.std.specs.Prelude.{◌≡◌, ℕ, ◌<◌, ◌≤◌, ◌≢◌, List, length, Some, None, Option, slice_index}
use Rattle.decoding.specs.Code.{Code, codeword}
use Rattle.decoding.specs.Words.{Same, distance}
use Rattle.decoding.specs.Sift.{Passes}
use Rattle.fields.specs.Numbers.{Numbers, AllBelow, Element, elem, field_of}
use Rattle.polynomials.specs.Series.{poly}
use Rattle.sift.specs.Interpolation.{Distinct}

-- no number of the list is 0
abbrev pub NonZero : List ℕ → Type 0
NonZero xs = (j : ℕ) → j < length xs → slice_index xs j ≢ 0

-- the numbers from place m on are 0
abbrev pub Ends : ℕ → List ℕ → Type 0
Ends m xs = (j : ℕ) → m ≤ j → slice_index xs j ≡ 0

-- a point, a multiplier and a share for each place, all elements; the points are distinct, and no point and no multiplier is 0
pub record Placed (F : Numbers) (αs vs rs : List ℕ) : Type 0 where
  pub points : AllBelow F.q αs
  pub multipliers : AllBelow F.q vs
  pub shares : AllBelow F.q rs
  pub a_multiplier_each : length vs ≡ length αs
  pub a_share_each : length rs ≡ length αs
  pub distinct : Distinct αs
  pub points_nonzero : NonZero αs
  pub multipliers_nonzero : NonZero vs

-- the code C has these points and multipliers
pub record Describes (F : Numbers) (αs vs : List ℕ) (C : Code (field_of F)) : Type 0 where
  pub places : C.n ≡ length αs
  pub points : (j : ℕ) → C.α j ≡ elem F (slice_index αs j)
  pub multipliers : (j : ℕ) → C.v j ≡ elem F (slice_index vs j)

-- The sift by the polynomial w for the shares r, the threshold k and the radius τ
module _ (F : Numbers) (C : Code (field_of F)) (k τ : ℕ) (r w : ℕ → Element F) where
  -- the word passes, and no other: with its message, its distance d from the shares, and zeros beyond both
  pub record Passed (d : ℕ) (message word : List ℕ) : Type 0 where
    pub message_all : AllBelow F.q message
    pub message_ends : Ends k message
    pub word_all : AllBelow F.q word
    pub word_ends : Ends C.n word
    pub issued : Same C.n (poly F word) (codeword (field_of F) C k (poly F message))
    pub passes : Passes (field_of F) C k τ r w (poly F word)
    pub apart : d ≡ distance (field_of F) C.n r (poly F word)
    pub only : (c : ℕ → Element F) → Passes (field_of F) C k τ r w c → Same C.n c (poly F word)

  -- no word passes
  abbrev pub NonePasses : Type 0
  NonePasses = (c : ℕ → Element F) → Passes (field_of F) C k τ r w c → ⊥

  -- what the sift finds: the distance of the word that passes, or that none passes
  abbrev pub Found : Option ℕ → List ℕ → List ℕ → Type 0
  Found (Some d) message word = Passed d message word
  Found None message word = NonePasses

  -- what the sift answers and leaves in the areas: zeros where no word passes
  abbrev pub Sifted : Option ℕ → List ℕ → List ℕ → Type 0
  Sifted (Some d) message word = Passed d message word
  Sifted None message word = NonePasses × Ends 0 message × Ends 0 word
