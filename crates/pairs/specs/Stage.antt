-- From received shares to candidates, in this order: the pair (0, 1); the question for the roots of an interpolant, its room and the answer; the second entries
-- of the two rows of the basis; what is asked of shares; when pairs are the right ones to sift; and when candidates are all that are near the shares. The last
-- two are of every code with the given points and multipliers, of which there is one.
use Rattle.std.specs.Prelude.{◌≡◌, ℕ, suc, ◌+◌, ◌*◌, ◌<◌, ◌≤◌, List, [], ◌∷◌, length, replicate}
use Rattle.decoding.specs.Code.{Code}
use Rattle.decoding.specs.Setting.{Accepted}
use Rattle.decoding.specs.Pairs.{Pairs}
use Rattle.decoding.specs.Theorems.{WordRows}
use Rattle.fields.specs.Numbers.{Numbers, field_of}
use Rattle.polynomials.specs.Series.{poly}
use Rattle.rolls.specs.Order.{Has, Lists}
use Rattle.codes.specs.declared.Setting.{Setting}
use Rattle.stages.specs.Basis.{basis}
use Rattle.leaves.specs.declared.pairs.Pair.{Pair}
use Rattle.interpolant.specs.declared.Shape.{Shape}
use Rattle.interpolant.specs.Problems.{Decodes, room}
use Rattle.sift.specs.Received.{Placed, Describes}
use Rattle.candidates.specs.declared.records.Candidate.{Candidate}
use Rattle.candidates.specs.Order.{in_order}
use Rattle.candidates.specs.Telling.{Close}
use Rattle.candidates.specs.Sifting.{Usable, OneOf}
use Rattle.roots.specs.Asked.{Asked, need}
use Rattle.roots.specs.Answer.{Listed}

-- the pair f₁ = 0, f₂ = 1
abbrev pub unit_pair : Pair
unit_pair = record { first = replicate 32 0; second = 1 ∷ replicate 31 0 }

-- the question for the roots of a form, in runs as an interpolant of this shape has them
abbrev pub question : Shape → List ℕ → Asked
question S form = record { form = form; ℓ = S.degree; c = S.bound; w₁ = S.w1; w₂ = S.w2 }

-- n places and a work area of so many numbers for a shape: limits of its sizes, and room for the form with what finds it, and with what finds its roots
pub record Fits (S : Shape) (n numbers : ℕ) : Type 0 where
  pub some : 0 < S.degree
  pub few : S.degree ≤ 8
  pub short : S.bound ≤ 400
  pub first : S.w1 ≤ 31
  pub second : S.w2 ≤ 31
  pub interpolant : suc S.degree * S.bound + (n + n + room S) ≤ numbers
  pub roots : suc S.degree * S.bound + need (question S []) ≤ numbers

-- the area lists the n roots of an interpolant of the basis with the second entries h11, h21
pub record RootsOf (F : Numbers) (S : Shape) (αs h11 h21 : List ℕ) (n : ℕ) (area : List Pair) : Type 0 where
  pub form : List ℕ
  pub decodes : Decodes F S αs h11 h21 form
  pub listed : Listed F (question S form) n area

-- for the points αs, the multipliers vs, the threshold k and the shares rs
module _ (F : Numbers) (αs vs : List ℕ) (k : ℕ) (rs : List ℕ) where
  -- the second entries of the rows of the basis
  abbrev pub h11 : List ℕ
  h11 = (basis F αs vs k rs).rows.before.b

  abbrev pub h21 : List ℕ
  h21 = (basis F αs vs k rs).rows.last.b

  -- shares of 32 places at most and an accepted setting
  pub record Listable (x : Setting) : Type 0 where
    pub placed : Placed F αs vs rs
    pub few : length αs ≤ 32
    pub accepted : Accepted (length αs) k x.radius x.multiplicity x.list_limit

  -- the right pairs: whatever rows with these second entries are meant
  abbrev pub Right : Setting → List Pair → Type 0
  Right x pairs =
      (C : Code (field_of F)) → Describes F αs vs C → k + C.D ≡ C.n
      → (T : WordRows (field_of F) C (poly F rs)) → poly F h11 ≡ T.P.b → poly F h21 ≡ T.L.b
      → Pairs (field_of F) C T x.radius x.multiplicity x.list_limit (OneOf F pairs)

  -- the pairs are the right ones, and each of them can be sifted
  pub record ToSift (x : Setting) (pairs : List Pair) : Type 0 where
    pub right : Right x pairs
    pub usable : (p : Pair) → Has p pairs → Usable F (length αs) k h11 h21 p

  -- the items are the candidates of all codewords within τ of the shares, in order and each once
  abbrev pub AllNear : ℕ → List Candidate → Type 0
  AllNear τ items =
      (C : Code (field_of F)) → Describes F αs vs C → k + C.D ≡ C.n → Lists in_order (Close F C k (poly F rs) τ) items
