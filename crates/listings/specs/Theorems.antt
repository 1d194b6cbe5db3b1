-- What the definition of a listing means: two listings of the same shares are one list; and the records near the shares, which are defined by numbers alone, are
-- the candidates of the decoder's theory.
use Rattle.std.specs.Prelude.{◌≡◌, ℕ, ◌<◌, ◌≤◌, ◌↔◌, List, length}
use Rattle.fields.specs.Numbers.{Numbers, AllBelow}
use Rattle.polynomials.specs.Series.{poly}
use Rattle.codes.specs.Opening.{Given}
use Rattle.codes.specs.Codewords.{Meant}
use Rattle.candidates.specs.declared.records.Candidate.{Candidate}
use Rattle.candidates.specs.Telling.{Close}
use Rattle.listings.specs.Listing.{Within, Listing}

abbrev pub ListingUnique : Type 0
ListingUnique = (F : Numbers) (g : Given) (rs : List ℕ) (xs ys : List Candidate) → Listing F g rs xs → Listing F g rs ys → xs ≡ ys

abbrev pub WithinMeant : Type 0
WithinMeant =
    (F : Numbers) (g : Given) (M : Meant F (length g.points) g.threshold g.points g.multipliers) → length g.points ≤ 32
    → g.threshold < length g.points → (rs : List ℕ) → AllBelow F.q rs → (c : Candidate)
    → Within F g rs c ↔ Close F M.code g.threshold (poly F rs) g.setting.radius c
