-- What the stages list is the listing of the shares.
use Rattle.std.proofs.Common.{◌≡◌, ℕ, ◌+◌, ◌-◌, ◌≤◌, List, ◌++◌, length, take, replicate, None, sym, refl, subst, arith, length-take}
use Rattle.fields.specs.Numbers.{Numbers, AllBelow}
use Rattle.codes.specs.Opening.{Given, first_fault}
use Rattle.codes.specs.Exact.{Fit}
use Rattle.codes.specs.Codewords.{Meant}
use Rattle.codes.proofs.Exactly.{opens_exactly}
use Rattle.codes.proofs.Meanings.{codewords_meant}
use Rattle.sift.specs.Received.{Describes}
use Rattle.candidates.specs.declared.records.Candidate.{Candidate}
use Rattle.candidates.specs.Telling.{blank}
use Rattle.pairs.specs.Stage.{AllNear}
use Rattle.listings.specs.Calls.{Listed}
use Rattle.listings.proofs.Meaning.{restated}

-- the first n records of the area are all candidates near the shares, and blanks follow them
pub found : (F : Numbers) (g : Given) (rs : List ℕ) (n : ℕ) (area : List Candidate) → first_fault F.q g ≡ None → AllBelow F.q rs → n ≤ g.setting.list_limit
    → g.setting.list_limit ≤ length area → AllNear F g.points g.multipliers g.threshold rs g.setting.radius (take n area)
    → area ≡ take n area ++ replicate (length area - n) blank → Listed F g rs n area
found F g rs n area e below fits room near beyond =
    record {
      room = omega arith;
      listing =
          record {
            all = restated F g M f.code.places.1 f.code.dimension.1 rs below (take n area) (near M.code described sum);
            few = let b = length-take n area in omega arith;
          };
      beyond = beyond;
    }
  where
    f : Fit F.q g
    f = (opens_exactly F.q g).0 e

    M : Meant F (length g.points) g.threshold g.points g.multipliers
    M = codewords_meant F (length g.points) g.threshold g.points g.multipliers refl f.code

    described : Describes F g.points g.multipliers M.code
    described = record { places = M.places; points = M.point; multipliers = M.multiplier }

    sum : g.threshold + M.code.D ≡ M.code.n
    sum = let a = M.checks in let b = M.places in let d = f.code.dimension in omega arith

-- the same by what a program reads of the code
pub found_by : (F : Numbers) (g : Given) (rs αs vs : List ℕ) (k n m : ℕ) (area : List Candidate) → αs ≡ g.points → vs ≡ g.multipliers → k ≡ g.threshold
    → first_fault F.q g ≡ None → AllBelow F.q rs → n ≤ g.setting.list_limit → g.setting.list_limit ≤ m → length area ≡ m
    → AllNear F αs vs k rs g.setting.radius (take n area) → area ≡ take n area ++ replicate (m - n) blank → Listed F g rs n area
found_by F g rs αs vs k n m area a b t e below fits room long near beyond =
    found F g rs n area e below fits (omega arith)
    (subst (λ (z : List ℕ). AllNear F z g.multipliers g.threshold rs g.setting.radius (take n area)) a
    (subst (λ (z : List ℕ). AllNear F αs z g.threshold rs g.setting.radius (take n area)) b
    (subst (λ (z : ℕ). AllNear F αs vs z rs g.setting.radius (take n area)) t near)))
    (subst (λ (z : ℕ). area ≡ take n area ++ replicate (z - n) blank) (sym long) beyond)
