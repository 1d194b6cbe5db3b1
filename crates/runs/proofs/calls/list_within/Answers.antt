use Rattle.std.proofs.Common.{◌≡◌, ℕ, min, length, take, refl, subst, arith, length-take}
use Rattle.collections.specs.Standing.{standing, shares}
use Rattle.listings.specs.Calls.{listing_fault}
use Rattle.runs.specs.Law.{RightList, listing_reply}
use Rattle.runs.proofs.calls.list_within.Goals as goal

pub returns : goal.returns
returns g c =
    let F = g.F.Field.numbers in
    let b = standing c.args.c.now.kept in
    let room : length (take c.min-room.result c.args.work.now) ≡ min c.args.numbers (length c.args.work.now) = simp length-take (omega arith) in
    record {
      law =
          record {
            says = subst (λ (w : ℕ). RightList F b (listing_fault F.q b (shares b) c.args.records w) (listing_reply c.list_own.result)) room c.list_own.ensures;
            leaves = refl;
          };
      wiped = c.drop-guard.ensures;
    }
