use Rattle.std.proofs.Common.{◌≡◌, ℕ, ◌+◌, ◌-◌, ◌≤◌, List, [], ◌∷◌, length, refl, sym, ap, subst, arith, lit<, lit≤}
use Rattle.fields.specs.Fields.{numbers7}
use Rattle.sift.specs.Interpolation.{Distinct}
use Rattle.sift.specs.Received.{NonZero}
use Rattle.sift.proofs.Concrete.{below_by, nonzero_by, distinct_by, located_short}
use Rattle.sift.proofs.tests.a_pair_gives_its_word.Goals as goal

pub new-received-requires : goal.new-received-requires
new-received-requires g c =
    record {
      points = below_by 7 (1 ∷ 2 ∷ 3 ∷ 4 ∷ 5 ∷ 6 ∷ []) tt;
      multipliers = below_by 7 (1 ∷ 1 ∷ 1 ∷ 1 ∷ 1 ∷ 1 ∷ []) tt;
      shares = below_by 7 (0 ∷ 0 ∷ 0 ∷ 5 ∷ 6 ∷ 0 ∷ []) tt;
      a_multiplier_each = refl;
      a_share_each = refl;
    }

pub invariant_of-sieve : goal.invariant_of-sieve
invariant_of-sieve g c =
    record {
      distinct = subst Distinct (sym c.new-received.ensures.points) (distinct_by (1 ∷ 2 ∷ 3 ∷ 4 ∷ 5 ∷ 6 ∷ []) tt);
      points_nonzero = subst NonZero (sym c.new-received.ensures.points) (nonzero_by (1 ∷ 2 ∷ 3 ∷ 4 ∷ 5 ∷ 6 ∷ []) tt);
      multipliers_nonzero = subst NonZero (sym c.new-received.ensures.multipliers) (nonzero_by (1 ∷ 1 ∷ 1 ∷ 1 ∷ 1 ∷ 1 ∷ []) tt);
      fewer = subst (λ (αs : List ℕ). 2 ≤ length αs) (sym c.new-received.ensures.points) (lit≤ tt);
      first_row = below_by 7 (6 ∷ 6 ∷ []) tt;
      second_row = below_by 7 (4 ∷ 1 ∷ 3 ∷ []) tt;
    }

pub sift-found-requires : goal.sift-found-requires
sift-found-requires g c =
    let six : length c.new-received.result.points.now ≡ 6 = ap length c.new-received.ensures.points in
    record {
      first = below_by 7 (2 ∷ []) tt;
      second = below_by 7 (3 ∷ 1 ∷ []) tt;
      low = located_short numbers7 (6 ∷ 6 ∷ []) (4 ∷ 1 ∷ 3 ∷ []) (2 ∷ []) (3 ∷ 1 ∷ []) (length c.new-received.result.points.now - 2 + 1)
          (omega arith) (omega arith);
      room = omega arith;
      room_too = omega arith;
      message_room = lit< tt;
      word_room = omega arith;
    }
