use Rattle.std.proofs.Common.{ℕ, ◌≤◌, List, length, take, sym, subst, subst₂, arith, length-take}
use Rattle.fields.specs.Numbers.{AllBelow}
use Rattle.candidates.specs.Sifting.{Usable, Roomy, ListsNear}
use Rattle.interpolating.proofs.Bounds.{h11_below, h21_below}
use Rattle.pairs.specs.Stage.{h11, h21, Listable, AllNear}
use Rattle.pairs.proofs.Whole.{roomy, all_near}
use Rattle.pairs.proofs.listing.list_shares.Goals as goal

pub invariant_of-sieve : goal.invariant_of-sieve
invariant_of-sieve g c =
    let F = g.F.Field.numbers in
    let αs = c.args.received.points.now in
    let vs = c.args.received.multipliers.now in
    let rs = c.args.received.shares.now in
    let k = c.from-threshold.result in
    let x = c.args.setting in
    let B = c.find_basis-basis.result in
    let given : Listable F αs vs k rs x = subst (λ (m : ℕ). Listable F αs vs m rs x) (sym c.from-threshold.ensures) c.requires.given in
    let p = given.placed in
    let e₁ = c.find_basis-basis.ensures.h11 in
    let e₂ = c.find_basis-basis.ensures.h21 in
    record {
      distinct = p.distinct;
      points_nonzero = p.points_nonzero;
      multipliers_nonzero = p.multipliers_nonzero;
      fewer = let l = given.accepted.fewer in omega arith;
      first_row = subst (AllBelow F.q) (sym e₁) (h11_below F αs vs k rs p.points p.multipliers p.shares);
      second_row = subst (AllBelow F.q) (sym e₂) (h21_below F αs vs k rs p.points p.multipliers p.shares);
    }

pub sift_pairs-listed-requires : goal.sift_pairs-listed-requires
sift_pairs-listed-requires g c =
    let F = g.F.Field.numbers in
    let αs = c.args.received.points.now in
    let vs = c.args.received.multipliers.now in
    let rs = c.args.received.shares.now in
    let k = c.from-threshold.result in
    let x = c.args.setting in
    let B = c.find_basis-basis.result in
    let pairs = c.find_pairs-count.new.pairs in
    let n = c.find_pairs-count.result in
    let few : n ≤ x.list_limit = c.find_pairs-count.ensures.count in
    let given : Listable F αs vs k rs x = subst (λ (m : ℕ). Listable F αs vs m rs x) (sym c.from-threshold.ensures) c.requires.given in
    let e₁ = c.find_basis-basis.ensures.h11 in
    let e₂ = c.find_basis-basis.ensures.h21 in
    record {
      roomy = subst₂ (λ (u v : List ℕ). Roomy (length αs) k (length u) (length v) (length c.find_pairs-count.new.work)) (sym e₁) (sym e₂)
          (roomy F αs vs k rs x given (length c.find_pairs-count.new.work) (omega arith));
      usable = λ p m.
          subst₂ (λ (u v : List ℕ). Usable F (length αs) k u v p) (sym e₁) (sym e₂)
          (c.find_pairs-count.ensures.pairs.usable p m);
      space = let l = length-take n pairs in omega arith;
    }

pub returns : goal.returns
returns g c =
    let F = g.F.Field.numbers in
    let αs = c.args.received.points.now in
    let vs = c.args.received.multipliers.now in
    let rs = c.args.received.shares.now in
    let k = c.from-threshold.result in
    let x = c.args.setting in
    let B = c.find_basis-basis.result in
    let pairs = c.find_pairs-count.new.pairs in
    let n = c.find_pairs-count.result in
    let items = take c.sift_pairs-listed.result c.sift_pairs-listed.new.slots in
    let few : n ≤ x.list_limit = c.find_pairs-count.ensures.count in
    let given : Listable F αs vs k rs x = subst (λ (m : ℕ). Listable F αs vs m rs x) (sym c.from-threshold.ensures) c.requires.given in
    let e₁ = c.find_basis-basis.ensures.h11 in
    let e₂ = c.find_basis-basis.ensures.h21 in
    let near : ListsNear F αs vs rs (h11 F αs vs k rs) (h21 F αs vs k rs) k x.radius (take n pairs) items =
    subst (λ (τ : ℕ). ListsNear F αs vs rs (h11 F αs vs k rs) (h21 F αs vs k rs) k τ (take n pairs) items) c.from.ensures
    (subst₂ (λ (u v : List ℕ). ListsNear F αs vs rs u v k c.from.result (take n pairs) items) e₁ e₂ c.sift_pairs-listed.ensures.near) in
    record {
      count = let a = c.sift_pairs-listed.ensures.count in let l = length-take n pairs in omega arith;
      listed = subst (λ (m : ℕ). AllNear F αs vs m rs x.radius items) c.from-threshold.ensures
          (all_near F αs vs k rs x given (take n pairs) items c.find_pairs-count.ensures.pairs near);
      beyond = c.sift_pairs-listed.ensures.beyond;
    }
