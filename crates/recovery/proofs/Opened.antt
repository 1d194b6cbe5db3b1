-- What an open collection and the shares of a source give the stages: all that they ask for.
use Rattle.std.proofs.Common.{◌≡◌, ℕ, List, length, Some, None, sym, subst, arith}
use Rattle.fields.specs.Numbers.{Numbers, AllBelow}
use Rattle.codes.specs.Opening.{Given, first_fault}
use Rattle.codes.specs.Exact.{Fit}
use Rattle.codes.proofs.Exactly.{opens_exactly}
use Rattle.collections.specs.Book.{Fair}
use Rattle.collections.proofs.Booked.{on_page}
use Rattle.collections.specs.Standing.{given_of, opened_in, Sound}
use Rattle.collections.specs.declared.Kept.{Kept}
use Rattle.collections.specs.declared.Opened.{Opened}
use Rattle.sift.specs.Received.{Placed}
use Rattle.pairs.specs.Stage.{Listable}

pub passed : (q : ℕ) (K : Kept) (o : Opened) → opened_in K.page ≡ Some o → Sound q K → first_fault q (given_of o) ≡ None
passed q K o e s = (subst (Fair q) (on_page K.page o e) s.1).passed

pub placed : (F : Numbers) (g : Given) (rs : List ℕ) → Fit F.q g → AllBelow F.q rs → length rs ≡ length g.points → Placed F g.points g.multipliers rs
placed F g rs f below long =
    record {
      points = λ i h. (f.code.points_non_zero i h).1;
      multipliers = λ i h. (f.code.multipliers_non_zero i (let e = f.same in omega arith)).1;
      shares = below;
      a_multiplier_each = f.same;
      a_share_each = long;
      distinct = f.code.points_distinct;
      points_nonzero = λ i h e. let z = (f.code.points_non_zero i h).0 in omega arith;
      multipliers_nonzero = λ i h e. let s = f.same in let z = (f.code.multipliers_non_zero i (omega arith)).0 in omega arith;
    }

pub listable : (F : Numbers) (g : Given) (rs αs vs : List ℕ) (k : ℕ) → αs ≡ g.points → vs ≡ g.multipliers → k ≡ g.threshold
    → first_fault F.q g ≡ None → AllBelow F.q rs → length rs ≡ length g.points → Listable F αs vs k rs g.setting
listable F g rs αs vs k a b t e below long =
    let f = (opens_exactly F.q g).0 e in
    subst (λ (z : List ℕ). Listable F z vs k rs g.setting) (sym a)
    (subst (λ (z : List ℕ). Listable F g.points z k rs g.setting) (sym b)
    (subst (λ (z : ℕ). Listable F g.points g.multipliers z rs g.setting) (sym t)
    (record { placed = placed F g rs f below long; few = f.code.places.1; accepted = f.setting })))
