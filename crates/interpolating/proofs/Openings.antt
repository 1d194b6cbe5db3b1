-- What an open collection that is sound is known to have.
use Rattle.std.proofs.Common.{◌≡◌, ℕ, ◌≤◌, Bool, true, false, ◌||◌, eqb, leb, List, length, get_or, take, Some, None, Option, ap, ◌∙◌, subst, arith, length-take, leb-false}
use lib.ListN.{length-map}
use Rattle.gathering.specs.Shares.{number, Gathered}
use Rattle.fields.specs.Numbers.{AllBelow}
use Rattle.decoding.specs.Setting.{Accepted}
use Rattle.codes.specs.Opening.{Given, unfit, first_unfit, count_fault, threshold_fault, place_fault, setting_fault, first_fault}
use Rattle.codes.proofs.Firsts.{or_else_none, below_none}
use Rattle.codes.proofs.Opened.{counted, places, accepted}
use Rattle.collections.specs.Book.{Fair}
use Rattle.collections.proofs.Booked.{on_page}
use Rattle.collections.specs.Standing.{given_of, opened_in, Sound}
use Rattle.collections.specs.declared.Kept.{Kept}
use Rattle.collections.specs.declared.Opened.{Opened}

pub record Fitting (q : ℕ) (g : Given) : Type 0 where
  pub points : AllBelow q g.points
  pub multipliers : AllBelow q g.multipliers
  pub same : length g.multipliers ≡ length g.points
  pub short : length g.points ≤ 32
  pub accepts : Accepted (length g.points) g.threshold g.setting.radius g.setting.multiplicity g.setting.list_limit

second : (a b : Bool) → a || b ≡ false → b ≡ false
second true b e = absurd (let z : ◌≡◌ {A = ℕ} 0 1 = cc in omega arith)
second false b e = e

fit_below : (q : ℕ) (xs : List ℕ) → first_unfit q xs ≡ None → AllBelow q xs
fit_below q xs e k h =
    leb-false q (get_or xs k 0) (second (eqb (get_or xs k 0) 0) (leb q (get_or xs k 0)) (below_none (length xs) (unfit q xs) e k h))

passed : (q : ℕ) (g : Given) → first_fault q g ≡ None → Fitting q g
passed q g e =
    let (a, r) = or_else_none (count_fault q g) _ e in
    let (b, s) = or_else_none (threshold_fault g) _ r in
    let (p, t) = or_else_none (place_fault q g) (setting_fault g) s in
    let (u, v) = counted q g a in
    let (x, y, z) = places q g p in
    record { points = fit_below q g.points x; multipliers = fit_below q g.multipliers z; same = v; short = u.1; accepts = accepted g t }

pub fitting : (q : ℕ) (K : Kept) (o : Opened) → opened_in K.page ≡ Some o → Sound q K → Fitting q (given_of o)
fitting q K o e s = passed q (given_of o) (subst (Fair q) (on_page K.page o e) s.1).passed

pub points_long : (o : Opened) → length (take o.code.count o.code.points) ≡ o.code.count
points_long o = simp length-take (omega arith)

pub gathered_long : (q n m : ℕ) (told : List (Option ℕ)) (at : List ℕ) → n ≡ m → Gathered q n told at → length (take m at) ≡ m
gathered_long q n m told at e s =
    subst (λ (k : ℕ). length (take k at) ≡ k) e (ap length s.shares ∙ length-map told number ∙ s.count)
