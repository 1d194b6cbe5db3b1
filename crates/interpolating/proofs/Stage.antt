-- The checks of the stage, one after another, and what it writes.
use Rattle.std.proofs.Common.{◌≡◌, ℕ, suc, ◌+◌, ◌*◌, ◌≤◌, Bool, true, false, cond, ◌||◌, ltb, List, length, take, drop, ℤ, pos, negsuc, Some, None, Err, Option, Result, sym, refl, ap, ◌∙◌, subst, ap₂, add-one, arith, ltb-false}
use Rattle.fields.specs.Numbers.{Numbers}
use Rattle.faults.specs.declared.ListingFault.{ListingFault}
use Rattle.faults.specs.declared.ListingFault.TheVariants.{NegativeWeight, ResultArea, WorkArea}
use Rattle.codes.specs.declared.Setting.{Setting}
use Rattle.codes.specs.First.{or_else, when}
use Rattle.codes.specs.Settings.{small}
use Rattle.codes.proofs.Firsts.{when_none, or_else_none}
use Rattle.stages.specs.Basis.{Basis, basis, w1, w2}
use Rattle.interpolant.specs.declared.Shape.{Shape}
use Rattle.interpolant.specs.Problems.{basis_problem, Solution, Decodes}
use Rattle.interpolating.specs.Interpolation.{negative, amount, shape_of, size_of, work_of, weight_fault, room_fault, area_fault, shares_fault, Interpolated, Written}

-- weights that pass their check are numbers
not_negative : (z : ℤ) → negative z ≡ false → pos (amount z) ≡ z
not_negative (pos n) e = refl
not_negative (negsuc n) e = absurd (let z : ◌≡◌ {A = ℕ} 0 1 = cc in omega arith)

neither : (a b : Bool) → a || b ≡ false → (a ≡ false) × (b ≡ false)
neither true b e = absurd (let z : ◌≡◌ {A = ℕ} 0 1 = cc in omega arith)
neither false b e = (refl, e)

pub weights_are : (a b : ℤ) → None ≡ weight_fault a b → (pos (amount a) ≡ a) × (pos (amount b) ≡ b)
weights_are a b e =
    let (u, v) = neither (negative a) (negative b) (when_none (negative a || negative b) NegativeWeight (sym e)) in
    (not_negative a u, not_negative b v)

-- the room that a shape takes
pub wanted : (S : Shape) (x : Setting) (a b : ℤ) → S ≡ shape_of x a b → (S.degree + 1) * S.bound ≡ size_of x
wanted S x a b e = ap (λ (T : Shape). (T.degree + 1) * T.bound) e ∙ ap (λ (n : ℕ). n * (x.multiplicity * x.radius)) (add-one x.list_limit)

least_work : (t : Bool) → 32000 ≤ cond t 32000 400000
least_work true = omega arith
least_work false = omega arith

-- areas that pass their check are long enough
pub areas_are : (n : ℕ) (x : Setting) (z m w : ℕ) → None ≡ room_fault n x z m w → (z ≤ m) × (32000 ≤ w)
areas_are n x z m w e =
    let (u, v) = or_else_none (when (ltb m z) (ResultArea m)) (when (ltb w (work_of n x)) (WorkArea w)) (sym e) in
    let a = ltb-false m z (when_none (ltb m z) (ResultArea m) u) in
    let b = ltb-false w (work_of n x) (when_none (ltb w (work_of n x)) (WorkArea w) v) in
    let c = least_work (small n x.multiplicity) in
    (a, omega arith)

module _ (F : Numbers) (αs vs : List ℕ) (k : ℕ) (x : Setting) (rs : List ℕ) where
  abbrev B : Basis
  B = basis F αs vs k rs

  pub weight_refused : (m w : ℕ) (a b : ℤ) (e : ListingFault) → a ≡ w1 x.radius (basis F αs vs k rs) → b ≡ w2 x.radius (basis F αs vs k rs)
      → Some e ≡ weight_fault a b → Some e ≡ shares_fault F αs vs k x rs m w
  weight_refused m w a b e ea eb h =
      sym (ap (λ (o : Option ListingFault). or_else o (area_fault (length αs) x m w)) (sym (h ∙ ap₂ weight_fault ea eb)))

  pub weight_passed : (m w : ℕ) (a b : ℤ) (o : Option ListingFault) → a ≡ w1 x.radius (basis F αs vs k rs) → b ≡ w2 x.radius (basis F αs vs k rs)
      → None ≡ weight_fault a b → o ≡ area_fault (length αs) x m w → o ≡ shares_fault F αs vs k x rs m w
  weight_passed m w a b o ea eb h u =
      u ∙ ap (λ (z : Option ListingFault). or_else z (area_fault (length αs) x m w)) (h ∙ ap₂ weight_fault ea eb)

  pub left_behind : {U : Type 0} (r : Result U ListingFault) (y : ListingFault) (xs : List ℕ) → r ≡ Err y → Written F αs vs k x rs r xs xs
  left_behind {U} r y xs e = subst (λ (z : Result U ListingFault). Written F αs vs k x rs z xs xs) (sym e) refl

  pub interpolated : (S : Shape) (h11 h21 before after : List ℕ)
      → S ≡ shape_of x (w1 x.radius (basis F αs vs k rs)) (w2 x.radius (basis F αs vs k rs))
      → h11 ≡ (basis F αs vs k rs).rows.before.b → h21 ≡ (basis F αs vs k rs).rows.last.b
      → Solution F (basis_problem F S αs h11 h21) (length αs) S.multiplicity (take (suc S.degree * S.bound) after)
      → Decodes F S αs h11 h21 (take (suc S.degree * S.bound) after)
      → drop (suc S.degree * S.bound) after ≡ drop (suc S.degree * S.bound) before
      → Interpolated F αs vs k x rs before after
  interpolated S h11 h21 before after es e1 e2 s d r =
      record {
        solution =
            subst (λ (l : List ℕ). Solution F (basis_problem F S' αs h1 l) (length αs) x.multiplicity (take (size_of x) after)) e2
            (subst (λ (l : List ℕ). Solution F (basis_problem F S' αs l h21) (length αs) x.multiplicity (take (size_of x) after)) e1
            (subst (λ (T : Shape). Solution F (basis_problem F T αs h11 h21) (length αs) T.multiplicity (take (suc T.degree * T.bound) after)) es s));
        decodes =
            subst (λ (l : List ℕ). Decodes F S' αs h1 l (take (size_of x) after)) e2
            (subst (λ (l : List ℕ). Decodes F S' αs l h21 (take (size_of x) after)) e1
            (subst (λ (T : Shape). Decodes F T αs h11 h21 (take (suc T.degree * T.bound) after)) es d));
        rest = subst (λ (T : Shape). drop (suc T.degree * T.bound) after ≡ drop (suc T.degree * T.bound) before) es r;
      }
    where
      S' : Shape
      S' = shape_of x (w1 x.radius (basis F αs vs k rs)) (w2 x.radius (basis F αs vs k rs))

      h1 : List ℕ
      h1 = (basis F αs vs k rs).rows.before.b
