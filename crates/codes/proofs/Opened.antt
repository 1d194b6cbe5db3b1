-- What the checks of opening leave, where none applies: a valid code and an accepted setting.
use Rattle.std.proofs.Common.{◌≡◌, ℕ, ◌<◌, false, not, ◌||◌, eqb, ltb, leb, List, length, get_or, take, None, Option, sym, ap, ◌∙◌, arith}
use Rattle.std.proofs.lemmas.Bool.Decides.{nat_tests}
use Rattle.std.proofs.lemmas.Bool.{not-false, eqb-false}
use Rattle.std.proofs.lemmas.List.{get_or-take}
use Rattle.decoding.specs.Setting.{Accepted}
use Rattle.faults.specs.declared.CodeFault.{CodeFault}
use Rattle.codes.specs.Valid.{Places, Dimension, NonZero, Distinct}
use Rattle.codes.specs.First.{or_else}
use Rattle.codes.specs.Opening.{Given, unfit, repeats, first_unfit, first_repeat, count_fault, threshold_fault, place_fault, setting_fault, first_fault}
use Rattle.codes.proofs.Acceptance.{exact}
use Rattle.codes.proofs.Firsts.{when_none, or_else_none, mapped_none, below_none, none_of}

-- the first n numbers of an array that begins with a list of n numbers
pub front : (n : ℕ) (xs ys : List ℕ) → take n ys ≡ xs → (i : ℕ) → i < n → get_or ys i 0 ≡ get_or xs i 0
front n xs ys e i h = sym (get_or-take n ys i 0 h) ∙ ap (λ (l : List ℕ). get_or l i 0) e

pub counted : (q : ℕ) (g : Given) → count_fault q g ≡ None → Places q (length g.points) × (length g.multipliers ≡ length g.points)
counted q g e =
    let t = when_none (ltb (length g.points) 2 || (ltb 32 (length g.points) || (leb q (length g.points) || not (eqb (length g.multipliers) (length g.points))))) _ e in
    grind (arith, nat_tests)

pub dimension : (g : Given) → threshold_fault g ≡ None → Dimension (length g.points) g.threshold
dimension g e =
    let t = when_none (eqb g.threshold 0 || leb (length g.points) g.threshold) _ e in
    grind (arith, nat_tests)

fit : (q x : ℕ) → (eqb x 0 || leb q x) ≡ false → (0 < x) × (x < q)
fit q x e = grind (arith, nat_tests)

pub non_zero : (q n : ℕ) (xs ys : List ℕ) → n ≡ length xs → take n ys ≡ xs → first_unfit q xs ≡ None → NonZero q n ys
non_zero q n xs ys l t e i h =
    fit q (get_or ys i 0) (ap (λ (x : ℕ). eqb x 0 || leb q x) (front n xs ys t i h) ∙ below_none (length xs) (unfit q xs) e i (omega arith))

apart : (xs : List ℕ) (i j : ℕ) → i < j → repeats xs j ≡ false → get_or xs i 0 ≡ get_or xs j 0 → ⊥
apart xs i j h e = eqb-false _ _ (below_none j (λ (m : ℕ). eqb (get_or xs m 0) (get_or xs j 0)) (none_of _ e) i h)

pub distinct : (n : ℕ) (xs ys : List ℕ) → n ≡ length xs → take n ys ≡ xs → first_repeat xs ≡ None → Distinct n ys
distinct n xs ys l t e i j h k s =
    apart xs i j h (below_none (length xs) (repeats xs) e j (omega arith))
    (sym (front n xs ys t i (omega arith)) ∙ s ∙ front n xs ys t j k)

pub places : (q : ℕ) (g : Given) → place_fault q g ≡ None
    → (first_unfit q g.points ≡ None) × (first_repeat g.points ≡ None) × (first_unfit q g.multipliers ≡ None)
places q g e =
    let (a, b) = or_else_none _ _ e in
    let (d, f) = or_else_none _ _ b in
    (mapped_none _ _ a, mapped_none _ _ d, mapped_none _ _ f)

pub accepted : (g : Given) → setting_fault g ≡ None
    → Accepted (length g.points) g.threshold g.setting.radius g.setting.multiplicity g.setting.list_limit
accepted g e = (exact _ _ _ _ _).0 (not-false _ (when_none _ _ e))

pub no_fault : (q : ℕ) (g : Given) → count_fault q g ≡ None → threshold_fault g ≡ None → place_fault q g ≡ None → setting_fault g ≡ None
    → first_fault q g ≡ None
no_fault q g a b d e =
    ap (λ (o : Option CodeFault). or_else o (or_else (threshold_fault g) (or_else (place_fault q g) (setting_fault g)))) a
    ∙ ap (λ (o : Option CodeFault). or_else o (or_else (place_fault q g) (setting_fault g))) b
    ∙ ap (λ (o : Option CodeFault). or_else o (setting_fault g)) d
    ∙ e
