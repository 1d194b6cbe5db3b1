-- An opening is accepted exactly when its code is valid and its setting accepted.
use Rattle.std.proofs.Common.{◌≡◌, ℕ, zero, suc, ◌+◌, ◌<◌, ◌≤◌, Bool, false, not, ◌||◌, eqb, ltb, leb, List, length, get_or, is_some, None, Option, sym, refl, ap, ◌∙◌, arith}
use Rattle.std.proofs.lemmas.List.{take_all}
use Rattle.std.proofs.lemmas.Bool.Decides.{nat_tests}
use Rattle.std.proofs.lemmas.Bool.{ne_eqb, not_from_true}
use Rattle.faults.specs.declared.CodeFault.TheVariants.{Point, RepeatedPoint, Multiplier}
use Rattle.codes.specs.First.{or_else, when, mapped, first_of, first_below}
use Rattle.codes.specs.Valid.{Places, Dimension, NonZero, Distinct}
use Rattle.codes.specs.Settings.{accepts}
use Rattle.codes.specs.Opening.{Given, unfit, repeats, first_unfit, first_repeat, count_fault, threshold_fault, place_fault, setting_fault, first_fault}
use Rattle.codes.specs.Exact.{Fit, OpensExactly}
use Rattle.codes.proofs.Acceptance.{exact}
use Rattle.codes.proofs.Firsts.{when_false, or_else_none}
use Rattle.codes.proofs.Opened.{counted, dimension, non_zero, distinct, places, accepted, no_fault}

-- numbers of which none has an answer
first_all_none : {A : Type 0} (f : ℕ → Option A) (a m : ℕ) → ((i : ℕ) → a ≤ i → i < a + m → f i ≡ None) → first_of f a m ≡ None
first_all_none f a zero h = refl
first_all_none {A} f a (suc m) h =
    ap (λ (o : Option A). or_else o (first_of f (a + 1) m)) (h a (omega arith) (omega arith))
    ∙ first_all_none f (a + 1) m (λ i l k. h i (omega arith) (omega arith))

below_all : (n : ℕ) (test : ℕ → Bool) → ((i : ℕ) → i < n → test i ≡ false) → first_below n test ≡ None
below_all n test h = first_all_none (λ i. when (test i) i) 0 n (λ i _ k. when_false (test i) i (h i (omega arith)))

unfit_none : (q : ℕ) (xs : List ℕ) → NonZero q (length xs) xs → first_unfit q xs ≡ None
unfit_none q xs z =
    below_all (length xs) (unfit q xs) (λ i h. let (low, high) = z i h in grind (arith, nat_tests))

repeat_none : (xs : List ℕ) → Distinct (length xs) xs → first_repeat xs ≡ None
repeat_none xs d =
    below_all (length xs) (repeats xs)
    (λ j h. ap is_some (below_all j (λ i. eqb (get_or xs i 0) (get_or xs j 0)) (λ i k. ne_eqb _ _ (d i j k h))))

no_count_fault : (q : ℕ) (g : Given) → Places q (length g.points) → length g.multipliers ≡ length g.points → count_fault q g ≡ None
no_count_fault q g (a, b, d) s =
    when_false (ltb (length g.points) 2 || (ltb 32 (length g.points) || (leb q (length g.points) || not (eqb (length g.multipliers) (length g.points))))) _
    (grind (arith, nat_tests))

no_threshold_fault : (g : Given) → Dimension (length g.points) g.threshold → threshold_fault g ≡ None
no_threshold_fault g (a, b) = when_false (eqb g.threshold 0 || leb (length g.points) g.threshold) _ (grind (arith, nat_tests))

no_place_fault : (q : ℕ) (g : Given) → first_unfit q g.points ≡ None → first_repeat g.points ≡ None → first_unfit q g.multipliers ≡ None
    → place_fault q g ≡ None
no_place_fault q g a b d =
    ap (λ (o : Option ℕ). or_else (mapped Point o) (or_else (mapped RepeatedPoint (first_repeat g.points)) (mapped Multiplier (first_unfit q g.multipliers)))) a
    ∙ ap (λ (o : Option ℕ). or_else (mapped RepeatedPoint o) (mapped Multiplier (first_unfit q g.multipliers))) b
    ∙ ap (mapped Multiplier) d

opens : (q : ℕ) (g : Given) → Fit q g → first_fault q g ≡ None
opens q g f =
    let s = f.same in
    no_fault q g (no_count_fault q g f.code.places s) (no_threshold_fault g f.code.dimension)
    (no_place_fault q g (unfit_none q g.points f.code.points_non_zero) (repeat_none g.points f.code.points_distinct)
    (unfit_none q g.multipliers (λ i h. f.code.multipliers_non_zero i (omega arith))))
    (when_false (not (accepts (length g.points) g.threshold g.setting.radius g.setting.multiplicity g.setting.list_limit)) _
    (not_from_true _ ((exact (length g.points) g.threshold g.setting.radius g.setting.multiplicity g.setting.list_limit).1 f.setting)))

fits : (q : ℕ) (g : Given) → first_fault q g ≡ None → Fit q g
fits q g e =
    let (a, b) = or_else_none (count_fault q g) (or_else (threshold_fault g) (or_else (place_fault q g) (setting_fault g))) e in
    let (c, d) = or_else_none (threshold_fault g) (or_else (place_fault q g) (setting_fault g)) b in
    let (p, s) = or_else_none (place_fault q g) (setting_fault g) d in
    let (few, same) = counted q g a in
    let (u, r, m) = places q g p in
    let n = length g.points in
    record {
      code =
          record {
            places = few;
            dimension = dimension g c;
            points_non_zero = non_zero q n g.points g.points refl (take_all n g.points (omega arith)) u;
            points_distinct = distinct n g.points g.points refl (take_all n g.points (omega arith)) r;
            multipliers_non_zero = non_zero q n g.multipliers g.multipliers (sym same) (take_all n g.multipliers (omega arith)) m;
          };
      same = same;
      setting = accepted g s;
    }

pub opens_exactly : OpensExactly
opens_exactly q g = (fits q g, opens q g)
