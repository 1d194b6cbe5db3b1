-- Loops that write a list place by place, and loops that count marked places.
use Rattle.std.proofs.Common.{◌≡◌, ℕ, zero, suc, ◌+◌, ◌<◌, ◌≤◌, Bool, true, false, cond, List, length, get_or, take, set, count_by, sym, refl, ap, ◌∙◌, subst, add-one, add-zero, arith, get_or-set_other, get_or-set_same}
use Rattle.std.proofs.lemmas.List.{take_all}
use Rattle.std.proofs.lemmas.List.Sums.{count_by_more_yes, count_by_more_no}
use native.Mathlib.Decide.{ℕ_discrete}
use Rattle.algebra.specs.Sums.{count}

-- one place more is written, as it should be
pub each_more : (P : ℕ → ℕ → Type 0) (xs : List ℕ) (i v : ℕ) → i < length xs → ((k : ℕ) → k < i → P k (get_or xs k 0)) → P i v
    → (k : ℕ) → k < i + 1 → P k (get_or (set xs i v) k 0)
each_more P xs i v l h p k u = go (ℕ_discrete k i)
  where
    go : Dec (k ≡ i) → P k (get_or (set xs i v) k 0)
    go (yes e) = subst (λ (j : ℕ). P j (get_or (set xs i v) j 0)) (sym e) (subst (λ (n : ℕ). P i n) (sym (get_or-set_same xs i v 0 l)) p)
    go (no e) = subst (λ (n : ℕ). P k n) (sym (get_or-set_other xs i k v 0 e)) (h k (omega arith))

pub count_none : (b : ℕ → Bool) → count 0 b ≡ 0
unfolding count
count_none b = refl

pub count_more : (b : ℕ → Bool) (n : ℕ) (t : Bool) → b n ≡ t → count (n + 1) b ≡ count n b + cond t 1 0
unfolding count
count_more b n t e = ap (λ (m : ℕ). count m b) (add-one n) ∙ ap (λ (s : Bool). count n b + cond s 1 0) e

pub count_le : (n : ℕ) (b : ℕ → Bool) → count n b ≤ n
unfolding count
count_le zero b = omega arith
count_le (suc n) b = go (b n) (count_le n b)
  where
    go : (t : Bool) → count n b ≤ n → count n b + cond t 1 0 ≤ suc n
    go true h = omega arith
    go false h = omega arith

-- the marked items are as many as the marked places
count_taken : (p : ℕ → Bool) (xs : List ℕ) (i : ℕ) → i ≤ length xs → count_by p (take i xs) ≡ count i (λ j. p (get_or xs j 0))
unfolding count
count_taken p xs zero h = refl
count_taken p xs (suc i) h = go (p (get_or xs i 0)) refl (count_taken p xs i (omega arith))
  where
    go : (t : Bool) → p (get_or xs i 0) ≡ t → count_by p (take i xs) ≡ count i (λ j. p (get_or xs j 0))
        → count_by p (take (suc i) xs) ≡ count i (λ j. p (get_or xs j 0)) + cond (p (get_or xs i 0)) 1 0
    go true e before =
        ap (λ (n : ℕ). count_by p (take n xs)) (sym (add-one i)) ∙ count_by_more_yes p xs i 0 (omega arith) e
        ∙ ap (λ (n : ℕ). n + 1) before ∙ ap (λ (t : Bool). count i (λ j. p (get_or xs j 0)) + cond t 1 0) (sym e)
    go false e before =
        ap (λ (n : ℕ). count_by p (take n xs)) (sym (add-one i)) ∙ count_by_more_no p xs i 0 (omega arith) e
        ∙ before ∙ sym (add-zero _) ∙ ap (λ (t : Bool). count i (λ j. p (get_or xs j 0)) + cond t 1 0) (sym e)

pub count_marked : (p : ℕ → Bool) (xs : List ℕ) → count_by p xs ≡ count (length xs) (λ j. p (get_or xs j 0))
count_marked p xs = ap (count_by p) (sym (take_all (length xs) xs (omega arith))) ∙ count_taken p xs (length xs) (omega arith)
