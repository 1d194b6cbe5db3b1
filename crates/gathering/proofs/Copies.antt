-- The shares of a source, one place after another.
use Rattle.std.proofs.Common.{◌≡◌, ℕ, zero, suc, ◌+◌, ◌<◌, ◌≤◌, Bool, true, false, not, leb, List, length, get_or, set, is_some, Some, None, Ok, Err, Option, Result, sym, refl, ap, ◌∙◌, subst, arith, get_or-set_other, get_or-set_same, leb-false}
use native.Mathlib.Decide.{ℕ_discrete}
use Rattle.fields.specs.Numbers.{AllBelow}
use lib.ListN.{length-map}
use Rattle.std.proofs.lemmas.List.{ext_get_or, get_or-map}
use Rattle.std.specs.Option.{ok_or}
use Rattle.std.specs.Result.{OnOk}
use Rattle.codes.specs.Opening.{fault_of}
use Rattle.faults.specs.declared.ListingFault.{ListingFault}
use Rattle.faults.specs.declared.ListingFault.TheVariants.{EmptyPlace, NotAnElement}
use Rattle.codes.specs.First.{or_else, when, mapped, first_of}
use Rattle.codes.proofs.Firsts.{Left, left_none, left_more, left_found, left_all, when_none, first_none}
use Rattle.codes.specs.Codewords.{first_beyond}
use Rattle.gathering.specs.Shares.{number, numbers, empty_fault, element_fault}

-- a share that is told, or the fault of a place that has none
pub given_by : {E : Type 0} (o : Option ℕ) (f : E) (v : ℕ) → ok_or o f ≡ Ok v → o ≡ Some v
given_by None f v e = cc
given_by (Some x) f v e = cc

pub refused_by : {E : Type 0} (o : Option ℕ) (f g : E) → ok_or o f ≡ Err g → (o ≡ None) × (g ≡ f)
refused_by None f g e = (refl, cc)
refused_by (Some x) f g e = cc

module _ (told : List (Option ℕ)) where
  abbrev empty_at : ℕ → Option ListingFault
  empty_at i = when (not (is_some (get_or told i None))) (EmptyPlace i)

  -- the first k places are filled, and copied
  pub record Copying (k : ℕ) (out : List ℕ) : Type 0 where
    pub filled : Left (λ i. when (not (is_some (get_or told i None))) (EmptyPlace i)) 0 (length told) (length told) k
    pub copied : (i : ℕ) → i < k → get_or out i 0 ≡ number (get_or told i None)

  pub copy_none : (out : List ℕ) → Copying 0 out
  copy_none out =
      record { filled = left_none empty_at 0 (length told) (length told) (omega arith); copied = λ i h. absurd (let z : i < 0 = h in omega arith) }

  pub copy_more : (k v : ℕ) (out : List ℕ) → k < length told → k < length out → get_or told k None ≡ Some v → Copying k out → Copying (k + 1) (set out k v)
  copy_more k v out h l e c =
      record {
        filled = left_more empty_at 0 (length told) (length told) k h (ap (λ (o : Option ℕ). when (not (is_some o)) (EmptyPlace k)) e) c.filled;
        copied = λ i u. at i u (ℕ_discrete i k);
      }
    where
      at : (i : ℕ) → i < k + 1 → Dec (i ≡ k) → get_or (set out k v) i 0 ≡ number (get_or told i None)
      at i u (yes p) =
          subst (λ (j : ℕ). get_or (set out k v) j 0 ≡ number (get_or told j None)) (sym p) (get_or-set_same out k v 0 l ∙ sym (ap number e))
      at i u (no p) = get_or-set_other out k i v 0 p ∙ c.copied i (omega arith)

  pub copy_empty : (k : ℕ) (out : List ℕ) → k < length told → get_or told k None ≡ None → Copying k out → Some (EmptyPlace k) ≡ empty_fault told
  copy_empty k out h e c =
      sym (left_found empty_at 0 (length told) (length told) k (EmptyPlace k) h (ap (λ (o : Option ℕ). when (not (is_some o)) (EmptyPlace k)) e) c.filled)

  pub copy_full : (k : ℕ) (out : List ℕ) → length told ≤ k → Copying k out → None ≡ empty_fault told
  copy_full k out h c = sym (left_all empty_at 0 (length told) (length told) k h c.filled)

  pub copy_all : (k : ℕ) (out : List ℕ) → length told ≡ length out → length told ≤ k → Copying k out → out ≡ numbers told
  copy_all k out same h c =
      ext_get_or 0 out (numbers told) (sym same ∙ sym (length-map told number))
      (λ i l. c.copied i (omega arith) ∙ sym (get_or-map number told i None 0 (omega arith)))

-- the fault of the first number that fails a test
mapped_first : {A : Type 0} (test : ℕ → Bool) (f : ℕ → A) (a n : ℕ)
    → first_of (λ i. when (test i) (f i)) a n ≡ mapped f (first_of (λ i. when (test i) i) a n)
mapped_first test f a zero = refl
mapped_first {A} test f a (suc n) = choose (test a) _ _ (mapped_first test f (a + 1) n)
  where
    choose : (b : Bool) (o : Option A) (p : Option ℕ) → o ≡ mapped f p → or_else (when b (f a)) o ≡ mapped f (or_else (when b a) p)
    choose true o p e = refl
    choose false o p e = e

pub elements_first : (q : ℕ) (xs : List ℕ) → element_fault q xs ≡ mapped (λ i. NotAnElement i (get_or xs i 0)) (first_beyond q xs)
elements_first q xs = mapped_first (λ i. leb q (get_or xs i 0)) (λ i. NotAnElement i (get_or xs i 0)) 0 (length xs)

-- numbers that pass their check are elements
pub elements_below : (q : ℕ) (xs : List ℕ) → None ≡ element_fault q xs → AllBelow q xs
elements_below q xs e k h =
    leb-false q (get_or xs k 0)
    (when_none (leb q (get_or xs k 0)) (NotAnElement k (get_or xs k 0))
    (first_none (λ i. when (leb q (get_or xs i 0)) (NotAnElement i (get_or xs i 0))) 0 (length xs) (sym e) k (omega arith) (omega arith)))

pub below_if_ok : (q : ℕ) (xs : List ℕ) (r : Result (Unit {0}) ListingFault) → fault_of r ≡ element_fault q xs → OnOk r (AllBelow q xs)
below_if_ok q xs (Ok _) e = elements_below q xs e
below_if_ok q xs (Err f) e = tt

pub on_ok : {P : Type 0} (r : Result (Unit {0}) ListingFault) → P → OnOk r P
on_ok (Ok _) p = p
on_ok (Err f) p = tt

-- a check that passes, before another
pub pass_first : (a b : Option ListingFault) → None ≡ a → b ≡ or_else a b
pass_first a b e = ap (λ (o : Option ListingFault). or_else o b) e
