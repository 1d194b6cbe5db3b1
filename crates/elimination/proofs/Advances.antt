-- The product of a row with x - α, run by run, and a copy or a sum that leaves out zeros.
use Rattle.std.proofs.Common.{◌≡◌, ℕ, zero, suc, ◌+◌, ◌-◌, ◌*◌, ◌%◌, ◌<◌, ◌≤◌, ◌≢◌, List, ◌∷◌, length, get_or, sym, refl, ap, ◌∙◌, subst, arith}
use native.Mathlib.Decide.{ℕ_discrete}
use native.Mathlib.Nat.{zero-mod}
use lib.Arith.{digits_mod}
use Rattle.algebra.specs.Poly.{conv, lin}
use Rattle.algebra.specs.RingLaws as L
use Rattle.algebra.proofs.Roots.{lin_conv}
use Rattle.fields.specs.Numbers.{Numbers, AllBelow, elem, pos, plus, minus, times, ring_of, elem_add, elem_neg, elem_mul, elem_inj}
use Rattle.polynomials.specs.Series.{poly}
use Rattle.polynomials.proofs.Writes.{Written}
use Rattle.polynomials.proofs.Readings.{all_at, poly_at, mul_zero}
use Rattle.functionals.specs.Runs.{family}
use Rattle.functionals.proofs.Runs.{family_at}
use Rattle.elimination.specs.Rows.{Advanced}

-- what stands to the left in the same run
unfoldable pub left : ℕ → List ℕ → ℕ → ℕ
left B xs i = elim (ℕ_discrete (i % B) 0) [ yes _ ↦ 0 | no _ ↦ get_or xs (i - 1) 0 ]

pub left_none : (B : ℕ) (xs : List ℕ) (i : ℕ) → i % B ≡ 0 → 0 ≡ left B xs i
unfolding left
left_none B xs i e = go (ℕ_discrete (i % B) 0)
  where
    go : (d : Dec (i % B ≡ 0)) → ◌≡◌ {A = ℕ} 0 (elim d [ yes _ ↦ 0 | no _ ↦ get_or xs (i - 1) 0 ])
    go (yes _) = refl
    go (no n) = absurd (n e)

pub left_some : (B : ℕ) (xs : List ℕ) (i : ℕ) → i % B ≢ 0 → get_or xs (i - 1) 0 ≡ left B xs i
unfolding left
left_some B xs i n = go (ℕ_discrete (i % B) 0)
  where
    go : (d : Dec (i % B ≡ 0)) → ◌≡◌ {A = ℕ} (get_or xs (i - 1) 0) (elim d [ yes _ ↦ 0 | no _ ↦ get_or xs (i - 1) 0 ])
    go (yes e) = absurd (n e)
    go (no _) = refl

-- the number before in the list, where there is one in the same run
pub left_last : (B : ℕ) (xs : List ℕ) (i : ℕ) → i % B ≢ 0 → get_or (0 ∷ xs) i 0 ≡ left B xs i
left_last B xs zero n = absurd (n (zero-mod B))
left_last B xs (suc i) n = ap (λ (k : ℕ). get_or xs k 0) (let e : i ≡ suc i - 1 = omega arith in e) ∙ left_some B xs (suc i) n

module _ (F : Numbers) where
  -- low - α 0
  pub linear_zero : (low α x : ℕ) → low < F.q → α < F.q → x ≡ 0 → low ≡ F.add low (F.neg (F.mul α x))
  linear_zero low α x hl ha e =
      sym (ap (λ (z : ℕ). F.add low (F.neg (F.mul α z))) e ∙ ap (λ (z : ℕ). F.add low (F.neg z)) (mul_zero F α ha) ∙ ap (F.add low) none
      ∙ F.laws.add_zero low hl)
    where
      none : F.neg 0 ≡ 0
      none = elem_inj F (F.neg 0) 0 (F.laws.neg_below 0) (pos F) (elem_neg F 0 (pos F) ∙ L.neg_zero (ring_of F))

  -- what is written at each place
  abbrev pub moved : ℕ → ℕ → List ℕ → ℕ → ℕ
  moved B α xs i = F.add (left B xs i) (F.neg (F.mul α (get_or xs i 0)))

  pub left_below : (B : ℕ) (xs : List ℕ) (i : ℕ) → AllBelow F.q xs → left B xs i < F.q
  left_below B xs i all = go (ℕ_discrete (i % B) 0)
    where
      go : Dec (i % B ≡ 0) → left B xs i < F.q
      go (yes e) = subst (λ (z : ℕ). z < F.q) (left_none B xs i e) (pos F)
      go (no e) = subst (λ (z : ℕ). z < F.q) (left_some B xs i e) (all_at F xs all (i - 1))

  module _ (B α : ℕ) (xs : List ℕ) (ha : α < F.q) (all : AllBelow F.q xs) where
    moved_is : (i : ℕ) → elem F (moved B α xs i) ≡ plus F (times F (minus F (elem F α)) (poly F xs i)) (elem F (left B xs i))
    moved_is i =
        elem_add F (left B xs i) (F.neg (F.mul α (get_or xs i 0))) (left_below B xs i all) (F.laws.neg_below _)
        ∙ (ring_of F).add_comm _ _
        ∙ ap (λ z. plus F z (elem F (left B xs i)))
        (elem_neg F (F.mul α (get_or xs i 0)) (F.laws.mul_below _ _)
        ∙ ap (minus F) (elem_mul F α (get_or xs i 0) ha (all_at F xs all i) ∙ ap (times F (elem F α)) (sym (poly_at F xs i)))
        ∙ sym (L.neg_mul (ring_of F) (elem F α) (poly F xs i)))

    pub advanced : (lo n : ℕ) (ys : List ℕ) → lo ≡ 0 → n ≡ length xs → Written lo n (moved B α xs) xs ys → Advanced F B α xs ys
    unfolding conv lin
    advanced lo n ys none long w =
        record {
          below = λ k h. let same = w.long in subst (λ (z : ℕ). z < F.q) (sym (w.inside k (omega arith) (omega arith))) (F.laws.add_below _ _);
          is = at;
        }
      where
        here : (t m : ℕ) → t * B + B ≤ length xs → m < B
            → family F B ys t m ≡ plus F (times F (minus F (elem F α)) (family F B xs t m)) (elem F (left B xs (t * B + m)))
        here t m h l =
            family_at F B ys t m l ∙ poly_at F ys (t * B + m) ∙ ap (elem F) (w.inside (t * B + m) (omega arith) (omega arith)) ∙ moved_is (t * B + m)
            ∙ ap (λ z. plus F (times F (minus F (elem F α)) z) (elem F (left B xs (t * B + m)))) (sym (family_at F B xs t m l))

        at : (t m : ℕ) → t * B + B ≤ length xs → m < B → family F B ys t m ≡ conv (ring_of F) (lin (ring_of F) (elem F α)) (family F B xs t) m
        at t zero h l =
            here t 0 h l
            ∙ ap (λ (z : ℕ). plus F (times F (minus F (elem F α)) (family F B xs t 0)) (elem F z)) (sym (left_none B xs (t * B + 0) (digits_mod t l)))
            ∙ (ring_of F).add_zero _
        at t (suc m) h l =
            let z : t * B + suc m - 1 ≡ t * B + m = omega arith in
            here t (suc m) h l
            ∙ ap (plus F (times F (minus F (elem F α)) (family F B xs t (suc m))))
            (ap (elem F) (sym (left_some B xs (t * B + suc m) (λ (e : (t * B + suc m) % B ≡ 0). absurd (let u = digits_mod t l in omega arith)))
            ∙ ap (λ (k : ℕ). get_or xs k 0) z)
            ∙ sym (poly_at F xs (t * B + m)) ∙ sym (family_at F B xs t m (omega arith)))
            ∙ sym (lin_conv (ring_of F) (elem F α) (family F B xs t) m)
