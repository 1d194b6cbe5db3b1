-- Horner's rule in a form, in this order: a list that is 1, a product that is added, the rule's start and its step, and a polynomial without coefficients.
use Rattle.std.proofs.Common.{◌≡◌, ℕ, zero, suc, ◌+◌, ◌-◌, ◌*◌, ◌<◌, ◌≤◌, List, [], ◌∷◌, ◌++◌, length, get_or, take, drop, set, sym, refl, ap, ◌∙◌, subst, ap₂, suc-mul, mul-le-mul_left, one-mul, zero-mul, arith, length-set, length-take, get_or-set_same}
use mathlib.Core.Path.{fun_ext}
use borrow.Rule.Slice.PartMut.{post_of, same_len_mid}
use Rattle.std.proofs.lemmas.List.{take_at, take_all}
use Rattle.algebra.specs.Ring.{Ring}
use Rattle.algebra.specs.RingLaws as L
use Rattle.algebra.specs.Solve.{ring}
use Rattle.algebra.specs.Sums.{pow}
use Rattle.algebra.specs.Poly.{conv, padd, scale, pzero, const, tail, Below}
use Rattle.algebra.specs.PolyRing.{Poly}
use Rattle.algebra.specs.PolyForms.{forms}
use Rattle.algebra.specs.Division.{size}
use Rattle.algebra.specs.Taylor.{form, hom}
use Rattle.algebra.proofs.Degrees.{size_below}
use Rattle.algebra.proofs.Homogeneous.{hom_form}
use Rattle.fields.specs.Numbers.{Numbers, AllBelow, Element, elem, ring_of, field_of}
use Rattle.polynomials.specs.Series.{poly, Reads, plus_multiple}
use Rattle.polynomials.proofs.Readings.{past}
use Rattle.digits.specs.Runs.{runs}
use Rattle.polynomials.proofs.Shapes.{size_none, size_more}

module _ (S : Ring) where
  infixl 60 ◌⊕◌
  infixl 70 ◌⊗◌
  open S use {El, 𝟘, 𝟙, ◌⊕◌, ◌⊗◌}

  pub form_none : (Q : ℕ → El) (y z : El) → form S 0 Q y z ≡ Q 0
  unfolding hom pow
  form_none Q y z = hom_form S 0 Q y z ∙ ring S (Q 0 ∷ y ∷ []) (search forms depth 20) tt

  -- a step: y h + z ^ (n + 1) Q₀
  pub form_step : (n : ℕ) (Q : ℕ → El) (y z h p : El) → h ≡ form S n (tail Q) y z → p ≡ pow S z n
      → h ⊗ y ⊕ p ⊗ z ⊗ Q 0 ≡ form S (suc n) Q y z
  unfolding hom pow
  form_step n Q y z h p eh ep =
      ap₂ (λ u v. u ⊗ y ⊕ v ⊗ z ⊗ Q 0) (eh ∙ hom_form S n (tail Q) y z) ep
      ∙ turn (Q 0) y z (pow S z n) (hom S (suc n) (tail Q) y z)
      ∙ sym (hom_form S (suc n) Q y z)
    where
      turn : (q y z P H : El) → H ⊗ y ⊕ P ⊗ z ⊗ q ≡ q ⊗ (z ⊗ P) ⊕ y ⊗ H
      turn q y z P H = ring S (q ∷ y ∷ z ∷ P ∷ H ∷ []) (search forms depth 20) tt

  pub power_step : (n : ℕ) (z p : El) → p ≡ pow S z n → p ⊗ z ≡ pow S z (suc n)
  unfolding pow
  power_step n z p e = ap (λ u. u ⊗ z) e ∙ S.mul_comm (pow S z n) z

module _ (F : Numbers) where
  -- a list of one number
  pub one_is : (xs : List ℕ) → length xs ≡ 1 → Reads F (set xs 0 1) (const (ring_of F) (elem F 1))
  unfolding poly const
  one_is xs h = record { below = below; is = fun_ext is }
    where
      first : get_or (set xs 0 1) 0 0 ≡ 1
      first = get_or-set_same xs 0 1 0 (omega arith)

      below : AllBelow F.q (set xs 0 1)
      below k u =
          let l = length-set xs 0 1 in
          let e : k ≡ 0 = omega arith in
          subst (λ (j : ℕ). get_or (set xs 0 1) j 0 < F.q) (sym e) (subst (λ (n : ℕ). n < F.q) (sym first) F.laws.two)

      is : (k : ℕ) → elem F (get_or (set xs 0 1) k 0) ≡ const (ring_of F) (elem F 1) k
      is zero = ap (elem F) first
      is (suc k) = ap (elem F) (past F (set xs 0 1) (suc k) (let l = length-set xs 0 1 in omega arith))

  pub plus_once : (p q : ℕ → Element F) → plus_multiple F p 1 q ≡ padd (ring_of F) p q
  unfolding scale
  plus_once p q = ap (padd (ring_of F) p) (fun_ext (λ n. L.one_mul (ring_of F) (q n)))

  pub all_part : (j n : ℕ) (xs : List ℕ) → j ≡ n → AllBelow F.q (take n xs) → AllBelow F.q (take j xs)
  all_part j n xs e = subst (λ (i : ℕ). AllBelow F.q (take i xs)) (sym e)

  pub copied : {xs ys : List ℕ} {p : ℕ → Element F} → xs ≡ ys → Reads F ys p → Reads F xs p
  copied {xs} {ys} {p} e r = subst (λ (l : List ℕ). Reads F l p) (sym e) r

  pub itself : (xs : List ℕ) → AllBelow F.q xs → Reads F xs (poly F xs)
  itself xs h = record { below = h; is = refl }

  -- the form of one run
  pub first_is : (d w : ℕ) (xs : List ℕ) (y z : ℕ → Element F) → d ≡ 0 → length xs ≡ (d + 1) * w
      → poly F xs ≡ form (Poly (ring_of F)) d (runs F w xs) y z
  first_is d w xs y z e l =
      let n : length xs ≡ w = l ∙ ap (λ (k : ℕ). (k + 1) * w) e ∙ one-mul w in
      ap (poly F) (sym (take_all w xs (omega arith))) ∙ sym (form_none (Poly (ring_of F)) (runs F w xs) y z)
      ∙ ap (λ (k : ℕ). form (Poly (ring_of F)) k (runs F w xs) y z) (sym e)

  pub power_none : (d : ℕ) (z : ℕ → Element F) → d ≡ 0 → const (ring_of F) (elem F 1) ≡ pow (Poly (ring_of F)) z d
  unfolding pow
  power_none d z e = ap (pow (Poly (ring_of F)) z) (sym e)

  -- a turn of the rule, at the degree d of the form
  pub power_turn : (d : ℕ) (z : List ℕ) (p : ℕ → Element F) → 0 < d → p ≡ pow (Poly (ring_of F)) (poly F z) (d - 1)
      → conv (ring_of F) p (poly F z) ≡ pow (Poly (ring_of F)) (poly F z) d
  power_turn d z p h e =
      power_step (Poly (ring_of F)) (d - 1) (poly F z) p e
      ∙ ap (pow (Poly (ring_of F)) (poly F z)) (let k : suc (d - 1) ≡ d = omega arith in k)

  pub form_turn : (d w : ℕ) (xs : List ℕ) (y z h p : ℕ → Element F) → 0 < d
      → h ≡ form (Poly (ring_of F)) (d - 1) (runs F w (drop w xs)) y z → p ≡ pow (Poly (ring_of F)) z d
      → padd (ring_of F) (conv (ring_of F) h y) (conv (ring_of F) p (poly F (take w xs))) ≡ form (Poly (ring_of F)) d (runs F w xs) y z
  form_turn d w xs y z h p some eh ep =
      let k : suc (d - 1) ≡ d = omega arith in
      ap (λ v. padd (ring_of F) (conv (ring_of F) h y) (conv (ring_of F) v (poly F (take w xs))))
      (ep ∙ ap (pow (Poly (ring_of F)) z) (sym k) ∙ sym (power_step (Poly (ring_of F)) (d - 1) z (pow (Poly (ring_of F)) z (d - 1)) refl))
      ∙ form_step (Poly (ring_of F)) (d - 1) (runs F w xs) y z h (pow (Poly (ring_of F)) z (d - 1)) eh refl
      ∙ ap (λ (j : ℕ). form (Poly (ring_of F)) j (runs F w xs) y z) k

  -- the zero polynomial is the one of the size 0
  pub empty_zero : (n : ℕ) (p : ℕ → Element F) → Below (ring_of F) n p → size (field_of F) n p ≡ 0 → p ≡ pzero (ring_of F)
  unfolding pzero
  empty_zero n p b e = fun_ext (λ i. size_below (field_of F) n p b i (omega arith))

  pub zero_empty : (n : ℕ) (p : ℕ → Element F) → p ≡ pzero (ring_of F) → size (field_of F) n p ≡ 0
  unfolding pzero
  zero_empty zero p e = size_none (field_of F) p
  zero_empty (suc n) p e = size_more (field_of F) n p (ap (λ (f : ℕ → Element F). f n) e) ∙ zero_empty n p e

-- one run less
pub one_less : (d w : ℕ) → 0 < d → d * w ≡ (d - 1) * w + w
one_less zero w h = absurd (let z : 0 < 0 = h in omega arith)
one_less (suc d) w h = suc-mul d w ∙ ap (λ (e : ℕ). e * w + w) (let z : d ≡ suc d - 1 = omega arith in z)

-- the lengths of what is left of the runs, and of the areas
pub runs_rest : (d w n : ℕ) → 0 < d → n ≡ (d + 1) * w → n - w ≡ (d - 1 + 1) * w
runs_rest d w n h e =
    let a = one_less (d + 1) w (omega arith) in
    let b : (d + 1 - 1) * w ≡ (d - 1 + 1) * w = ap (λ (k : ℕ). k * w) (omega arith) in
    omega (arith, a, b, e)

pub run_only : (w n : ℕ) → n ≡ (0 + 1) * w → n ≡ w
run_only w n e = e ∙ one-mul w

pub none_more : (a w n : ℕ) → n ≡ a + 0 * w → n ≡ a
none_more a w n e = e ∙ ap (λ (k : ℕ). a + k) (zero-mul w) ∙ (let z : a + 0 ≡ a = omega arith in z)

pub area_less : (a d w n : ℕ) → 0 < d → n ≡ a + d * w → (w ≤ n) × (n - w ≡ a + (d - 1) * w)
area_less a d w n h e = let k = one_less d w h in (omega (arith, k, e), omega (arith, k, e))

-- a work area for the degree m serves a lower degree k
pub work_enough : (w d k m n : ℕ) → k ≤ m → 3 * (w + d * m) ≤ n → 3 * (w + d * k) ≤ n
work_enough w d k m n h l = let e : d * k ≤ d * m = mul-le-mul_left d h in omega arith

-- an area whose first n places were lent, and came back as ys
abbrev pub put_front : ℕ → List ℕ → List ℕ → List ℕ
put_front n xs ys = ys ++ post_of 0 (n - 0) xs

pub front_length : (n : ℕ) (xs ys : List ℕ) → length ys ≡ length (take (n - 0) xs) → length (put_front n xs ys) ≡ length xs
front_length n xs ys e = same_len_mid 0 (n - 0) xs ys e

pub front_is : (n : ℕ) (xs ys : List ℕ) → n ≤ length xs → length ys ≡ length (take (n - 0) xs) → take n (put_front n xs ys) ≡ ys
front_is n xs ys h e = take_at ys (post_of 0 (n - 0) xs) n (e ∙ length-take (n - 0) xs ∙ (omega arith))
