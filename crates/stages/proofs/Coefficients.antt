-- How lists made by a rule, sizes, differences, sums, products and powers of numbers read as elements and polynomials.
use Rattle.std.proofs.Common.{◌≡◌, ℕ, zero, suc, ◌+◌, ◌-◌, ◌<◌, ◌≤◌, Bool, true, false, cond, eqb, ltb, ◌≢◌, List, length, get_or, sym, refl, ap, ◌∙◌, subst, ap₂, arith, ltb-false, ltb-true, eqb-true}
use mathlib.Core.Path.{fun_ext}
use native.Mathlib.Decide.{ℕ_discrete, dec_lt}
use borrow.Author.Tests.{eqb-false}
use Rattle.std.proofs.lemmas.List.FromFn.{length-map-range_with_len, get_or-map-range_with_len}
use Rattle.algebra.specs.Field.{Field}
use Rattle.algebra.specs.Sums.{sum as sum_of, pow as pow_of, prod}
use Rattle.algebra.specs.Poly.{conv, padd, pneg, scale, const, Below, mono, Degree}
use Rattle.algebra.specs.PolyRing.{const_conv, conv_assoc}
use Rattle.algebra.specs.RingLaws as L
use Rattle.algebra.specs.Division.{size as size_of}
use Rattle.algebra.proofs.Degrees.{size_below, size_degree as degree_of_size}
use Rattle.fields.specs.Numbers.{Numbers, AllBelow, Element, elem, pos, plus, minus, times, ring_of, field_of, elem_add, elem_mul, elem_neg, elem_inj}
use Rattle.polynomials.specs.Series.{poly, plus_shifted}
use Rattle.polynomials.proofs.Readings.{all_at, past, poly_past, multiple_zero}
use Rattle.polynomials.proofs.Shapes.{up, up_at, up_under, elem_shifted_at, size_more, size_stop, size_none}
use Rattle.stages.specs.Coefficients.{listed, size_to, size, less, sum, product, power}

-- a list made by a rule
pub listed_length : (n : ℕ) (f : ℕ → ℕ) → length (listed n f) ≡ n
listed_length n f = length-map-range_with_len f 0 n

pub listed_at : (n : ℕ) (f : ℕ → ℕ) (i : ℕ) → i < n → get_or (listed n f) i 0 ≡ f i
listed_at n f i h = get_or-map-range_with_len f 0 n i i 0 h (omega arith)

module _ (𝓕 : Field) where
  -- the size of a polynomial of the degree d
  pub degree_size : (n d : ℕ) (p : ℕ → 𝓕.ring.El) → Degree 𝓕.ring d p → d < n → size_of 𝓕 n p ≡ suc d
  degree_size zero d p hd h = absurd (let z : d < 0 = h in omega arith)
  degree_size (suc n) d p hd h =
      elim (ℕ_discrete n d) [
        | yes e ↦ size_stop 𝓕 n p (subst (λ j. p j ≢ 𝓕.ring.𝟘) (sym e) hd.lead) ∙ ap suc e
        | no e ↦ size_more 𝓕 n p (hd.below n (omega arith)) ∙ degree_size n d p hd (omega arith)
      ]

module _ (F : Numbers) where
  pub listed_below : (n : ℕ) (f : ℕ → ℕ) → ((i : ℕ) → f i < F.q) → AllBelow F.q (listed n f)
  listed_below n f h i l =
      subst (λ (x : ℕ). x < F.q) (sym (listed_at n f i (subst (λ (m : ℕ). i < m) (listed_length n f) l))) (h i)

  -- the size of a list is that of its polynomial
  pub size_is : (n : ℕ) (xs : List ℕ) → AllBelow F.q xs → size_to n xs ≡ size_of (field_of F) n (poly F xs)
  unfolding size_to poly
  size_is zero xs all = sym (size_none (field_of F) (poly F xs))
  size_is (suc n) xs all = go (eqb (get_or xs n 0) 0) refl (size_is n xs all)
    where
      go : (t : Bool) → eqb (get_or xs n 0) 0 ≡ t → size_to n xs ≡ size_of (field_of F) n (poly F xs)
          → cond t (size_to n xs) (suc n) ≡ size_of (field_of F) (suc n) (poly F xs)
      go true e ih = ih ∙ sym (size_more (field_of F) n (poly F xs) (ap (elem F) (eqb-true (get_or xs n 0) 0 e)))
      go false e ih =
          sym (size_stop (field_of F) n (poly F xs)
          (λ z. eqb-false (get_or xs n 0) 0 e (elem_inj F (get_or xs n 0) 0 (all_at F xs all n) (pos F) z)))

  pub size_degree : (xs : List ℕ) (d : ℕ) → AllBelow F.q xs → Degree (ring_of F) d (poly F xs) → d < length xs → size xs ≡ suc d
  size_degree xs d all hd h = size_is (length xs) xs all ∙ degree_size (field_of F) (length xs) d (poly F xs) hd h

  pub size_under : (xs : List ℕ) → AllBelow F.q xs → Below (ring_of F) (size xs) (poly F xs)
  size_under xs all =
      subst (λ (n : ℕ). Below (ring_of F) n (poly F xs)) (sym (size_is (length xs) xs all))
      (size_below (field_of F) (length xs) (poly F xs) (poly_past F xs))

  pub size_has_degree : (xs : List ℕ) (d : ℕ) → AllBelow F.q xs → size xs ≡ suc d → Degree (ring_of F) d (poly F xs)
  size_has_degree xs d all e =
      degree_of_size (field_of F) (length xs) d (poly F xs) (poly_past F xs) (sym (size_is (length xs) xs all) ∙ e)

  -- p - c x ^ k g
  less_value : (c k : ℕ) (g p : List ℕ) → ℕ → ℕ
  less_value c k g p i = cond (ltb i k) (get_or p i 0) (F.add (get_or p i 0) (F.mul (F.neg c) (get_or g (i - k) 0)))

  pub less_length : (c k : ℕ) (g p : List ℕ) → length (less F c k g p) ≡ length p
  unfolding less
  less_length c k g p = listed_length (length p) _

  pub less_at : (c k : ℕ) (g p : List ℕ) → AllBelow F.q p → (i : ℕ) → i < length p
      → get_or (less F c k g p) i 0 ≡ F.add (get_or p i 0) (F.mul (F.neg c) (get_or (up k g) i 0))
  unfolding less less_value
  less_at c k g p hp i h = listed_at (length p) (less_value c k g p) i h ∙ go (ltb i k) refl
    where
      go : (t : Bool) → ltb i k ≡ t → cond t (get_or p i 0) (F.add (get_or p i 0) (F.mul (F.neg c) (get_or g (i - k) 0)))
          ≡ F.add (get_or p i 0) (F.mul (F.neg c) (get_or (up k g) i 0))
      go true e =
          multiple_zero F (get_or p i 0) (F.neg c) (get_or (up k g) i 0) (hp i h) (F.laws.neg_below c) (up_under k g i (ltb-true i k e))
      go false e =
          ap (λ (x : ℕ). F.add (get_or p i 0) (F.mul (F.neg c) x))
          (sym (up_at k g (i - k)) ∙ ap (λ (j : ℕ). get_or (up k g) j 0) (let l : k ≤ i = ltb-false i k e in let z : k + (i - k) ≡ i = omega arith in z))

  pub less_below : (c k : ℕ) (g p : List ℕ) → AllBelow F.q p → AllBelow F.q (less F c k g p)
  less_below c k g p hp i h =
      subst (λ (x : ℕ). x < F.q) (sym (less_at c k g p hp i (subst (λ (m : ℕ). i < m) (less_length c k g p) h)))
      (F.laws.add_below _ _)

  -- where nothing of x ^ k g is cut off
  pub less_reads : (c k : ℕ) (g p : List ℕ) → AllBelow F.q g → AllBelow F.q p
      → ((i : ℕ) → length p ≤ k + i → poly F g i ≡ elem F 0)
      → poly F (less F c k g p) ≡ plus_shifted F (poly F p) (F.neg c) k (poly F g)
  unfolding poly
  less_reads c k g p hg hp fits =
      fun_ext (λ i. ap (elem F) (value i (dec_lt i (length p))) ∙ elem_shifted_at F p g (F.neg c) k hp hg (F.laws.neg_below c) i)
    where
      none : (i : ℕ) → length p ≤ i → get_or (up k g) i 0 ≡ 0
      none i h =
          elim (dec_lt i k) [
            | yes l ↦ up_under k g i l
            | no l ↦
                ap (λ (j : ℕ). get_or (up k g) j 0) (let z : i ≡ k + (i - k) = omega arith in z) ∙ up_at k g (i - k)
                ∙ elem_inj F (get_or g (i - k) 0) 0 (all_at F g hg (i - k)) (pos F) (fits (i - k) (omega arith))
          ]

      value : (i : ℕ) → Dec (i < length p) → get_or (less F c k g p) i 0 ≡ F.add (get_or p i 0) (F.mul (F.neg c) (get_or (up k g) i 0))
      value i (yes h) = less_at c k g p hp i h
      value i (no h) =
          past F (less F c k g p) i (let e = less_length c k g p in omega arith)
          ∙ sym (past F p i (omega arith))
          ∙ multiple_zero F (get_or p i 0) (F.neg c) (get_or (up k g) i 0) (all_at F p hp i) (F.laws.neg_below c) (none i (omega arith))

  pub shifted_is : (c : ℕ) (k : ℕ) (p g : ℕ → Element F) → c < F.q
      → plus_shifted F p (F.neg c) k g
      ≡ padd (ring_of F) p (pneg (ring_of F) (conv (ring_of F) (conv (ring_of F) (const (ring_of F) (elem F c)) (mono (ring_of F) k)) g))
  unfolding padd pneg scale
  shifted_is c k p g h =
      fun_ext (λ n. ap (plus F (p n))
      (ap (λ z. times F z (conv (ring_of F) (mono (ring_of F) k) g n)) (elem_neg F c h)
      ∙ L.neg_mul (ring_of F) _ _
      ∙ ap (minus F)
      (sym (conv_assoc (ring_of F) (const (ring_of F) (elem F c)) (mono (ring_of F) k) g n
      ∙ const_conv (ring_of F) (elem F c) (conv (ring_of F) (mono (ring_of F) k) g) n))))

  -- sums, products and powers
  pub sum_below : (n : ℕ) (f : ℕ → ℕ) → sum F n f < F.q
  unfolding sum
  sum_below zero f = pos F
  sum_below (suc n) f = F.laws.add_below _ _

  pub sum_is : (n : ℕ) (f : ℕ → ℕ) → ((j : ℕ) → f j < F.q) → elem F (sum F n f) ≡ sum_of (ring_of F) n (λ j. elem F (f j))
  unfolding sum sum_of
  sum_is zero f h = refl
  sum_is (suc n) f h = elem_add F (sum F n f) (f n) (sum_below n f) (h n) ∙ ap (λ z. plus F z (elem F (f n))) (sum_is n f h)

  pub product_below : (n : ℕ) (f : ℕ → ℕ) → product F n f < F.q
  unfolding product
  product_below zero f = F.laws.two
  product_below (suc n) f = F.laws.mul_below _ _

  -- the product over the marked places
  pub product_is : (n : ℕ) (b : ℕ → Bool) (f : ℕ → ℕ) → ((j : ℕ) → f j < F.q)
      → elem F (product F n (λ j. cond (b j) 1 (f j))) ≡ prod (ring_of F) n (λ j. cond (b j) false true) (λ j. elem F (f j))
  unfolding product prod
  product_is zero b f h = refl
  product_is (suc n) b f h =
      elem_mul F (product F n (λ j. cond (b j) 1 (f j))) (cond (b n) 1 (f n)) (product_below n _) (small (b n))
      ∙ ap₂ (times F) (product_is n b f h) (here (b n))
    where
      small : (t : Bool) → cond t 1 (f n) < F.q
      small true = F.laws.two
      small false = h n

      here : (t : Bool) → elem F (cond t 1 (f n)) ≡ cond (cond t false true) (elem F (f n)) (elem F 1)
      here true = refl
      here false = refl

  pub power_below : (a n : ℕ) → power F a n < F.q
  unfolding power
  power_below a zero = F.laws.two
  power_below a (suc n) = F.laws.mul_below _ _

  pub power_is : (a n : ℕ) → a < F.q → elem F (power F a n) ≡ pow_of (ring_of F) (elem F a) n
  unfolding power pow_of
  power_is a zero h = refl
  power_is a (suc n) h = elem_mul F a (power F a n) h (power_below a n) ∙ ap (times F (elem F a)) (power_is a n h)
