-- The syndrome of lists is the theory's.
use Rattle.std.proofs.Common.{◌≡◌, ℕ, zero, suc, ◌+◌, ◌-◌, ◌<◌, ◌≤◌, cond, eqb, List, [], ◌∷◌, length, get_or, sym, refl, ap, ◌∙◌, subst, ap₂, add-one, arith}
use mathlib.Core.Path.{fun_ext}
use native.Mathlib.Decide.{dec_lt}
use Rattle.std.proofs.lemmas.List.{length-append, get_or-append-add, get_or_append_left}
use Rattle.algebra.specs.Sums.{sum as sum_of, pow as pow_of, prod, but, all}
use Rattle.algebra.specs.RingLaws as L
use Rattle.algebra.proofs.Sums.{sum_cong, sum_zero}
use Rattle.decoding.specs.Code.{dual as dual_of, syndrome as syndrome_of}
use Rattle.algebra.specs.Poly.{geo}
use Rattle.algebra.specs.Lagrange.{barycentric}
use Rattle.algebra.proofs.Monomials.{geo_at, geo_below}
use Rattle.fields.specs.Numbers.{Numbers, AllBelow, elem, pos, plus, minus, times, over, ring_of, field_of, elem_add, elem_mul, elem_neg, elem_inv}
use Rattle.polynomials.specs.Series.{poly}
use Rattle.polynomials.proofs.Readings.{all_at}
use Rattle.stages.specs.Coefficients.{listed, product, power}
use Rattle.stages.specs.Syndrome.{dual, coefficient, syndrome}
use Rattle.stages.specs.Readings.{code_of, SyndromeReads}
use Rattle.stages.proofs.Coefficients.{listed_length, listed_at, sum_below, sum_is, product_below, product_is, power_below, power_is}

module _ (F : Numbers) (αs vs : List ℕ) (hα : AllBelow F.q αs) (hv : AllBelow F.q vs) where
  apart : ℕ → ℕ → ℕ
  apart j h = F.add (get_or αs j 0) (F.neg (get_or αs h 0))

  barycentric_is : (j : ℕ) → elem F (F.inv (product F (length αs) (λ h. cond (eqb h j) 1 (apart j h)))) ≡ barycentric (field_of F) (length αs) (poly F αs) j
  unfolding barycentric poly apart
  barycentric_is j =
      elem_inv F _ (product_below F (length αs) _)
      ∙ ap (over F) (product_is F (length αs) (λ h. eqb h j) (apart j) (λ h. F.laws.add_below _ _)
      ∙ ap (prod (ring_of F) (length αs) (but j all)) (fun_ext (λ h. difference h)))
    where
      difference : (h : ℕ) → elem F (apart j h) ≡ plus F (elem F (get_or αs j 0)) (minus F (elem F (get_or αs h 0)))
      difference h =
          elem_add F (get_or αs j 0) (F.neg (get_or αs h 0)) (all_at F αs hα j) (F.laws.neg_below _)
          ∙ ap (plus F (elem F (get_or αs j 0))) (elem_neg F (get_or αs h 0) (all_at F αs hα h))

  dual_below : (j : ℕ) → dual F αs vs j < F.q
  unfolding dual
  dual_below j = F.laws.mul_below _ _

  dual_is : (j : ℕ) → elem F (dual F αs vs j) ≡ times F (over F (poly F vs j)) (barycentric (field_of F) (length αs) (poly F αs) j)
  unfolding dual poly apart
  dual_is j =
      elem_mul F _ _ (F.laws.inv_below _) (F.laws.inv_below _)
      ∙ ap₂ (times F) (elem_inv F (get_or vs j 0) (all_at F vs hv j)) (barycentric_is j)

  module _ (D : ℕ) (rs : List ℕ) (hr : AllBelow F.q rs) where
    term : ℕ → ℕ → ℕ
    term i j = F.mul (F.mul (get_or rs j 0) (dual F αs vs j)) (power F (get_or αs j 0) (D - 1 - i))

    term_is : (i j : ℕ) → i < D → elem F (term i j)
        ≡ times F (times F (poly F rs j) (times F (over F (poly F vs j)) (barycentric (field_of F) (length αs) (poly F αs) j))) (geo (ring_of F) D (poly F αs j) i)
    unfolding term poly
    term_is i j h =
        elem_mul F _ _ (F.laws.mul_below _ _) (power_below F _ _)
        ∙ ap₂ (times F)
        (elem_mul F _ _ (all_at F rs hr j) (dual_below j) ∙ ap (times F (elem F (get_or rs j 0))) (dual_is j))
        (power_is F (get_or αs j 0) (D - 1 - i) (all_at F αs hα j)
        ∙ ap (pow_of (ring_of F) (elem F (get_or αs j 0))) (let z : D - 1 - i ≡ D - suc i = omega arith in z)
        ∙ sym (geo_at (ring_of F) D (elem F (get_or αs j 0)) i h))

    coefficient_is : (i : ℕ) → i < D → elem F (coefficient F αs vs D rs i)
        ≡ sum_of (ring_of F) (length αs) (λ j. times F (times F (poly F rs j) (times F (over F (poly F vs j)) (barycentric (field_of F) (length αs) (poly F αs) j))) (geo (ring_of F) D (poly F αs j) i))
    unfolding coefficient term
    coefficient_is i h =
        sum_is F (length αs) (term i) (λ j. F.laws.mul_below _ _) ∙ sum_cong (ring_of F) (length αs) _ _ (λ j _. term_is i j h)

    pub coefficient_below : (i : ℕ) → coefficient F αs vs D rs i < F.q
    unfolding coefficient
    coefficient_below i = sum_below F _ _

    pub syndrome_length : length (syndrome F αs vs D rs) ≡ suc D
    unfolding syndrome
    syndrome_length =
        length-append (listed D (coefficient F αs vs D rs)) (0 ∷ [])
        ∙ ap (λ (n : ℕ). n + 1) (listed_length D (coefficient F αs vs D rs)) ∙ add-one D

    pub syndrome_at : (i : ℕ) → i < D → get_or (syndrome F αs vs D rs) i 0 ≡ coefficient F αs vs D rs i
    unfolding syndrome
    syndrome_at i h =
        let l : i < length (listed D (coefficient F αs vs D rs)) = subst (λ (n : ℕ). i < n) (sym (listed_length D (coefficient F αs vs D rs))) h in
        get_or_append_left (listed D (coefficient F αs vs D rs)) (0 ∷ []) 0 i l ∙ listed_at D (coefficient F αs vs D rs) i h

    pub syndrome_top : (i : ℕ) → D ≤ i → get_or (syndrome F αs vs D rs) i 0 ≡ 0
    unfolding syndrome
    syndrome_top i h =
        ap (λ (j : ℕ). get_or (syndrome F αs vs D rs) j 0)
        (let e : length (listed D (coefficient F αs vs D rs)) ≡ D = listed_length D (coefficient F αs vs D rs) in
        let z : i ≡ length (listed D (coefficient F αs vs D rs)) + (i - D) = omega arith in z)
        ∙ get_or-append-add (listed D (coefficient F αs vs D rs)) (0 ∷ []) (i - D) 0 ∙ none (i - D)
      where
        none : (j : ℕ) → ◌≡◌ {A = ℕ} (get_or (0 ∷ []) j 0) 0
        none zero = refl
        none (suc j) = refl

    pub syndrome_below : AllBelow F.q (syndrome F αs vs D rs)
    syndrome_below i l =
        elim (dec_lt i D) [
          | yes h ↦ subst (λ (x : ℕ). x < F.q) (sym (syndrome_at i h)) (coefficient_below i)
          | no h ↦ subst (λ (x : ℕ). x < F.q) (sym (syndrome_top i (omega arith))) (pos F)
        ]

pub syndrome_reads : SyndromeReads
unfolding poly syndrome_of dual_of
syndrome_reads F αs vs rs D distinct points multipliers hα hv hr = fun_ext (λ i. go i (dec_lt i D))
  where
    go : (i : ℕ) → Dec (i < D)
        → poly F (syndrome F αs vs D rs) i ≡ syndrome_of (field_of F) (code_of F αs vs D distinct points multipliers) (poly F rs) i
    go i (yes h) = ap (elem F) (syndrome_at F αs vs hα hv D rs hr i h) ∙ coefficient_is F αs vs hα hv D rs hr i h
    go i (no h) =
        ap (elem F) (syndrome_top F αs vs hα hv D rs hr i (omega arith))
        ∙ sym (sum_zero (ring_of F) (length αs) _ (λ j _.
        ap (times F _) (geo_below (ring_of F) D (poly F αs j) i (omega arith)) ∙ L.mul_zero (ring_of F) _))
