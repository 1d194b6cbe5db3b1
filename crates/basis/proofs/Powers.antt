-- The turns of the loops of the syndrome.
use Rattle.std.proofs.Common.{◌≡◌, ℕ, zero, suc, ◌+◌, ◌-◌, ◌<◌, Bool, cond, eqb, List, [], ◌∷◌, ◌++◌, map, length, get_or, take, drop, replicate, sym, refl, ap, ◌∙◌, ap₂, add-one, arith, eq-eqb, ne_eqb}
use Rattle.std.specs.List.{range_with_len}
use Rattle.std.proofs.lemmas.List.{ext_get_or, take_at, drop_at}
use Rattle.fields.specs.Numbers.{Numbers}
use Rattle.polynomials.proofs.Writes.{Written}
use Rattle.stages.specs.Coefficients.{listed, sum, product, power}
use Rattle.stages.specs.Syndrome.{dual, coefficient, syndrome}
use Rattle.stages.proofs.Coefficients.{listed_length, listed_at, power_below, product_below}
use Rattle.basis.specs.Powers.{with_powers}

module _ (F : Numbers) where
  -- the factor of the place h in the product of the place j
  abbrev pub factor : List ℕ → ℕ → ℕ → ℕ
  factor αs j h = cond (eqb h j) 1 (F.add (get_or αs j 0) (F.neg (get_or αs h 0)))

  pub product_none : (f : ℕ → ℕ) → 1 ≡ product F 0 f
  unfolding product
  product_none f = refl

  product_more : (f : ℕ → ℕ) (h : ℕ) → product F (h + 1) f ≡ F.mul (product F h f) (f h)
  unfolding product
  product_more f h = ap (λ (n : ℕ). product F n f) (add-one h)

  pub product_other : (αs : List ℕ) (j h p r a n : ℕ) → p ≡ product F h (factor αs j) → (h ≡ j → ⊥) → n ≡ F.neg (get_or αs h 0) → a ≡ F.add (get_or αs j 0) n
      → r ≡ F.mul p a → r ≡ product F (h + 1) (factor αs j)
  product_other αs j h p r a n e ne en ea er =
      er
      ∙ ap₂ F.mul e (ea ∙ ap (F.add (get_or αs j 0)) en
      ∙ ap (λ (t : Bool). cond t 1 (F.add (get_or αs j 0) (F.neg (get_or αs h 0)))) (sym (ne_eqb h j ne)))
      ∙ sym (product_more (factor αs j) h)

  pub product_same : (αs : List ℕ) (j h p : ℕ) → p ≡ product F h (factor αs j) → h ≡ j → p ≡ product F (h + 1) (factor αs j)
  product_same αs j h p e eh =
      e ∙ sym (F.laws.mul_one (product F h (factor αs j)) (product_below F h (factor αs j)))
      ∙ ap (F.mul (product F h (factor αs j))) (ap (λ (t : Bool). cond t 1 (F.add (get_or αs j 0) (F.neg (get_or αs h 0)))) (sym (eq-eqb h j eh)))
      ∙ sym (product_more (factor αs j) h)

  pub dual_by : (αs vs : List ℕ) (j p h r a b : ℕ) → p ≡ product F h (factor αs j) → h ≡ length αs → a ≡ F.inv (get_or vs j 0) → b ≡ F.inv p → r ≡ F.mul a b
      → r ≡ dual F αs vs j
  unfolding dual
  dual_by αs vs j p h r a b e eh ea eb er =
      er ∙ ap₂ F.mul ea (eb ∙ ap F.inv (e ∙ ap (λ (n : ℕ). product F n (factor αs j)) eh))

  -- t a ^ e, one power after another
  pub powers_none : (t a : ℕ) → t < F.q → t ≡ F.mul t (power F a 0)
  unfolding power
  powers_none t a h = sym (F.laws.mul_one t h)

  pub powers_more : (t a e p r : ℕ) → t < F.q → a < F.q → p ≡ F.mul t (power F a e) → r ≡ F.mul p a → r ≡ F.mul t (power F a (suc e))
  unfolding power
  powers_more t a e p r ht ha ep er =
      er ∙ ap (λ (x : ℕ). F.mul x a) ep
      ∙ F.laws.mul_assoc t (power F a e) a ht (power_below F a e) ha
      ∙ ap (F.mul t) (F.laws.mul_comm (power F a e) a (power_below F a e) ha)

  pub powers_written : (t a lo : ℕ) (xs ys : List ℕ) → lo ≡ 0
      → Written lo (length xs) (λ i. F.add (get_or xs i 0) (F.mul t (power F a (length xs - 1 - i)))) xs ys → ys ≡ with_powers F t a xs
  powers_written t a lo xs ys z w =
      ext_get_or 0 ys (with_powers F t a xs) (w.long ∙ sym (listed_length (length xs) _)) (λ i h.
      let l : i < length xs = let e = w.long in omega arith in
      w.inside i (omega arith) l ∙ sym (listed_at (length xs) _ i l))

  -- the sums after j places, and a zero
  module _ (αs vs : List ℕ) (D : ℕ) (rs : List ℕ) where
    abbrev pub term : ℕ → ℕ → ℕ
    term i h = F.mul (F.mul (get_or rs h 0) (dual F αs vs h)) (power F (get_or αs h 0) (D - 1 - i))

    abbrev pub sums : ℕ → List ℕ
    sums j = listed D (λ i. sum F j (term i)) ++ 0 ∷ []

    pub sums_none : (n : ℕ) (xs : List ℕ) → n ≡ suc D → xs ≡ replicate n 0 → xs ≡ sums 0
    unfolding sum
    sums_none n xs en ex = ex ∙ ap (λ (m : ℕ). replicate m 0) en ∙ zeros D 0
      where
        zeros : (d a : ℕ) → replicate (suc d) 0 ≡ map (λ i. sum F 0 (term i)) (range_with_len a d) ++ 0 ∷ []
        zeros zero a = refl
        zeros (suc d) a = ap (λ (xs : List ℕ). 0 ∷ xs) (zeros d (a + 1))

    sum_more : (f : ℕ → ℕ) (j : ℕ) → sum F (j + 1) f ≡ F.add (sum F j f) (f j)
    unfolding sum
    sum_more f j = ap (λ (n : ℕ). sum F n f) (add-one j)

    sums_front : (j : ℕ) → take D (sums j) ≡ listed D (λ i. sum F j (term i))
    sums_front j = take_at (listed D (λ i. sum F j (term i))) (0 ∷ []) D (listed_length D (λ i. sum F j (term i)))

    sums_back : (j : ℕ) → drop D (sums j) ≡ 0 ∷ []
    sums_back j = drop_at (listed D (λ i. sum F j (term i))) (0 ∷ []) D (listed_length D (λ i. sum F j (term i)))

    front_more : (j t α : ℕ) → t ≡ F.mul (get_or rs j 0) (dual F αs vs j) → α ≡ get_or αs j 0
        → with_powers F t α (listed D (λ i. sum F j (term i))) ≡ listed D (λ i. sum F (j + 1) (term i))
    front_more j t α et eα =
        ext_get_or 0 _ _ (listed_length _ _ ∙ listed_length D _ ∙ sym (listed_length D _)) (λ i h.
        let n : ℕ = length (listed D (λ i. sum F j (term i))) in
        let e : n ≡ D = listed_length D (λ i. sum F j (term i)) in
        let l : i < n = let z = listed_length n (λ i. F.add (get_or (listed D (λ i. sum F j (term i))) i 0) (F.mul t (power F α (n - 1 - i)))) in omega arith in
        let k : i < D = omega arith in
        listed_at n _ i l
        ∙ ap₂ F.add (listed_at D (λ i. sum F j (term i)) i k)
        (ap₂ F.mul et (ap₂ (power F) eα (ap (λ (m : ℕ). m - 1 - i) e)))
        ∙ sym (sum_more (term i) j) ∙ sym (listed_at D (λ i. sum F (j + 1) (term i)) i k))

    pub sums_more : (j t α last : ℕ) (xs ys : List ℕ) → xs ≡ sums j → last ≡ D → t ≡ F.mul (get_or rs j 0) (dual F αs vs j) → α ≡ get_or αs j 0
        → ys ≡ with_powers F t α (take last xs) → ys ++ drop last xs ≡ sums (j + 1)
    sums_more j t α last xs ys ex el et eα ey =
        ap₂ ◌++◌
        (ey ∙ ap (with_powers F t α) (ap₂ (λ (m : ℕ) (zs : List ℕ). take m zs) el ex ∙ sums_front j) ∙ front_more j t α et eα)
        (ap₂ (λ (m : ℕ) (zs : List ℕ). drop m zs) el ex ∙ sums_back j)

    pub sums_all : (j : ℕ) (xs : List ℕ) → xs ≡ sums j → j ≡ length αs → xs ≡ syndrome F αs vs D rs
    unfolding syndrome coefficient
    sums_all j xs ex ej = ex ∙ ap sums ej
