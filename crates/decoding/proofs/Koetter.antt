-- Kötter's iteration keeps its invariant, and finds an interpolant. In this order: sums of exponents; the start; a step that changes nothing, a step
-- with a pivot (the other rows, the pivot, all together); some row is still in use where there are fewer constraints than coefficients; a whole run.
use mathlib.Core.Path.{◌≡◌, refl, sym, ◌∙◌, ap, ap₂, subst}
use mathlib.Core.List.{[], ◌∷◌}
use mathlib.Core.Logic.{◌≢◌, ◌⊎◌, inl, inr}
use Prim.Native.Nat.{ℕ, zero, suc, ◌+◌, ◌-◌, ◌≤◌, ◌<◌}
use native.Mathlib.Decide.{ℕ_discrete, dec_lt}
use native.Mathlib.Omega.{arith}
use Rattle.algebra.specs.Ring.{Ring}
use Rattle.algebra.specs.RingLaws as L
use Rattle.algebra.specs.Solve.{ring}
use Rattle.algebra.specs.Field.{Field}
use Rattle.algebra.specs.Sums.{total}
use Rattle.algebra.specs.Poly.{conv, lin, Below}
use Rattle.algebra.specs.PolyForms.{forms}
use Rattle.algebra.proofs.Roots.{lin_conv, no_divisors}
use Rattle.decoding.specs.Koetter.{Problem, Live, value, Skip, Pivot, Step, Start, Invariant, Interpolant, Closed, Next, Add, Done, Run}
use Rattle.decoding.proofs.Functional.{functional_cong, functional_linear, functional_times_zero, functional_times_suc}

-- sums of numbers
total_same : (n : ℕ) (f g : ℕ → ℕ) → ((j : ℕ) → j < n → f j ≡ g j) → total n f ≡ total n g
unfolding total
total_same zero f g h = refl
total_same (suc n) f g h = ap₂ ◌+◌ (total_same n f g (λ j k. h j (omega arith))) (h n (omega arith))

total_none : (n : ℕ) (f : ℕ → ℕ) → ((j : ℕ) → j < n → f j ≡ 0) → total n f ≡ 0
unfolding total
total_none zero f h = refl
total_none (suc n) f h =
    let u : total n f ≡ 0 = total_none n f (λ j k. h j (omega arith)) in
    let v : f n ≡ 0 = h n (omega arith) in
    omega arith

pub total_mono : (n : ℕ) (f g : ℕ → ℕ) → ((j : ℕ) → j < n → f j ≤ g j) → total n f ≤ total n g
unfolding total
total_mono zero f g h = omega arith
total_mono (suc n) f g h =
    let u : total n f ≤ total n g = total_mono n f g (λ j k. h j (omega arith)) in
    let v : f n ≤ g n = h n (omega arith) in
    omega arith

-- one value more by one
total_bump : (n p : ℕ) (f g : ℕ → ℕ) → p < n → f p ≡ suc (g p) → ((j : ℕ) → j < n → j ≢ p → f j ≡ g j)
    → total n f ≡ suc (total n g)
unfolding total
total_bump zero p f g l e h = absurd (let z : p < 0 = l in omega arith)
total_bump (suc n) p f g l e h = go (ℕ_discrete n p) (λ u. total_bump n p f g u e (λ j k. h j (omega arith)))
  where
    go : Dec (n ≡ p) → (p < n → total n f ≡ suc (total n g)) → total n f + f n ≡ suc (total n g + g n)
    go (yes q) ih =
        let u : total n f ≡ total n g = total_same n f g (λ j k. h j (omega arith) (omega arith)) in
        let v : f n ≡ suc (g n) = subst (λ z. f z ≡ suc (g z)) (sym q) e in
        omega arith
    go (no q) ih =
        let u : total n f ≡ suc (total n g) = ih (omega arith) in
        let v : f n ≡ g n = h n (omega arith) q in
        omega arith

module _ (R : Ring) where
  infixl 60 ◌⊕◌
  infixl 70 ◌⊗◌
  infix 80 ⊖◌
  open R use {El, 𝟘, 𝟙, ◌⊕◌, ⊖◌, ◌⊗◌}

  -- where (x - β) q has a zero
  times_zero : (β : El) (q : ℕ → El) (m : ℕ) → q m ≡ 𝟘 → ((m' : ℕ) → m ≡ suc m' → q m' ≡ 𝟘) → conv R (lin R β) q m ≡ 𝟘
  times_zero β q zero h k = unfold conv in ap (λ z. lin R β 0 ⊗ z) h ∙ L.mul_zero R _
  times_zero β q (suc m) h k =
      lin_conv R β q m ∙ ap₂ (λ y z. ⊖ β ⊗ y ⊕ z) h (k m refl) ∙ ring R (β ∷ []) (search forms depth 20) tt

module _ (𝓕 : Field) (P : Problem 𝓕.ring.El) where
  infixl 60 ◌⊕◌
  infixl 70 ◌⊗◌
  infix 80 ⊖◌
  abbrev R : Ring
  R = 𝓕.ring

  open 𝓕.ring use {El, 𝟘, 𝟙, ◌⊕◌, ⊖◌, ◌⊗◌}
  open P use {ℓ, W, B, α, c}

  -- at the start
  pub started : (G : ℕ → ℕ → ℕ → El) (e : ℕ → ℕ) → Start 𝓕 P G e → Invariant 𝓕 P (λ _ _ _. ⊥) 0 G e
  started G e s =
      record {
        lead = λ j k l z. 𝓕.one≢zero (sym (s.one j k l) ∙ ap (G j j) (sym (s.exponents j k)) ∙ z);
        above = λ j k l t m u v. s.rest j k l t m u (λ q. positive j t m (s.exponents j k) q v);
        level = λ j k l t m u v w. s.rest j k l t m u (λ q. absurd (let z : t ≡ j = q in omega arith));
        holds = λ j k l i a b d. absurd d;
        count = let u : total (suc ℓ) e ≡ 0 = total_none (suc ℓ) e (λ j k. s.exponents j (omega arith)) in omega arith;
      }
    where
      positive : (j t m : ℕ) → e j ≡ 0 → t ≡ j → e j + W j < m + W t → 0 < m
      positive j t m z q v = let u : W t ≡ W j = ap W q in omega arith

  -- fewer constraints
  pub weaken : (D D' : ℕ → ℕ → ℕ → Type 0) (n : ℕ) (G : ℕ → ℕ → ℕ → El) (e : ℕ → ℕ)
      → ((i a b : ℕ) → D' i a b → D i a b) → Invariant 𝓕 P D n G e → Invariant 𝓕 P D' n G e
  weaken D D' n G e f v =
      record {
        lead = v.lead;
        above = v.above;
        level = v.level;
        holds = λ j k l i a b d. v.holds j k l i a b (f i a b d);
        count = v.count;
      }

  module _ (D : ℕ → ℕ → ℕ → Type 0) (n i a b : ℕ) (G : ℕ → ℕ → ℕ → El) (e : ℕ → ℕ) (G' : ℕ → ℕ → ℕ → El) (e' : ℕ → ℕ)
      (closed : Closed D) (next : Next D i a b) (inv : Invariant 𝓕 P D n G e) where
    -- the new constraint among the old ones
    same_value : (i' a' b' : ℕ) (Q : ℕ → ℕ → El) → i' ≡ i → a' ≡ a → b' ≡ b → value 𝓕 P i' a' b' Q ≡ value 𝓕 P i a b Q
    same_value i' a' b' Q p q r =
        ap (λ z. value 𝓕 P z a' b' Q) p ∙ ap (λ z. value 𝓕 P i z b' Q) q ∙ ap (λ z. value 𝓕 P i a z Q) r

    -- a row in use has no coefficient from B on
    ends : (j : ℕ) → j ≤ ℓ → Live 𝓕 P e j → (t m : ℕ) → t ≤ ℓ → B ≤ m → G j t m ≡ 𝟘
    ends j k l t m u v = inv.above j k l t m u (omega arith)

    module _ (s : Skip 𝓕 P i a b G e G' e') where
      rows : (j : ℕ) → j ≤ ℓ → Live 𝓕 P e j → (t m : ℕ) → t ≤ ℓ → G' j t m ≡ G j t m
      rows j k l t m u = go (dec_lt m B)
        where
          go : Dec (m < B) → G' j t m ≡ G j t m
          go (yes v) = s.rows j k l t m u v
          go (no v) = s.short j t m k u (omega arith) ∙ sym (ends j k l t m u (omega arith))

      was : (j : ℕ) → j ≤ ℓ → Live 𝓕 P e' j → Live 𝓕 P e j
      was j k l = let u : e' j ≡ e j = s.exponents j k in omega arith

      skip_holds : (j : ℕ) → j ≤ ℓ → Live 𝓕 P e j → (i' a' b' : ℕ) → Add D i a b i' a' b' → value 𝓕 P i' a' b' (G j) ≡ 𝟘
      skip_holds j k l i' a' b' (inl d) = inv.holds j k l i' a' b' d
      skip_holds j k l i' a' b' (inr (p, q, r)) = same_value i' a' b' (G j) p q r ∙ s.none j (omega arith) l

      skipped : Invariant 𝓕 P (Add D i a b) (suc n) G' e'
      skipped =
          record {
            lead = λ j k l z. inv.lead j k (was j k l) (ap (G j j) (sym (s.exponents j k)) ∙ sym (rows j k (was j k l) j (e' j) k) ∙ z);
            above = λ j k l t m u v. rows j k (was j k l) t m u ∙ inv.above j k (was j k l) t m u (let w : e' j ≡ e j = s.exponents j k in omega arith);
            level = λ j k l t m u v x. rows j k (was j k l) t m u ∙ inv.level j k (was j k l) t m u (let w : e' j ≡ e j = s.exponents j k in omega arith) x;
            holds = λ j k l i' a' b' d.
                functional_cong R (α i') ℓ B (c i' b') a' (G' j) (G j) (λ t m u. rows j k (was j k l) t m u)
                ∙ skip_holds j k (was j k l) i' a' b' d;
            count =
                let u : total (suc ℓ) e' ≡ total (suc ℓ) e = total_same (suc ℓ) e' e (λ j k. s.exponents j (omega arith)) in
                let v : total (suc ℓ) e ≤ n = inv.count in
                omega arith;
          }

    module _ (s : Pivot 𝓕 P i a b G e G' e') where
      open s use {p, chosen, ratio, ratios, exponent, exponents}
      open chosen use {live, fails}

      inside : p ≤ ℓ
      inside = let u : p < suc ℓ = chosen.inside in omega arith

      least : (j : ℕ) → j ≤ ℓ → Live 𝓕 P e j → value 𝓕 P i a b (G j) ≢ 𝟘 → e p + W p ≤ e j + W j
      least j k l x = chosen.least j (omega arith) l x

      tie : (j : ℕ) → j ≤ ℓ → Live 𝓕 P e j → value 𝓕 P i a b (G j) ≢ 𝟘 → e p + W p ≡ e j + W j → p ≤ j
      tie j k l x q = chosen.tie j (omega arith) l x q

      -- what the step says, for all exponents
      others : (j : ℕ) → j ≤ ℓ → Live 𝓕 P e j → j ≢ p → (t m : ℕ) → t ≤ ℓ → G' j t m ≡ G j t m ⊕ ⊖ (ratio j ⊗ G p t m)
      others j k l ne t m u = go (dec_lt m B)
        where
          go : Dec (m < B) → G' j t m ≡ G j t m ⊕ ⊖ (ratio j ⊗ G p t m)
          go (yes v) = s.others j k l ne t m u v
          go (no v) =
              s.short j t m k u (omega arith)
              ∙ sym (ap₂ (λ y z. y ⊕ ⊖ (ratio j ⊗ z)) (ends j k l t m u (omega arith)) (ends p inside live t m u (omega arith))
              ∙ ring R (ratio j ∷ []) (search forms depth 20) tt)

      pivot : suc (e p) + W p < B → (t m : ℕ) → t ≤ ℓ → G' p t m ≡ conv R (lin R (α i)) (G p t) m
      pivot l t m u = go (dec_lt m B)
        where
          go : Dec (m < B) → G' p t m ≡ conv R (lin R (α i)) (G p t) m
          go (yes v) = s.pivot l t m u v
          go (no v) =
              s.short p t m inside u (omega arith)
              ∙ sym (times_zero R (α i) (G p t) m (ends p inside live t m u (omega arith))
              (λ m' q. inv.above p inside live t m' u (omega arith)))

      -- the coefficients of the pivot from a place on
      after : (t m : ℕ) → t ≤ ℓ → e p + W p ≤ m + W t → (e p + W p ≡ m + W t → p < t) → G p t m ≡ 𝟘
      after t m u v w = go (dec_lt (e p + W p) (m + W t))
        where
          go : Dec (e p + W p < m + W t) → G p t m ≡ 𝟘
          go (yes x) = inv.above p inside live t m u x
          go (no x) = let y : e p + W p ≡ m + W t = omega arith in inv.level p inside live t m u y (w y)

      -- another row: where the pivot is zero, or is not used, the coefficient is kept
      module _ (j : ℕ) (k : j ≤ ℓ) (l : Live 𝓕 P e j) (ne : j ≢ p) where
        kept : (t m : ℕ) → t ≤ ℓ → (value 𝓕 P i a b (G j) ≢ 𝟘 → G p t m ≡ 𝟘) → G' j t m ≡ G j t m
        kept t m u h = others j k l ne t m u ∙ go (𝓕.equal (value 𝓕 P i a b (G j)) 𝟘)
          where
            go : Dec (value 𝓕 P i a b (G j) ≡ 𝟘) → G j t m ⊕ ⊖ (ratio j ⊗ G p t m) ≡ G j t m
            go (yes z) =
                ap (λ y. G j t m ⊕ ⊖ (y ⊗ G p t m))
                (no_divisors 𝓕 (value 𝓕 P i a b (G p)) (ratio j) (R.mul_comm _ _ ∙ ratios j k l ne ∙ z) fails)
                ∙ ring R (G j t m ∷ G p t m ∷ []) (search forms depth 20) tt
            go (no z) =
                ap (λ y. G j t m ⊕ ⊖ (ratio j ⊗ y)) (h z)
                ∙ ring R (G j t m ∷ ratio j ∷ []) (search forms depth 20) tt

        other_lead : G' j j (e j) ≢ 𝟘
        other_lead z =
            inv.lead j k l
            (sym (kept j (e j) k (λ x. after j (e j) k (least j k l x) (λ q. let y : p ≤ j = tie j k l x q in omega arith))) ∙ z)

        other_above : (t m : ℕ) → t ≤ ℓ → e j + W j < m + W t → G' j t m ≡ 𝟘
        other_above t m u v =
            kept t m u (λ x. let y : e p + W p ≤ e j + W j = least j k l x in inv.above p inside live t m u (omega arith))
            ∙ inv.above j k l t m u v

        other_level : (t m : ℕ) → t ≤ ℓ → e j + W j ≡ m + W t → j < t → G' j t m ≡ 𝟘
        other_level t m u v w =
            kept t m u
            (λ x.
            let y : e p + W p ≤ e j + W j = least j k l x in
            after t m u (omega arith) (λ q. let z : p ≤ j = tie j k l x (omega arith) in omega arith))
            ∙ inv.level j k l t m u v w

        other_value : (i' a' b' : ℕ)
            → value 𝓕 P i' a' b' (G' j) ≡ value 𝓕 P i' a' b' (G j) ⊕ ⊖ ratio j ⊗ value 𝓕 P i' a' b' (G p)
        other_value i' a' b' =
            functional_cong R (α i') ℓ B (c i' b') a' (G' j) (λ t m. G j t m ⊕ ⊖ (ratio j ⊗ G p t m)) (λ t m u. others j k l ne t m u)
            ∙ functional_linear R (α i') ℓ B (c i' b') a' (ratio j) (G j) (G p)

        other_holds : (i' a' b' : ℕ) → Add D i a b i' a' b' → value 𝓕 P i' a' b' (G' j) ≡ 𝟘
        other_holds i' a' b' (inl d) =
            other_value i' a' b'
            ∙ ap₂ (λ y z. y ⊕ ⊖ ratio j ⊗ z) (inv.holds j k l i' a' b' d) (inv.holds p inside live i' a' b' d)
            ∙ ring R (ratio j ∷ []) (search forms depth 20) tt
        other_holds i' a' b' (inr (x, y, z)) =
            same_value i' a' b' (G' j) x y z ∙ other_value i a b
            ∙ ap (λ w. w ⊕ ⊖ ratio j ⊗ value 𝓕 P i a b (G p)) (sym (ratios j k l ne))
            ∙ ring R (ratio j ∷ value 𝓕 P i a b (G p) ∷ []) (search forms depth 20) tt

      -- the pivot itself, if it is still in use
      module _ (l : suc (e p) + W p < B) where
        pivot_lead : G' p p (suc (e p)) ≢ 𝟘
        pivot_lead z =
            inv.lead p inside live
            (sym (L.zero_add R _) ∙ ap (λ y. y ⊕ G p p (e p)) (sym (L.mul_zero R (⊖ α i)))
            ∙ ap (λ y. ⊖ α i ⊗ y ⊕ G p p (e p)) (sym (inv.above p inside live p (suc (e p)) inside (omega arith)))
            ∙ sym (lin_conv R (α i) (G p p) (e p)) ∙ sym (pivot l p (suc (e p)) inside) ∙ z)

        pivot_above : (t m : ℕ) → t ≤ ℓ → suc (e p) + W p < m + W t → G' p t m ≡ 𝟘
        pivot_above t m u v =
            pivot l t m u
            ∙ times_zero R (α i) (G p t) m (inv.above p inside live t m u (omega arith))
            (λ m' q. inv.above p inside live t m' u (omega arith))

        pivot_level : (t m : ℕ) → t ≤ ℓ → suc (e p) + W p ≡ m + W t → p < t → G' p t m ≡ 𝟘
        pivot_level t m u v w =
            pivot l t m u
            ∙ times_zero R (α i) (G p t) m (inv.above p inside live t m u (omega arith))
            (λ m' q. inv.level p inside live t m' u (omega arith) w)

        short : (t : ℕ) → t ≤ ℓ → Below R (B - 1) (G p t)
        short t u m v = inv.above p inside live t m u (omega arith)

        zero_factor : (i' : ℕ) (y : El) → i' ≡ i → (α i' ⊕ ⊖ α i) ⊗ y ≡ 𝟘
        zero_factor i' y q = ap (λ z. (α z ⊕ ⊖ α i) ⊗ y) q ∙ ring R (α i ∷ y ∷ []) (search forms depth 20) tt

        pivot_value : (i' a' b' : ℕ) → value 𝓕 P i' a' b' (G' p) ≡ value 𝓕 P i' a' b' (λ t. conv R (lin R (α i)) (G p t))
        pivot_value i' a' b' =
            functional_cong R (α i') ℓ B (c i' b') a' (G' p) (λ t. conv R (lin R (α i)) (G p t)) (λ t m u. pivot l t m u)

        pivot_holds : (i' a' b' : ℕ) → Add D i a b i' a' b' → value 𝓕 P i' a' b' (G' p) ≡ 𝟘
        pivot_holds i' zero b' d =
            pivot_value i' zero b' ∙ functional_times_zero R (α i') ℓ B (c i' b') (α i) (B - 1) (G p) short (omega arith) ∙ go d
          where
            go : Add D i a b i' zero b' → (α i' ⊕ ⊖ α i) ⊗ value 𝓕 P i' zero b' (G p) ≡ 𝟘
            go (inl d) = ap (λ z. (α i' ⊕ ⊖ α i) ⊗ z) (inv.holds p inside live i' zero b' d) ∙ L.mul_zero R _
            go (inr (x, y, z)) = zero_factor i' (value 𝓕 P i' zero b' (G p)) x
        pivot_holds i' (suc a') b' d =
            pivot_value i' (suc a') b' ∙ functional_times_suc R (α i') ℓ B (c i' b') (α i) (B - 1) (G p) short (omega arith) a' ∙ go d
          where
            go : Add D i a b i' (suc a') b'
                → value 𝓕 P i' a' b' (G p) ⊕ (α i' ⊕ ⊖ α i) ⊗ value 𝓕 P i' (suc a') b' (G p) ≡ 𝟘
            go (inl d) =
                ap₂ (λ y z. y ⊕ (α i' ⊕ ⊖ α i) ⊗ z) (inv.holds p inside live i' a' b' (closed i' a' b' d))
                (inv.holds p inside live i' (suc a') b' d)
                ∙ ring R (α i' ∷ α i ∷ []) (search forms depth 20) tt
            go (inr (x, y, z)) =
                ap₂ ◌⊕◌
                (ap₂ (λ u v. value 𝓕 P u a' v (G p)) x z ∙ inv.holds p inside live i a' b (next a' (sym y)))
                (zero_factor i' (value 𝓕 P i' (suc a') b' (G p)) x)
                ∙ R.add_zero 𝟘

      -- every row is the pivot or another one
      each : (X : ℕ → ℕ → Type 0) → (suc (e p) + W p < B → X p (suc (e p)))
          → ((j : ℕ) → j ≤ ℓ → Live 𝓕 P e j → j ≢ p → X j (e j)) → (j : ℕ) → j ≤ ℓ → Live 𝓕 P e' j → X j (e' j)
      each X x y j k l = go (ℕ_discrete j p)
        where
          go : Dec (j ≡ p) → X j (e' j)
          go (yes q) =
              let u : e' j ≡ suc (e p) = ap e' q ∙ exponent in
              let v : W j ≡ W p = ap W q in
              subst (X j) (sym u) (subst (λ z. X z (suc (e p))) (sym q) (x (omega arith)))
          go (no q) = let u : e' j ≡ e j = exponents j k q in subst (X j) (sym u) (y j k (omega arith) q)

      pivoted : Invariant 𝓕 P (Add D i a b) (suc n) G' e'
      pivoted =
          record {
            lead = each (λ j x. G' j j x ≢ 𝟘) pivot_lead other_lead;
            above = each (λ j x. (t m : ℕ) → t ≤ ℓ → x + W j < m + W t → G' j t m ≡ 𝟘) pivot_above other_above;
            level = each (λ j x. (t m : ℕ) → t ≤ ℓ → x + W j ≡ m + W t → j < t → G' j t m ≡ 𝟘) pivot_level other_level;
            holds = each (λ j x. (i' a' b' : ℕ) → Add D i a b i' a' b' → value 𝓕 P i' a' b' (G' j) ≡ 𝟘) pivot_holds other_holds;
            count =
                let u : total (suc ℓ) e' ≡ suc (total (suc ℓ) e) =
                total_bump (suc ℓ) p e' e (let h : p ≤ ℓ = inside in omega arith) exponent (λ j k. exponents j (omega arith)) in
                let v : total (suc ℓ) e ≤ n = inv.count in
                omega arith;
          }

    -- A step keeps the invariant
    pub kept_by_step : Step 𝓕 P i a b G e G' e' → Invariant 𝓕 P (Add D i a b) (suc n) G' e'
    kept_by_step (inl s) = skipped s
    kept_by_step (inr s) = pivoted s

  -- some row is in use, or the exponents sum up
  live_row : (e : ℕ → ℕ) (n : ℕ) → ((j : ℕ) × (j < n) × Live 𝓕 P e j) ⊎ ((j : ℕ) → j < n → B - W j ≤ e j)
  live_row e zero = inr (λ j k. absurd (let z : j < 0 = k in omega arith))
  live_row e (suc n) = go (live_row e n) (dec_lt (e n + W n) B)
    where
      go : ((j : ℕ) × (j < n) × Live 𝓕 P e j) ⊎ ((j : ℕ) → j < n → B - W j ≤ e j) → Dec (Live 𝓕 P e n)
          → ((j : ℕ) × (j < suc n) × Live 𝓕 P e j) ⊎ ((j : ℕ) → j < suc n → B - W j ≤ e j)
      go (inl (j, k, l)) d = inl (j, omega arith, l)
      go (inr h) (yes l) = inl (n, omega arith, l)
      go (inr h) (no l) = inr (λ j k. last h l j k (ℕ_discrete j n))
        where
          last : ((j : ℕ) → j < n → B - W j ≤ e j) → ¬ (Live 𝓕 P e n) → (j : ℕ) → j < suc n → Dec (j ≡ n) → B - W j ≤ e j
          last h l j k (yes q) = subst (λ z. B - W z ≤ e z) (sym q) (omega arith)
          last h l j k (no q) = h j (omega arith)

  -- Fewer constraints than coefficients: some row is an interpolant
  pub found : (D : ℕ → ℕ → ℕ → Type 0) (n : ℕ) (G : ℕ → ℕ → ℕ → El) (e : ℕ → ℕ) → Invariant 𝓕 P D n G e
      → n < total (suc ℓ) (λ j. B - W j) → (j : ℕ) × (j ≤ ℓ) × Live 𝓕 P e j
  found D n G e inv few = go (live_row e (suc ℓ))
    where
      go : ((j : ℕ) × (j < suc ℓ) × Live 𝓕 P e j) ⊎ ((j : ℕ) → j < suc ℓ → B - W j ≤ e j) → (j : ℕ) × (j ≤ ℓ) × Live 𝓕 P e j
      go (inl (j, k, l)) = (j, omega arith, l)
      go (inr h) =
          absurd
          (let u : total (suc ℓ) (λ j. B - W j) ≤ total (suc ℓ) e = total_mono (suc ℓ) (λ j. B - W j) e h in
          let v : total (suc ℓ) e ≤ n = inv.count in
          omega arith)

  -- Any row in use is an interpolant
  pub interpolant : (D : ℕ → ℕ → ℕ → Type 0) (n : ℕ) (G : ℕ → ℕ → ℕ → El) (e : ℕ → ℕ) → Invariant 𝓕 P D n G e
      → (j : ℕ) → j ≤ ℓ → Live 𝓕 P e j → Interpolant 𝓕 P D (G j)
  interpolant D n G e inv j k l =
      record {
        position = j;
        exponent = e j;
        within = k;
        nonzero = inv.lead j k l;
        degrees = λ t m u v. inv.above j k l t m u (omega arith);
        holds = λ i a b d. inv.holds j k l i a b d;
      }

  -- The whole run
  module _ (n : ℕ) (place x y : ℕ → ℕ) (G : ℕ → ℕ → ℕ → ℕ → El) (e : ℕ → ℕ → ℕ) (run : Run 𝓕 P n place x y G e) where
    done_closed : (k : ℕ) → k ≤ n → Closed (Done place x y k)
    done_closed k l i a b (h, u, p, q, r) =
        let (h', u', p', q', r') = run.ordered h (omega arith) a q in
        (h', omega arith, p' ∙ p, q', r' ∙ r)

    done_more : (k i a b : ℕ) → Done place x y (suc k) i a b → Add (Done place x y k) (place k) (x k) (y k) i a b
    done_more k i a b (h, u, p, q, r) = go (ℕ_discrete h k)
      where
        go : Dec (h ≡ k) → Add (Done place x y k) (place k) (x k) (y k) i a b
        go (yes z) = inr (sym p ∙ ap place z, sym q ∙ ap x z, sym r ∙ ap y z)
        go (no z) = inl (h, omega arith, p, q, r)

    pub run_keeps : (k : ℕ) → k ≤ n → Invariant 𝓕 P (Done place x y k) k (G k) (e k)
    run_keeps zero l =
        weaken (λ _ _ _. ⊥) (Done place x y 0) 0 (G 0) (e 0) (λ i a b d. let u : d.0 < 0 = d.1 in omega arith)
        (started (G 0) (e 0) run.start)
    run_keeps (suc k) l =
        weaken (Add (Done place x y k) (place k) (x k) (y k)) (Done place x y (suc k)) (suc k) (G (suc k)) (e (suc k)) (done_more k)
        (kept_by_step (Done place x y k) k (place k) (x k) (y k) (G k) (e k) (G (suc k)) (e (suc k))
        (done_closed k (omega arith)) (run.ordered k l) (run_keeps k (omega arith)) (run.step k l))

    pub run_finds : n < total (suc ℓ) (λ j. B - W j) → (j : ℕ) × (j ≤ ℓ) × Live 𝓕 P (e n) j × Interpolant 𝓕 P (Done place x y n) (G n j)
    run_finds few =
        let inv = run_keeps n (let u : n ≤ n = omega arith in u) in
        let (j, k, l) = found (Done place x y n) n (G n) (e n) inv few in
        (j, k, l, interpolant (Done place x y n) n (G n) (e n) inv j k l)
