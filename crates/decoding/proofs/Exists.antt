-- A step of Kötter's iteration can always be made, so that an interpolant exists where there are more coefficients than constraints.
use mathlib.Core.Path.{◌≡◌, refl, sym, ◌∙◌, ap, subst}
use mathlib.Core.Logic.{◌≢◌, ◌⊎◌, inl, inr}
use Prim.Native.Nat.{ℕ, zero, suc, ◌+◌, ◌-◌, ◌≤◌, ◌<◌}
use native.Mathlib.Decide.{ℕ_discrete, dec_lt}
use native.Mathlib.Omega.{arith}
use Rattle.algebra.specs.Ring.{Ring}
use Rattle.algebra.specs.Field.{Field}
use Rattle.algebra.specs.Sums.{total}
use Rattle.algebra.specs.Poly.{conv, lin}
use Rattle.decoding.specs.Koetter.{Problem, Live, value, None, Least, Step, Invariant, Interpolant, Add, Triangle, Upto, steps}
use Rattle.decoding.proofs.Koetter.{started, weaken, kept_by_step, found, interpolant}
use Rattle.decoding.proofs.Choose.{none_more, least_pass, least_keep, least_first, least_new}
use Rattle.decoding.proofs.Count.{upto_none, upto_closed, upto_next, upto_more, upto_row, upto_place, upto_all, steps_row, steps_place}

module _ (𝓕 : Field) (P : Problem 𝓕.ring.El) where
  infixl 60 ◌⊕◌
  infixl 70 ◌⊗◌
  infix 80 ⊖◌
  abbrev R : Ring
  R = 𝓕.ring

  open 𝓕.ring use {El, 𝟘, 𝟙, ◌⊕◌, ⊖◌, ◌⊗◌}
  open P use {ℓ, W, B, α, c}

  -- rows without their coefficients from B on
  cut : (ℕ → ℕ → ℕ → El) → ℕ → ℕ → ℕ → El
  cut G j t m = elim (dec_lt m B) [ yes _ ↦ G j t m | no _ ↦ 𝟘 ]

  cut_in : (G : ℕ → ℕ → ℕ → El) (j t m : ℕ) → m < B → cut G j t m ≡ G j t m
  unfolding cut
  cut_in G j t m h = go (dec_lt m B)
    where
      go : (d : Dec (m < B)) → elim d [ yes _ ↦ G j t m | no _ ↦ 𝟘 ] ≡ G j t m
      go (yes _) = refl
      go (no l) = absurd (l h)

  cut_out : (G : ℕ → ℕ → ℕ → El) (j t m : ℕ) → B ≤ m → cut G j t m ≡ 𝟘
  unfolding cut
  cut_out G j t m h = go (dec_lt m B)
    where
      go : (d : Dec (m < B)) → elim d [ yes _ ↦ G j t m | no _ ↦ 𝟘 ] ≡ 𝟘
      go (yes l) = absurd (let u : m < B = l in omega arith)
      go (no _) = refl

  module _ (i a b : ℕ) (G : ℕ → ℕ → ℕ → El) (e : ℕ → ℕ) where
    choose : (k : ℕ) → None 𝓕 P i a b G e k ⊎ ((p : ℕ) × Least 𝓕 P i a b G e k p)
    choose zero = inl (λ j l. absurd (let z : j < 0 = l in omega arith))
    choose (suc k) = go (choose k) (dec_lt (e k + W k) B) (𝓕.equal (value 𝓕 P i a b (G k)) 𝟘)
      where
        go : None 𝓕 P i a b G e k ⊎ ((p : ℕ) × Least 𝓕 P i a b G e k p) → Dec (Live 𝓕 P e k) → Dec (value 𝓕 P i a b (G k) ≡ 𝟘)
            → None 𝓕 P i a b G e (suc k) ⊎ ((p : ℕ) × Least 𝓕 P i a b G e (suc k) p)
        go (inl f) d (yes z) = inl (none_more 𝓕 P i a b G e k (λ _. z) f)
        go (inl f) (no l) (no z) = inl (none_more 𝓕 P i a b G e k (λ u. absurd (l u)) f)
        go (inl f) (yes l) (no z) = inr (k, least_first 𝓕 P i a b G e k l z f)
        go (inr (p, s)) d (yes z) = inr (p, least_pass 𝓕 P i a b G e k p (λ _. z) s)
        go (inr (p, s)) (no l) (no z) = inr (p, least_pass 𝓕 P i a b G e k p (λ u. absurd (l u)) s)
        go (inr (p, s)) (yes l) (no z) = last (dec_lt (e k + W k) (e p + W p))
          where
            last : Dec (e k + W k < e p + W p) → None 𝓕 P i a b G e (suc k) ⊎ ((p : ℕ) × Least 𝓕 P i a b G e (suc k) p)
            last (yes better) = inr (k, least_new 𝓕 P i a b G e k p l z better s)
            last (no worse) = inr (p, least_keep 𝓕 P i a b G e k p (omega arith) s)

    -- A step can be made
    pub step_exists : (G' : ℕ → ℕ → ℕ → El) × (e' : ℕ → ℕ) × Step 𝓕 P i a b G e G' e'
    step_exists = go (choose (suc ℓ))
      where
        go : None 𝓕 P i a b G e (suc ℓ) ⊎ ((p : ℕ) × Least 𝓕 P i a b G e (suc ℓ) p)
            → (G' : ℕ → ℕ → ℕ → El) × (e' : ℕ → ℕ) × Step 𝓕 P i a b G e G' e'
        go (inl f) = (
          cut G,
          e,
          inl
              (record { none = f; short = λ j t m _ _ l. cut_out G j t m l; rows = λ j _ _ t m _ l. cut_in G j t m l; exponents = λ _ _. refl }),
        )
        go (inr (p, s)) = (
          cut rows,
          exps,
          inr
              (record {
                p = p;
                chosen = s;
                ratio = ratio;
                ratios = λ j k l ne. R.mul_assoc _ _ _ ∙ ap (λ z. value 𝓕 P i a b (G j) ⊗ z) (R.mul_comm _ _ ∙ 𝓕.mul_inv (value 𝓕 P i a b (G p)) s.fails) ∙ R.mul_one _;
                short = λ j t m _ _ l. cut_out rows j t m l;
                others = λ j _ _ ne t m _ l. cut_in rows j t m l ∙ other j t m (ℕ_discrete j p) ne;
                pivot = λ _ t m _ l. cut_in rows p t m l ∙ same t m (ℕ_discrete p p);
                exponent = same_exp (ℕ_discrete p p);
                exponents = λ j k ne. other_exp j (ℕ_discrete j p) ne;
              }),
        )
          where
            ratio : ℕ → El
            ratio j = value 𝓕 P i a b (G j) ⊗ 𝓕.inv (value 𝓕 P i a b (G p))

            row : (j : ℕ) → Dec (j ≡ p) → ℕ → ℕ → El
            row j (yes _) t m = conv R (lin R (α i)) (G p t) m
            row j (no _) t m = G j t m ⊕ ⊖ (ratio j ⊗ G p t m)

            rows : ℕ → ℕ → ℕ → El
            rows j = row j (ℕ_discrete j p)

            exp : (j : ℕ) → Dec (j ≡ p) → ℕ
            exp j (yes _) = suc (e p)
            exp j (no _) = e j

            exps : ℕ → ℕ
            exps j = exp j (ℕ_discrete j p)

            other : (j t m : ℕ) (d : Dec (j ≡ p)) → j ≢ p → row j d t m ≡ G j t m ⊕ ⊖ (ratio j ⊗ G p t m)
            other j t m (yes q) ne = absurd (ne q)
            other j t m (no q) ne = refl

            same : (t m : ℕ) (d : Dec (p ≡ p)) → row p d t m ≡ conv R (lin R (α i)) (G p t) m
            same t m (yes q) = refl
            same t m (no q) = absurd (q refl)

            same_exp : (d : Dec (p ≡ p)) → exp p d ≡ suc (e p)
            same_exp (yes q) = refl
            same_exp (no q) = absurd (q refl)

            other_exp : (j : ℕ) (d : Dec (j ≡ p)) → j ≢ p → exp j d ≡ e j
            other_exp j (yes q) ne = absurd (ne q)
            other_exp j (no q) ne = refl

  -- the loops
  abbrev Reached : ℕ → ℕ → ℕ → ℕ → Type 0
  Reached s i b a = (G : ℕ → ℕ → ℕ → El) × (e : ℕ → ℕ) × Invariant 𝓕 P (Upto s i b a) (steps s i b a) G e

  moved : (D D' : ℕ → ℕ → ℕ → Type 0) (n n' : ℕ) (G : ℕ → ℕ → ℕ → El) (e : ℕ → ℕ) → ((i a b : ℕ) → D' i a b → D i a b) → n ≡ n'
      → Invariant 𝓕 P D n G e → Invariant 𝓕 P D' n' G e
  moved D D' n n' G e f q v = weaken 𝓕 P D D' n' G e f (subst (λ z. Invariant 𝓕 P D z G e) q v)

  module _ (s : ℕ) where
    begin : Reached s 0 0 0
    begin = (
      rows,
      (λ _. 0),
      moved (λ _ _ _. ⊥) (Upto s 0 0 0) 0 (steps s 0 0 0) rows (λ _. 0) (upto_none s) none
          (started 𝓕 P rows (λ _. 0) (record { exponents = λ j k. refl; one = λ j k l. one j (ℕ_discrete j j); rest = λ j k l t m u. rest j t m (ℕ_discrete j t) })),
    )
      where
        row : (j t : ℕ) → Dec (j ≡ t) → ℕ → El
        row j t (yes _) zero = 𝟙
        row j t (yes _) (suc m) = 𝟘
        row j t (no _) zero = 𝟘
        row j t (no _) (suc m) = 𝟘

        rows : ℕ → ℕ → ℕ → El
        rows j t m = row j t (ℕ_discrete j t) m

        one : (j : ℕ) (d : Dec (j ≡ j)) → row j j d 0 ≡ 𝟙
        one j (yes q) = refl
        one j (no q) = absurd (q refl)

        rest : (j t m : ℕ) (d : Dec (j ≡ t)) → (t ≡ j → 0 < m) → row j t d m ≡ 𝟘
        rest j t zero (yes q) h = absurd (let u : 0 < 0 = h (sym q) in omega arith)
        rest j t (suc m) (yes q) h = refl
        rest j t zero (no q) h = refl
        rest j t (suc m) (no q) h = refl

        none : 0 ≡ steps s 0 0 0
        none = unfold total in omega arith

    turn : (i b a : ℕ) → a + b < s → Reached s i b a → Reached s i b (suc a)
    turn i b a h (G, e, inv) =
        let (G', e', step) = step_exists i a b G e in (
          G',
          e',
          moved (Add (Upto s i b a) i a b) (Upto s i b (suc a)) (suc (steps s i b a)) (steps s i b (suc a)) G' e' (upto_more s i b a) (omega arith)
              (kept_by_step 𝓕 P (Upto s i b a) (steps s i b a) i a b G e G' e' (upto_closed s i b a) (upto_next s i b a h) inv step),
        )

    row : (i b a : ℕ) → a ≤ s - b → Reached s i b 0 → Reached s i b a
    row i b zero h r = r
    row i b (suc a) h r = turn i b a (omega arith) (row i b a (omega arith) r)

    place : (i b : ℕ) → b ≤ s → Reached s i 0 0 → Reached s i b 0
    place i zero h r = r
    place i (suc b) h r =
        let (G, e, inv) = row i b (s - b) (omega arith) (place i b (omega arith) r) in
        (G, e, moved (Upto s i b (s - b)) (Upto s i (suc b) 0) (steps s i b (s - b)) (steps s i (suc b) 0) G e (upto_row s i b) (steps_row s i b) inv)

    all : (i : ℕ) → Reached s i 0 0
    all zero = begin
    all (suc i) =
        let (G, e, inv) = place i s (omega arith) (all i) in
        (G, e, moved (Upto s i s 0) (Upto s (suc i) 0 0) (steps s i s 0) (steps s (suc i) 0 0) G e (upto_place s i) (steps_place s i) inv)

    -- An interpolant of n places, where there are more coefficients than constraints
    pub exists : (n : ℕ) → steps s n 0 0 < total (suc ℓ) (λ j. B - W j) → (Q : ℕ → ℕ → El) × Interpolant 𝓕 P (Triangle n s) Q
    exists n few =
        let (G, e, inv') = all n in
        let inv : Invariant 𝓕 P (Triangle n s) (steps s n 0 0) G e = weaken 𝓕 P (Upto s n 0 0) (Triangle n s) (steps s n 0 0) G e (upto_all n s) inv' in
        let (j, k, l) = found 𝓕 P (Triangle n s) (steps s n 0 0) G e inv few in
        (G j, interpolant 𝓕 P (Triangle n s) (steps s n 0 0) G e inv j k l)
