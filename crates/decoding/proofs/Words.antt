-- Words: marks and counts; distance and errors; a polynomial below k is fixed by its values at k points, so that k places fix a codeword, and two codewords
-- that are closer than the minimum distance are the same.
use mathlib.Core.Path.{◌≡◌, refl, sym, ◌∙◌, ap, ap₂, subst}
use mathlib.Core.Bool.{Bool, true, false, cond}
use mathlib.Core.Logic.{◌≢◌}
use Prim.Native.Nat.{ℕ, zero, suc, ◌+◌, ◌≤◌, ◌<◌}
use native.Mathlib.Omega.{arith}
use Rattle.algebra.specs.Ring.{Ring}
use Rattle.algebra.specs.RingLaws as Laws
use Rattle.algebra.specs.Field.{Field}
use Rattle.algebra.specs.Sums.{total, all, count, Distinct}
use Rattle.algebra.specs.Poly.{pzero, Below, at}
use Rattle.algebra.specs.PolyRing.{Poly}
use Rattle.algebra.specs.Taylor.{shift}
use Rattle.algebra.proofs.Eval.{below_add, below_neg, ev_add}
use Rattle.algebra.proofs.Roots.{id_hom, roots, no_divisors}
use Rattle.algebra.proofs.Multiple.{shift_at_zero, too_many_roots}
use Rattle.algebra.proofs.Products.{count_cong}
use Rattle.algebra.proofs.Lagrange.{count_all, apart_sym}
use Rattle.algebra.proofs.PolySums.{neg_at}
use Rattle.decoding.specs.Code.{errors, Code, codeword}
use Rattle.decoding.specs.Setting.{minimum_distance}
use Rattle.decoding.specs.Words.{Same, differ, distance, error, Codeword, Near}

-- every place is marked by one of two marks, at least
pub count_cover : (n : ℕ) (b c : ℕ → Bool) → ((h : ℕ) → h < n → b h ≡ false → c h ≡ true) → n ≤ count n b + count n c
unfolding count
count_cover zero b c e = omega arith
count_cover (suc n) b c e = go (b n) (c n) (e n (omega arith)) (count_cover n b c (λ h k. e h (omega arith)))
  where
    go : (s t : Bool) → (s ≡ false → t ≡ true) → n ≤ count n b + count n c
        → suc n ≤ count n b + cond s 1 0 + (count n c + cond t 1 0)
    go true t f h = omega arith
    go false true f h = omega arith
    go false false f h = absurd (subst (λ (z : Bool). cond z ⊥ ℕ) (f refl) 0)

pub total_count : (n : ℕ) (b : ℕ → Bool) → total n (λ i. cond (b i) 1 0) ≡ count n b
unfolding total count
total_count zero b = refl
total_count (suc n) b = ap (λ x. x + cond (b n) 1 0) (total_count n b)

module _ (𝓕 : Field) where
  infixl 60 ◌⊕◌
  infixl 70 ◌⊗◌
  infix 80 ⊖◌
  infixl 60 ◌⊞◌
  infix 80 ⊟◌
  abbrev R : Ring
  R = 𝓕.ring

  open 𝓕.ring use {El, 𝟘, 𝟙, ◌⊕◌, ⊖◌, ◌⊗◌}
  open Poly 𝓕.ring use {◌⊕◌ as ◌⊞◌, ⊖◌ as ⊟◌}

  -- the errors are the places where the words differ
  pub differ_error : (r c : ℕ → El) (j : ℕ) → differ 𝓕 r c j ≡ errors 𝓕 (error 𝓕 r c) j
  unfolding differ errors
  differ_error r c j = go (𝓕.equal (r j) (c j)) (𝓕.equal (r j ⊕ ⊖ c j) 𝟘)
    where
      go : (s : Dec (r j ≡ c j)) (t : Dec (r j ⊕ ⊖ c j ≡ 𝟘))
          → ◌≡◌ {A = Bool} (elim s [ yes z ↦ false | no z ↦ true ]) (elim t [ yes z ↦ false | no z ↦ true ])
      go (yes s) (yes t) = refl
      go (yes s) (no t) = absurd (t (ap (λ z. r j ⊕ ⊖ z) (sym s) ∙ R.add_neg (r j)))
      go (no s) (yes t) = absurd (s (Laws.eq_of_sub R (r j) (c j) t))
      go (no s) (no t) = refl

  pub distance_errors : (n : ℕ) (r c : ℕ → El) → distance 𝓕 n r c ≡ count n (errors 𝓕 (error 𝓕 r c))
  distance_errors n r c = count_cong n (differ 𝓕 r c) (errors 𝓕 (error 𝓕 r c)) (λ j l. differ_error r c j)

  pub distance_same : (n : ℕ) (r c c' : ℕ → El) → Same n c c' → distance 𝓕 n r c ≡ distance 𝓕 n r c'
  unfolding differ
  distance_same n r c c' h =
      count_cong n (differ 𝓕 r c) (differ 𝓕 r c')
      (λ j u. ap (λ x. elim (𝓕.equal (r j) x) as (λ _. Bool) [ yes z ↦ false | no z ↦ true ]) (h j u))

  -- where words do not differ they agree
  pub equal_off : (r c : ℕ → El) (j : ℕ) → cond (differ 𝓕 r c j) false true ≡ true → r j ≡ c j
  unfolding differ
  equal_off r c j = go (𝓕.equal (r j) (c j))
    where
      go : (d : Dec (r j ≡ c j)) → cond (elim d [ yes z ↦ false | no z ↦ true ]) false true ≡ true → r j ≡ c j
      go (yes z) e = z
      go (no z) e = absurd (subst (λ (t : Bool). cond t ℕ ⊥) (sym e) 0)

  -- a polynomial below k that vanishes at k marked points is zero
  pub vanishing : (n k : ℕ) (b : ℕ → Bool) (α p : ℕ → El) → Distinct R n α → Below R k p → k ≤ count n b
      → ((j : ℕ) → j < n → b j ≡ true → at R (α j) k p ≡ 𝟘) → p ≡ pzero R
  vanishing n k b α p apart h l v =
      too_many_roots 𝓕 α m n apart k p (subst (λ (x : ℕ). k ≤ x) (sym (total_count n b)) l) h
      (λ j u. simple j (b j) (v j u))
    where
      m : ℕ → ℕ
      m j = cond (b j) 1 0

      simple : (j : ℕ) (t : Bool) → (t ≡ true → at R (α j) k p ≡ 𝟘) → (i : ℕ) → i < cond t 1 0
          → shift R (α j) k p i ≡ 𝟘
      simple j true z zero u = shift_at_zero R (α j) k p ∙ z refl
      simple j true z (suc i) u = absurd (let y : suc i < 1 = u in omega arith)
      simple j false z i u = absurd (let y : i < 0 = u in omega arith)

  -- a polynomial below k is fixed by its values at k marked points
  pub fixed : (n k : ℕ) (b : ℕ → Bool) (α p q : ℕ → El) → Distinct R n α → Below R k p → Below R k q → k ≤ count n b
      → ((j : ℕ) → j < n → b j ≡ true → at R (α j) k p ≡ at R (α j) k q) → p ≡ q
  fixed n k b α p q apart hp hq l v =
      Laws.eq_of_sub (Poly R) p q
      (vanishing n k b α (p ⊞ ⊟ q) apart (below_add R k p (⊟ q) hp (below_neg R k q hq)) l
      (λ j u t.
      ev_add R R (λ x. x) (id_hom R) (α j) k p (⊟ q)
      ∙ ap₂ ◌⊕◌ (v j u t) (neg_at R (α j) k q) ∙ R.add_neg (at R (α j) k q)))

  -- and by those at the first k
  pub fixed_first : (k : ℕ) (α p q : ℕ → El) → Distinct R k α → Below R k p → Below R k q
      → ((j : ℕ) → j < k → at R (α j) k p ≡ at R (α j) k q) → p ≡ q
  fixed_first k α p q apart hp hq v =
      Laws.eq_of_sub (Poly R) p q
      (roots 𝓕 k (p ⊞ ⊟ q) α (below_add R k p (⊟ q) hp (below_neg R k q hq)) apart
      (λ j u. ev_add R R (λ x. x) (id_hom R) (α j) k p (⊟ q) ∙ ap₂ ◌⊕◌ (v j u) (neg_at R (α j) k q) ∙ R.add_neg (at R (α j) k q)))

  cancel : (a x y : El) → a ≢ 𝟘 → a ⊗ x ≡ a ⊗ y → x ≡ y
  cancel a x y h e =
      Laws.eq_of_sub R x y
      (no_divisors 𝓕 a (x ⊕ ⊖ y)
      (R.mul_add a x (⊖ y) ∙ ap₂ ◌⊕◌ e (Laws.mul_neg R a y) ∙ R.add_neg (a ⊗ y)) h)

  module _ (C : Code 𝓕) (k : ℕ) where
    -- codewords that agree at k places have the same message, and so are the same
    module _ (c c' : ℕ → El) (w : Codeword 𝓕 C k c) (w' : Codeword 𝓕 C k c') (b : ℕ → Bool) (many : k ≤ count C.n b)
        (agree : (j : ℕ) → j < C.n → b j ≡ true → c j ≡ c' j) where
      pub message_fixed : w.message ≡ w'.message
      message_fixed =
          fixed C.n k b C.α w.message w'.message C.distinct w.short w'.short many
          (λ j u t.
          cancel (C.v j) (at R (C.α j) k w.message) (at R (C.α j) k w'.message) (C.v≢zero j u)
          (sym (w.word j u) ∙ agree j u t ∙ w'.word j u))

      pub word_fixed : Same C.n c c'
      word_fixed j u = w.word j u ∙ ap (λ η. codeword 𝓕 C k η j) message_fixed ∙ sym (w'.word j u)

    -- the same for k places that are named one by one
    pub word_fixed_at : (c c' : ℕ → El) → Codeword 𝓕 C k c → Codeword 𝓕 C k c' → (place : ℕ → ℕ) → ((i : ℕ) → i < k → place i < C.n)
        → ((i j : ℕ) → i < j → j < k → place i ≢ place j) → ((i : ℕ) → i < k → c (place i) ≡ c' (place i)) → Same C.n c c'
    word_fixed_at c c' w w' place inside apart agree j u =
        w.word j u ∙ ap (λ η. codeword 𝓕 C k η j) same ∙ sym (w'.word j u)
      where
        same : w.message ≡ w'.message
        same =
            fixed_first k (λ i. C.α (place i)) w.message w'.message
            (λ i h a b. apart_sym R C.n C.α C.distinct (place i) (place h) (inside i (omega arith)) (inside h b) (apart i h a b))
            w.short w'.short
            (λ i a.
            cancel (C.v (place i)) (at R (C.α (place i)) k w.message) (at R (C.α (place i)) k w'.message) (C.v≢zero (place i) (inside i a))
            (sym (w.word (place i) (inside i a)) ∙ agree i a ∙ w'.word (place i) (inside i a)))

    -- codewords that differ in fewer places than n - k + 1 are the same
    pub least : k ≤ C.n → (c c' : ℕ → El) → Codeword 𝓕 C k c → Codeword 𝓕 C k c' → distance 𝓕 C.n c c' < minimum_distance C.n k
        → Same C.n c c'
    least l c c' w w' h =
        word_fixed c c' w w' (λ j. cond (differ 𝓕 c c' j) false true)
        (let x : C.n ≤ distance 𝓕 C.n c c' + count C.n (λ j. cond (differ 𝓕 c c' j) false true) =
        count_cover C.n (differ 𝓕 c c') (λ j. cond (differ 𝓕 c c' j) false true) (λ j u e. ap (λ (t : Bool). cond t false true) e) in
        omega arith)
        (λ j u. equal_off c c' j)

    -- only the values at the n places count
    pub codeword_same : {c c' : ℕ → El} → Same C.n c c' → Codeword 𝓕 C k c → Codeword 𝓕 C k c'
    codeword_same h w = record { message = w.message; short = w.short; word = λ j u. sym (h j u) ∙ w.word j u }

    pub near_same : {τ : ℕ} {r c c' : ℕ → El} → Same C.n c c' → Near 𝓕 C k τ r c → Near 𝓕 C k τ r c'
    near_same {τ = τ} {r = r} {c = c} {c' = c'} h t =
        record { codeword = codeword_same h t.codeword; close = subst (λ (x : ℕ). x ≤ τ) (distance_same C.n r c c' h) t.close }

    -- the message of a codeword is unique
    pub message_unique : k ≤ C.n → (c : ℕ → El) (w w' : Codeword 𝓕 C k c) → w.message ≡ w'.message
    message_unique l c w w' =
        message_fixed c c w w' all (let z : count C.n all ≡ C.n = count_all C.n in omega arith) (λ j u t. refl)
