-- The sift is sound, one word at most passes by a polynomial of a degree of n - k at most, and a codeword within τ passes by the locator of its errors,
-- which its pair gives up to a constant.
use mathlib.Core.Path.{◌≡◌, refl, sym, ◌∙◌, ap, subst}
use mathlib.Core.List.{[], ◌∷◌}
use mathlib.Core.Bool.{Bool, true, false, cond}
use mathlib.Core.Logic.{◌≢◌}
use Prim.Native.Nat.{ℕ, suc, ◌+◌, ◌≤◌, ◌<◌}
use native.Mathlib.Omega.{arith}
use Rattle.algebra.specs.Ring.{Ring}
use Rattle.algebra.specs.RingLaws as Laws
use Rattle.algebra.specs.Solve.{ring}
use Rattle.algebra.specs.Field.{Field}
use Rattle.algebra.specs.Sums.{count}
use Rattle.algebra.specs.Poly.{const, Below, at, Degree}
use Rattle.algebra.specs.PolyRing.{Poly, const_conv}
use Rattle.algebra.specs.PolyForms.{forms}
use Rattle.algebra.specs.Euclid.{Row}
use Rattle.algebra.proofs.Eval.{ev_more}
use Rattle.algebra.proofs.Roots.{id_hom}
use Rattle.algebra.proofs.FieldLaws.{mul_nonzero, neg_nonzero}
use Rattle.algebra.proofs.PolySums.{times_below, times_at}
use Rattle.algebra.proofs.Products.{count_cong}
use Rattle.algebra.proofs.Degrees.{degree_less}
use Rattle.algebra.proofs.Rows.{const_neg}
use Rattle.decoding.specs.Code.{errors, Code, ε, Λ}
use Rattle.decoding.specs.KeyEquation.{IsPair}
use Rattle.decoding.specs.Words.{Same, error, Codeword, Near}
use Rattle.decoding.specs.Sift.{located, zeros, off, Passes}
use Rattle.decoding.proofs.KeyEquation.{Λ_below, Λ_monic, Λ_root, Λ_nonzero}
use Rattle.decoding.proofs.Words.{count_cover, distance_errors, near_same, word_fixed, word_fixed_at}

module _ (𝓕 : Field) where
  infixl 60 ◌⊕◌
  infixl 70 ◌⊗◌
  infix 80 ⊖◌
  infixl 60 ◌⊞◌
  infixl 70 ◌⊠◌
  infix 80 ⊟◌
  abbrev R : Ring
  R = 𝓕.ring

  open 𝓕.ring use {El, 𝟘, 𝟙, ◌⊕◌, ⊖◌, ◌⊗◌}
  open Poly 𝓕.ring use {◌⊕◌ as ◌⊞◌, ⊖◌ as ⊟◌, ◌⊗◌ as ◌⊠◌}

  -- the places that are no roots
  pub off_marked : (α : ℕ → El) (m : ℕ) (p : ℕ → El) (j : ℕ) → off 𝓕 α m p j ≡ true → at R (α j) m p ≢ 𝟘
  unfolding zeros
  off_marked α m p j = go (𝓕.equal (at R (α j) m p) 𝟘)
    where
      go : (d : Dec (at R (α j) m p ≡ 𝟘)) → cond (elim d [ yes z ↦ true | no z ↦ false ]) false true ≡ true → at R (α j) m p ≢ 𝟘
      go (yes z) e = absurd (subst (λ (t : Bool). cond t ℕ ⊥) (sym e) 0)
      go (no z) e = z

  pub off_many : (n : ℕ) (α : ℕ → El) (m : ℕ) (p : ℕ → El) → n ≤ count n (zeros 𝓕 α m p) + count n (off 𝓕 α m p)
  off_many n α m p = count_cover n (zeros 𝓕 α m p) (off 𝓕 α m p) (λ h k e. ap (λ (t : Bool). cond t false true) e)

  module _ (C : Code 𝓕) (k τ : ℕ) (r : ℕ → El) where
    -- what passes is a codeword within τ
    pub sound : {w c : ℕ → El} → Passes 𝓕 C k τ r w c → Near 𝓕 C k τ r c
    sound t = t.near

    same_size : {w c c' : ℕ → El} (s : Passes 𝓕 C k τ r w c) (t : Passes 𝓕 C k τ r w c') → t.size ≡ s.size
    same_size {w} s t =
        let x : t.size < suc s.size = degree_less 𝓕 t.size (suc s.size) w t.degree s.degree.below in
        let y : s.size < suc t.size = degree_less 𝓕 s.size (suc t.size) w s.degree t.degree.below in
        omega arith

    -- k places at least are no roots, where the degree is at most n - k
    pub off_enough : (D size : ℕ) (w : ℕ → El) → k + D ≤ C.n → Below R (suc D) w → Degree R size w
        → count C.n (zeros 𝓕 C.α (suc size) w) ≡ size → k ≤ count C.n (off 𝓕 C.α (suc size) w)
    off_enough D size w l h d e =
        let x : size < suc D = degree_less 𝓕 size (suc D) w d h in
        let y : C.n ≤ count C.n (zeros 𝓕 C.α (suc size) w) + count C.n (off 𝓕 C.α (suc size) w) =
        off_many C.n C.α (suc size) w in
        omega arith

    -- by a polynomial of a degree of n - k at most there passes one word at most
    pub passes_once : (D : ℕ) → k + D ≤ C.n → {w c c' : ℕ → El} → Below R (suc D) w
        → Passes 𝓕 C k τ r w c → Passes 𝓕 C k τ r w c' → Same C.n c c'
    passes_once D l {w} {c} {c'} h s t =
        word_fixed 𝓕 C k c c' s.near.codeword t.near.codeword (off 𝓕 C.α (suc s.size) w)
        (off_enough D s.size w l h s.degree s.split)
        (λ j u m.
        let v : at R (C.α j) (suc s.size) w ≢ 𝟘 = off_marked C.α (suc s.size) w j m in
        s.agrees j u v ∙ sym (t.agrees j u (subst (λ (x : ℕ). at R (C.α j) (suc x) w ≢ 𝟘) (sym (same_size s t)) v)))

    -- only the values at the n places count
    pub passes_same : {w c c' : ℕ → El} → Same C.n c c' → Passes 𝓕 C k τ r w c → Passes 𝓕 C k τ r w c'
    passes_same h s =
        record {
          size = s.size;
          degree = s.degree;
          split = s.split;
          agrees = λ j u v. sym (h j u) ∙ s.agrees j u v;
          near = near_same 𝓕 C k h s.near;
        }

    -- The codeword c' that is r at k places that are no roots: where any word passes, it is this one
    pub sift_only : (w c' : ℕ → El) → Codeword 𝓕 C k c' → (place : ℕ → ℕ) → ((i : ℕ) → i < k → place i < C.n)
        → ((i j : ℕ) → i < j → j < k → place i ≢ place j) → (m : ℕ) → Below R m w
        → ((i : ℕ) → i < k → at R (C.α (place i)) m w ≢ 𝟘) → ((i : ℕ) → i < k → c' (place i) ≡ r (place i))
        → {c : ℕ → El} → Passes 𝓕 C k τ r w c → Same C.n c c' × Passes 𝓕 C k τ r w c'
    sift_only w c' code place inside apart m h nz agree {c} s =
        let same : Same C.n c c' =
        word_fixed_at 𝓕 C k c c' s.near.codeword code place inside apart
        (λ i u. s.agrees (place i) (inside i u) (λ z. nz i u (value i ∙ z)) ∙ sym (agree i u)) in
        (same, passes_same same s)
      where
        value : (i : ℕ) → at R (C.α (place i)) m w ≡ at R (C.α (place i)) (suc s.size) w
        value i =
            ev_more R R (λ x. x) (id_hom R) (C.α (place i)) (suc s.size) m w s.degree.below (degree_less 𝓕 s.size m w s.degree h)

    -- A codeword c within τ, with the errors e, passes by any multiple of the locator of its errors
    module _ (c : ℕ → El) (near : Near 𝓕 C k τ r c) (a : El) (a≢zero : a ≢ 𝟘) where
      abbrev e : ℕ → El
      e = error 𝓕 r c

      abbrev w : ℕ → El
      w = const R a ⊠ Λ 𝓕 C e

      abbrev N : ℕ
      N = suc (ε 𝓕 C e)

      value : (j : ℕ) → at R (C.α j) N w ≡ a ⊗ at R (C.α j) N (Λ 𝓕 C e)
      value j = times_at R a (C.α j) N (Λ 𝓕 C e)

      root : (j : ℕ) → j < C.n → e j ≢ 𝟘 → at R (C.α j) N w ≡ 𝟘
      root j u h = value j ∙ ap (λ z. a ⊗ z) (Λ_root 𝓕 C e j u h) ∙ Laws.mul_zero R a

      no_root : (j : ℕ) → j < C.n → e j ≡ 𝟘 → at R (C.α j) N w ≢ 𝟘
      no_root j u z y = mul_nonzero 𝓕 a≢zero (Λ_nonzero 𝓕 C e j u z) (sym (value j) ∙ y)

      marks : (j : ℕ) → j < C.n → zeros 𝓕 C.α N w j ≡ errors 𝓕 e j
      unfolding zeros errors
      marks j u = go (𝓕.equal (at R (C.α j) N w) 𝟘) (𝓕.equal (e j) 𝟘)
        where
          go : (s : Dec (at R (C.α j) N w ≡ 𝟘)) (t : Dec (e j ≡ 𝟘))
              → ◌≡◌ {A = Bool} (elim s [ yes z ↦ true | no z ↦ false ]) (elim t [ yes z ↦ false | no z ↦ true ])
          go (yes s) (yes t) = absurd (no_root j u t s)
          go (yes s) (no t) = refl
          go (no s) (yes t) = refl
          go (no s) (no t) = absurd (s (root j u t))

      pub passes : Passes 𝓕 C k τ r (const R a ⊠ Λ 𝓕 C (error 𝓕 r c)) c
      passes =
          record {
            size = ε 𝓕 C e;
            degree =
                record {
                  below = times_below R N a (Λ 𝓕 C e) (Λ_below 𝓕 C e);
                  lead = λ z.
                      a≢zero (sym (R.mul_one a) ∙ ap (λ y. a ⊗ y) (sym (Λ_monic 𝓕 C e)) ∙ sym (const_conv R a (Λ 𝓕 C e) (ε 𝓕 C e)) ∙ z);
                };
            split = count_cong C.n (zeros 𝓕 C.α N w) (errors 𝓕 e) marks;
            agrees = λ j u h.
                elim (𝓕.equal (e j) 𝟘) [ yes z ↦ sym (Laws.eq_of_sub R (r j) (c j) z) | no z ↦ absurd (h (root j u z)) ];
            near = near;
          }

    -- the locator of a multiple of the pair is a multiple of that of the errors
    pub pair_locator : {P L : Row R} {p l : ℕ} {Ω f₁ f₂ : ℕ → El} (c : ℕ → El)
        → IsPair R P L p l (ε 𝓕 C (error 𝓕 r c)) (Λ 𝓕 C (error 𝓕 r c)) Ω f₁ f₂ → (a : El)
        → located R P.b L.b (const R a ⊠ f₁) (const R a ⊠ f₂) ≡ const R (⊖ a) ⊠ Λ 𝓕 C (error 𝓕 r c)
    pair_locator {P = P} {L = L} {f₁ = f₁} {f₂ = f₂} c T a =
        ring (Poly R) (const R a ∷ f₁ ∷ f₂ ∷ P.b ∷ L.b ∷ []) {y = const R a ⊠ (f₁ ⊠ P.b ⊞ f₂ ⊠ L.b)} (search forms depth 20) tt
        ∙ ap (λ z. const R a ⊠ z) (sym T.combination.second)
        ∙ ring (Poly R) (const R a ∷ Λ 𝓕 C (error 𝓕 r c) ∷ []) {y = ⊟ const R a ⊠ Λ 𝓕 C (error 𝓕 r c)} (search forms depth 20) tt
        ∙ ap (λ z. z ⊠ Λ 𝓕 C (error 𝓕 r c)) (const_neg R a)

    pub few_errors : (c : ℕ → El) → Near 𝓕 C k τ r c → ε 𝓕 C (error 𝓕 r c) ≤ τ
    few_errors c near = subst (λ (x : ℕ). x ≤ τ) (distance_errors 𝓕 C.n r c) near.close

    -- The pair of a codeword c within τ, or any non-zero multiple of it
    module _ {P L : Row R} {p l : ℕ} {Ω f₁ f₂ : ℕ → El} (c : ℕ → El) (near : Near 𝓕 C k τ r c)
        (T : IsPair R P L p l (ε 𝓕 C (error 𝓕 r c)) (Λ 𝓕 C (error 𝓕 r c)) Ω f₁ f₂) (a : El) (a≢zero : a ≢ 𝟘) where
      -- c passes by it
      pub pair_passes : Passes 𝓕 C k τ r (located R P.b L.b (const R a ⊠ f₁) (const R a ⊠ f₂)) c
      pair_passes =
          subst (λ (w : ℕ → El). Passes 𝓕 C k τ r w c) (sym (pair_locator c T a)) (passes c near (⊖ a) (neg_nonzero 𝓕 a≢zero))
