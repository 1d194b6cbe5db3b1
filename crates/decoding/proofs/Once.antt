-- The digits that a walk takes, by one equation: they are the roots of one polynomial over the field; and a pair comes from one leaf only.
use mathlib.Core.Path.{◌≡◌, sym, ◌∙◌, ap, ap₂, fun_ext, subst}
use mathlib.Core.List.{[], ◌∷◌}
use mathlib.Core.Logic.{◌≢◌, ◌↔◌}
use Prim.Native.Nat.{ℕ, zero, suc, ◌+◌, ◌≤◌, ◌<◌}
use native.Mathlib.Omega.{arith}
use native.Mathlib.Decide.{dec_lt}
use Rattle.algebra.specs.Ring.{Ring}
use Rattle.algebra.specs.RingLaws as Laws
use Rattle.algebra.specs.Solve.{ring}
use Rattle.algebra.specs.Field.{Field}
use Rattle.algebra.specs.Sums.{pow}
use Rattle.algebra.specs.Poly.{padd, pneg, const, at, Order}
use Rattle.algebra.specs.PolyRing.{Poly}
use Rattle.algebra.specs.PolyForms.{forms}
use Rattle.algebra.proofs.Sums.{sum_zero}
use Rattle.algebra.proofs.Eval.{ev_sum, order_add, order_neg, order_mul, first_conv}
use Rattle.algebra.proofs.Roots.{id_hom, no_divisors}
use Rattle.decoding.specs.Walk.{layer, Allowed, Visited, LeafRows, Leaf}
use Rattle.decoding.proofs.Walk.{leaf_constant}
use Rattle.decoding.proofs.Whole.{visited_below}

module _ (R : Ring) (ℓ : ℕ) (Q : ℕ → ℕ → R.El) (t : ℕ) (φ : ℕ → R.El) where
  infixl 70 ◌⊗◌
  open R use {El, 𝟘, ◌⊗◌}

  no_value : (e : El) (p : ℕ → El) → ((b : ℕ) → b ≤ ℓ → p b ≡ 𝟘) → at R e (suc ℓ) p ≡ 𝟘
  no_value e p h =
      ev_sum R R (λ x. x) (id_hom R) e (suc ℓ) p
      ∙ sum_zero R (suc ℓ) (λ b. p b ⊗ pow R e b) (λ b u. ap (λ z. z ⊗ pow R e b) (h b (omega arith)) ∙ Laws.zero_mul R (pow R e b))

  -- at the first m at which a coefficient of the layers is not zero
  pub allowed_first : (m : ℕ) → ((b : ℕ) → b ≤ ℓ → Order R m (layer R ℓ Q t φ b)) → (b : ℕ) → b ≤ ℓ → layer R ℓ Q t φ b m ≢ 𝟘
      → (e : El) → Allowed R ℓ Q t φ e ↔ (at R e (suc ℓ) (λ b. layer R ℓ Q t φ b m) ≡ 𝟘)
  allowed_first m h b l nz e = (λ a. a m h, λ z m' h'. go z m' h' (dec_lt m' m) (dec_lt m m'))
    where
      go : at R e (suc ℓ) (λ b. layer R ℓ Q t φ b m) ≡ 𝟘 → (m' : ℕ) → ((b : ℕ) → b ≤ ℓ → Order R m' (layer R ℓ Q t φ b))
          → Dec (m' < m) → Dec (m < m') → at R e (suc ℓ) (λ b. layer R ℓ Q t φ b m') ≡ 𝟘
      go z m' h' (yes u) v = no_value e (λ b. layer R ℓ Q t φ b m') (λ b x. h b x m' u)
      go z m' h' (no u) (yes v) = absurd (nz (h' b l m v))
      go z m' h' (no u) (no v) =
          subst (λ (i : ℕ). at R e (suc ℓ) (λ b. layer R ℓ Q t φ b i) ≡ 𝟘) (let x : m ≡ m' = omega arith in x) z

  -- where there is none, every element
  pub allowed_all : ((b : ℕ) → b ≤ ℓ → (m : ℕ) → layer R ℓ Q t φ b m ≡ 𝟘) → (e : El) → Allowed R ℓ Q t φ e
  allowed_all h e m o = no_value e (λ b. layer R ℓ Q t φ b m) (λ b u. h b u m)

module _ (𝓕 : Field) where
  infixl 60 ◌⊕◌
  infixl 70 ◌⊗◌
  infix 80 ⊖◌
  infixl 60 ◌⊞◌
  infixl 70 ◌⊠◌
  infix 80 ⊟◌
  abbrev R : Ring
  R = 𝓕.ring

  open 𝓕.ring use {El, 𝟘, 𝟙, ◌⊕◌, ⊖◌, ◌⊗◌}
  open Poly 𝓕.ring use {◌⊕◌ as ◌⊞◌, ⊖◌ as ⊟◌, ◌⊗◌ as ◌⊠◌}

  -- a factor with a constant coefficient is cancelled
  order_cancel : (n : ℕ) (p f : ℕ → El) → f 0 ≢ 𝟘 → Order R n (p ⊠ f) → Order R n p
  order_cancel zero p f h o i u = absurd (let z : i < 0 = u in omega arith)
  order_cancel (suc n) p f h o i u = go (order_cancel n p f h (λ j v. o j (omega arith))) (dec_lt i n)
    where
      go : Order R n p → Dec (i < n) → p i ≡ 𝟘
      go less (yes v) = less i v
      go less (no v) =
          ap p (let z : i ≡ n = omega arith in z)
          ∙ no_divisors 𝓕 (f 0) (p n) (R.mul_comm (f 0) (p n) ∙ sym (first_conv R n p f less) ∙ o n (omega arith)) h

  module _ (ℓ w₁ w₂ : ℕ) (Q : ℕ → ℕ → El) (f₁ f₂ : ℕ → El) where
    leaf_order : {φ : ℕ → El} (T : LeafRows R w₁ w₂ φ) → Leaf R ℓ w₁ w₂ Q T f₁ f₂ → Order R (suc (w₁ + w₂)) (f₂ ⊞ ⊟ (φ ⊠ f₁))
    leaf_order {φ} T x =
        subst (Order R (suc (w₁ + w₂)))
        (ring (Poly R) (const R x.factor ∷ T.L.a ∷ T.L.b ∷ φ ∷ [])
        {x = const R x.factor ⊠ (T.L.a ⊞ T.L.b ⊠ φ)}
        {y = const R x.factor ⊠ T.L.a ⊞ ⊟ (φ ⊠ (const R x.factor ⊠ ⊟ T.L.b))} (search forms depth 20) tt
        ∙ ap₂ (λ y z. z ⊞ ⊟ (φ ⊠ y)) (sym x.first) (sym x.second))
        (order_mul R (suc (w₁ + w₂)) (const R x.factor) (T.L.a ⊞ T.L.b ⊠ φ) T.rows.last)

    -- the same pair, the same leaf
    pub leaf_once : (φ ψ : ℕ → El) → Visited R ℓ Q (suc (w₁ + w₂)) φ → Visited R ℓ Q (suc (w₁ + w₂)) ψ
        → (T : LeafRows R w₁ w₂ φ) (S : LeafRows R w₁ w₂ ψ) → Leaf R ℓ w₁ w₂ Q T f₁ f₂ → Leaf R ℓ w₁ w₂ Q S f₁ f₂ → φ ≡ ψ
    leaf_once φ ψ v w T S x y = fun_ext (λ i. go i (dec_lt i (suc (w₁ + w₂))))
      where
        difference : Order R (suc (w₁ + w₂)) (φ ⊞ ⊟ ψ)
        difference =
            order_cancel (suc (w₁ + w₂)) (φ ⊞ ⊟ ψ) f₁ (leaf_constant 𝓕 ℓ w₁ w₂ Q T f₁ f₂ x)
            (subst (Order R (suc (w₁ + w₂)))
            (ring (Poly R) (φ ∷ ψ ∷ f₁ ∷ f₂ ∷ [])
            {x = (f₂ ⊞ ⊟ (ψ ⊠ f₁)) ⊞ ⊟ (f₂ ⊞ ⊟ (φ ⊠ f₁))} {y = (φ ⊞ ⊟ ψ) ⊠ f₁} (search forms depth 20) tt)
            (order_add R (suc (w₁ + w₂)) (f₂ ⊞ ⊟ (ψ ⊠ f₁)) (⊟ (f₂ ⊞ ⊟ (φ ⊠ f₁))) (leaf_order S y)
            (order_neg R (suc (w₁ + w₂)) (f₂ ⊞ ⊟ (φ ⊠ f₁)) (leaf_order T x))))

        go : (i : ℕ) → Dec (i < suc (w₁ + w₂)) → φ i ≡ ψ i
        go i (yes u) = Laws.eq_of_sub R (φ i) (ψ i) (unfold padd pneg in difference i u)
        go i (no u) = visited_below 𝓕 v i (omega arith) ∙ sym (visited_below 𝓕 w i (omega arith))
