-- The functionals of the constraints: they are linear, and that of the order a of (x - β) Q comes from those of the orders a and a - 1 of Q.
use mathlib.Core.Path.{◌≡◌, refl, sym, ◌∙◌, ap, ap₂, fun_ext}
use mathlib.Core.List.{[], ◌∷◌}
use Prim.Native.Nat.{ℕ, suc, ◌≤◌, ◌<◌}
use native.Mathlib.Omega.{arith}
use Rattle.algebra.specs.Ring.{Ring}
use Rattle.algebra.specs.RingLaws as L
use Rattle.algebra.specs.Solve.{ring}
use Rattle.algebra.specs.Sums.{sum}
use Rattle.algebra.specs.Poly.{conv, lin, Below}
use Rattle.algebra.specs.PolyForms.{forms}
use Rattle.algebra.specs.Taylor.{shift, tay, taylor}
use Rattle.algebra.proofs.Sums.{sum_cong, sum_add, sum_scale}
use Rattle.algebra.proofs.Eval.{below_conv}
use Rattle.algebra.proofs.Roots.{lin_below}
use Rattle.algebra.proofs.Multiple.{shifted_zero, shifted_suc}
use Rattle.algebra.proofs.Taylor.{shift_taylor}
use Rattle.algebra.proofs.Shifted.{shift_more}
use Rattle.decoding.specs.Multiplicity.{functional}

module _ (R : Ring) where
  infixl 60 ◌⊕◌
  infixl 70 ◌⊗◌
  infix 80 ⊖◌
  open R use {El, 𝟘, 𝟙, ◌⊕◌, ⊖◌, ◌⊗◌}

  -- a linear combination of two sums
  sum_linear : (n : ℕ) (q : El) (f g h : ℕ → El) → ((i : ℕ) → i < n → h i ≡ f i ⊕ q ⊗ g i)
      → sum R n h ≡ sum R n f ⊕ q ⊗ sum R n g
  sum_linear n q f g h e =
      sum_cong R n h (λ i. f i ⊕ q ⊗ g i) e ∙ sum_add R n f (λ i. q ⊗ g i) ∙ ap (λ z. sum R n f ⊕ z) (sum_scale R n q g)

  module _ (α : El) where
    taylor_linear : (n : ℕ) (q : El) (f g : ℕ → El) (a : ℕ)
        → taylor R n α (λ m. f m ⊕ ⊖ (q ⊗ g m)) a ≡ taylor R n α f a ⊕ ⊖ q ⊗ taylor R n α g a
    unfolding taylor
    taylor_linear n q f g a =
        sum_linear n (⊖ q) (λ m. tay R α m a ⊗ f m) (λ m. tay R α m a ⊗ g m) (λ m. tay R α m a ⊗ (f m ⊕ ⊖ (q ⊗ g m)))
        (λ m _. ring R (tay R α m a ∷ f m ∷ q ∷ g m ∷ []) (search forms depth 20) tt)

    module _ (β : El) (n N : ℕ) (q : ℕ → El) (h : Below R n q) (l : n < N) where
      longer : Below R (suc n) (conv R (lin R β) q)
      longer i k = below_conv R 2 n (lin R β) q (lin_below R β) h i (omega arith)

      taylor_more : (a : ℕ) → shift R α n q a ≡ taylor R N α q a
      taylor_more a = sym (ap (λ (f : ℕ → El). f a) (shift_more R α n N q h (omega arith))) ∙ shift_taylor R α N q a

      times_more : (a : ℕ) → taylor R N α (conv R (lin R β) q) a ≡ shift R α (suc n) (conv R (lin R β) q) a
      times_more a =
          sym (shift_taylor R α N (conv R (lin R β) q) a)
          ∙ ap (λ (f : ℕ → El). f a) (shift_more R α (suc n) N (conv R (lin R β) q) longer (omega arith))

      taylor_times_zero : taylor R N α (conv R (lin R β) q) 0 ≡ (α ⊕ ⊖ β) ⊗ taylor R N α q 0
      taylor_times_zero =
          times_more 0 ∙ shifted_zero R n (conv R (lin R β) q) q α β longer h refl ∙ ap (λ z. (α ⊕ ⊖ β) ⊗ z) (taylor_more 0)

      taylor_times_suc : (a : ℕ)
          → taylor R N α (conv R (lin R β) q) (suc a) ≡ taylor R N α q a ⊕ (α ⊕ ⊖ β) ⊗ taylor R N α q (suc a)
      taylor_times_suc a =
          times_more (suc a) ∙ shifted_suc R n (conv R (lin R β) q) q α β longer h refl a
          ∙ ap₂ (λ y z. (α ⊕ ⊖ β) ⊗ y ⊕ z) (taylor_more (suc a)) (taylor_more a) ∙ R.add_comm _ _

    module _ (ℓ N : ℕ) (c : ℕ → El) where
      pub functional_cong : (a : ℕ) (Q Q' : ℕ → ℕ → El) → ((t m : ℕ) → t ≤ ℓ → Q t m ≡ Q' t m)
          → functional R ℓ N α c a Q ≡ functional R ℓ N α c a Q'
      unfolding functional
      functional_cong a Q Q' e =
          sum_cong R (suc ℓ) (λ t. c t ⊗ taylor R N α (Q t) a) (λ t. c t ⊗ taylor R N α (Q' t) a)
          (λ t k. ap (λ (f : ℕ → El). c t ⊗ taylor R N α f a) (fun_ext (λ m. e t m (omega arith))))

      pub functional_linear : (a : ℕ) (q : El) (Q Q' : ℕ → ℕ → El)
          → functional R ℓ N α c a (λ t m. Q t m ⊕ ⊖ (q ⊗ Q' t m)) ≡ functional R ℓ N α c a Q ⊕ ⊖ q ⊗ functional R ℓ N α c a Q'
      unfolding functional
      functional_linear a q Q Q' =
          sum_linear (suc ℓ) (⊖ q) (λ t. c t ⊗ taylor R N α (Q t) a) (λ t. c t ⊗ taylor R N α (Q' t) a)
          (λ t. c t ⊗ taylor R N α (λ m. Q t m ⊕ ⊖ (q ⊗ Q' t m)) a)
          (λ t _.
          ap (λ z. c t ⊗ z) (taylor_linear N q (Q t) (Q' t) a)
          ∙ ring R (c t ∷ q ∷ taylor R N α (Q t) a ∷ taylor R N α (Q' t) a ∷ []) (search forms depth 20) tt)

      -- of (x - β) Q: from the functionals of the orders a and a - 1 of Q; at β itself the order a - 1 alone is left
      module _ (β : El) (n : ℕ) (Q : ℕ → ℕ → El) (h : (t : ℕ) → t ≤ ℓ → Below R n (Q t)) (l : n < N) where
        pub functional_times_zero : functional R ℓ N α c 0 (λ t. conv R (lin R β) (Q t)) ≡ (α ⊕ ⊖ β) ⊗ functional R ℓ N α c 0 Q
        unfolding functional
        functional_times_zero =
            sum_cong R (suc ℓ) (λ t. c t ⊗ taylor R N α (conv R (lin R β) (Q t)) 0) (λ t. (α ⊕ ⊖ β) ⊗ (c t ⊗ taylor R N α (Q t) 0))
            (λ t k. ap (λ z. c t ⊗ z) (taylor_times_zero β n N (Q t) (h t (omega arith)) l) ∙ L.mul_left_comm R _ _ _)
            ∙ sum_scale R (suc ℓ) (α ⊕ ⊖ β) (λ t. c t ⊗ taylor R N α (Q t) 0)

        pub functional_times_suc : (a : ℕ)
            → functional R ℓ N α c (suc a) (λ t. conv R (lin R β) (Q t))
            ≡ functional R ℓ N α c a Q ⊕ (α ⊕ ⊖ β) ⊗ functional R ℓ N α c (suc a) Q
        unfolding functional
        functional_times_suc a =
            sum_linear (suc ℓ) (α ⊕ ⊖ β) (λ t. c t ⊗ taylor R N α (Q t) a) (λ t. c t ⊗ taylor R N α (Q t) (suc a))
            (λ t. c t ⊗ taylor R N α (conv R (lin R β) (Q t)) (suc a))
            (λ t k.
            ap (λ z. c t ⊗ z) (taylor_times_suc β n N (Q t) (h t (omega arith)) l a)
            ∙ ring R (c t ∷ α ∷ β ∷ taylor R N α (Q t) a ∷ taylor R N α (Q t) (suc a) ∷ []) (search forms depth 20) tt)
