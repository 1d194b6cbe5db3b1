-- Where the roots of a constant and of a linear polynomial are.
use Rattle.std.proofs.Common.{◌≡◌, ℕ, ◌+◌, ◌<◌, ◌≤◌, ◌≢◌, List, [], ◌∷◌, length, get_or, sym, ap, ◌∙◌, subst, ap₂, arith}
use Rattle.algebra.specs.Field.{Field}
use Rattle.algebra.specs.Poly.{at, ev, Below}
use Rattle.algebra.specs.Division.{size}
use Rattle.algebra.specs.RingLaws as L
use Rattle.algebra.specs.Solve.{ring}
use Rattle.algebra.specs.PolyForms.{forms}
use Rattle.algebra.proofs.Eval.{ev_more}
use Rattle.algebra.proofs.Roots.{id_hom}
use Rattle.algebra.proofs.Degrees.{size_below, size_lead}
use Rattle.fields.specs.Numbers.{Numbers, AllBelow, elem, minus, times, over, ring_of, field_of, elem_mul, elem_neg, elem_inv, elem_inj}
use Rattle.polynomials.specs.Series.{poly}
use Rattle.polynomials.proofs.Readings.{poly_at, poly_past, all_at}
use Rattle.digits.specs.Digits.{Among}

module _ (𝓕 : Field) where
  infixl 60 ◌⊕◌
  infixl 70 ◌⊗◌
  infix 80 ⊖◌
  open 𝓕.ring use {El, 𝟘, 𝟙, ◌⊕◌, ⊖◌, ◌⊗◌}

  at_one : (e : El) (p : ℕ → El) → at 𝓕.ring e 1 p ≡ p 0
  unfolding ev
  at_one e p = ring 𝓕.ring (p 0 ∷ e ∷ []) (search forms depth 20) tt

  at_two : (e : El) (p : ℕ → El) → at 𝓕.ring e 2 p ≡ p 0 ⊕ e ⊗ p 1
  unfolding ev
  at_two e p = ring 𝓕.ring (p 0 ∷ p 1 ∷ e ∷ []) (search forms depth 20) tt

  linear : (a b i e : El) → b ⊗ i ≡ 𝟙 → a ⊕ e ⊗ b ≡ 𝟘 → e ≡ ⊖ (a ⊗ i)
  linear a b i e h z =
      L.from_eq 𝓕.ring (⊖ e) h (L.from_eq 𝓕.ring i z (ring 𝓕.ring (a ∷ b ∷ i ∷ e ∷ []) (search forms depth 20) tt))

  at_size : (n : ℕ) (p : ℕ → El) (e : El) (k : ℕ) → Below 𝓕.ring n p → k ≡ size 𝓕 n p → k ≤ n → at 𝓕.ring e n p ≡ at 𝓕.ring e k p
  at_size n p e k h ek le =
      ev_more 𝓕.ring 𝓕.ring (λ x. x) (id_hom 𝓕.ring) e k n p (subst (λ (m : ℕ). Below 𝓕.ring m p) (sym ek) (size_below 𝓕 n p h)) le

  pub constant_none : (n : ℕ) (p : ℕ → El) (e : El) → Below 𝓕.ring n p → 1 ≡ size 𝓕 n p → 1 ≤ n → at 𝓕.ring e n p ≢ 𝟘
  constant_none n p e h ek le z = size_lead 𝓕 n 0 p (sym ek) (sym (at_one e p) ∙ sym (at_size n p e 1 h ek le) ∙ z)

  pub linear_root : (n : ℕ) (p : ℕ → El) (e : El) → Below 𝓕.ring n p → 2 ≡ size 𝓕 n p → 2 ≤ n → at 𝓕.ring e n p ≡ 𝟘 → e ≡ ⊖ (p 0 ⊗ 𝓕.inv (p 1))
  linear_root n p e h ek le z =
      linear (p 0) (p 1) (𝓕.inv (p 1)) e (𝓕.mul_inv (p 1) (size_lead 𝓕 n 1 p (sym ek))) (sym (at_two e p) ∙ sym (at_size n p e 2 h ek le) ∙ z)

module _ (F : Numbers) (xs : List ℕ) (all : AllBelow F.q xs) where
  pub span_none : 1 ≡ size (field_of F) (length xs) (poly F xs) → 1 ≤ length xs → Among F (length xs) (poly F xs) 0 0
  span_none e le =
      record {
        within = omega arith;
        least = λ x h z. omega arith;
        most = λ x h z. absurd (constant_none (field_of F) (length xs) (poly F xs) (elem F x) (poly_past F xs) e le z);
      }

  pub span_one : (i p r : ℕ) → i ≡ F.inv (get_or xs 1 0) → p ≡ F.mul (get_or xs 0 0) i → r ≡ F.neg p → 2 ≡ size (field_of F) (length xs) (poly F xs) → 2 ≤ length xs → Among F (length xs) (poly F xs) r (r + 1)
  span_one i p r ei ep er e le =
      record { within = let h : r < F.q = below in omega arith; least = λ x h z. let q = only x h z in omega arith; most = λ x h z. let q = only x h z in omega arith }
    where
      below : r < F.q
      below = subst (λ n. n < F.q) (sym er) (F.laws.neg_below p)

      reads : elem F r ≡ minus F (times F (poly F xs 0) (over F (poly F xs 1)))
      reads =
          ap (elem F) er
          ∙ elem_neg F p (subst (λ n. n < F.q) (sym ep) (F.laws.mul_below (get_or xs 0 0) i))
          ∙ ap (minus F)
          (ap (elem F) ep ∙ elem_mul F (get_or xs 0 0) i (all_at F xs all 0) (subst (λ n. n < F.q) (sym ei) (F.laws.inv_below (get_or xs 1 0)))
          ∙ ap₂ (times F) (sym (poly_at F xs 0)) (ap (elem F) ei ∙ elem_inv F (get_or xs 1 0) (all_at F xs all 1) ∙ ap (over F) (sym (poly_at F xs 1))))

      only : (x : ℕ) → x < F.q → at (ring_of F) (elem F x) (length xs) (poly F xs) ≡ (ring_of F).𝟘 → x ≡ r
      only x h z = elem_inj F x r h below (linear_root (field_of F) (length xs) (poly F xs) (elem F x) (poly_past F xs) e le z ∙ sym reads)
