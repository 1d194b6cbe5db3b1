-- The coefficients of Q (u + φ) when φ grows, computed in place by repeated division by u - ψ.
use mathlib.Core.Path.{◌≡◌, refl, sym, ◌∙◌, ap, ap₂, fun_ext}
use mathlib.Core.List.{[], ◌∷◌}
use Prim.Native.Nat.{ℕ, zero, suc, ◌+◌, ◌<◌}
use native.Mathlib.Omega.{arith}
use Rattle.algebra.specs.Ring.{Ring}
use Rattle.algebra.specs.RingLaws as L
use Rattle.algebra.specs.Solve.{ring}
use Rattle.algebra.specs.Poly.{conv, padd, pneg, const, lin, mono, up, ev, tail, cons, Below}
use Rattle.algebra.specs.PolyRing.{Poly}
use Rattle.algebra.specs.PolyForms.{forms}
use Rattle.algebra.specs.Division.{quot}
use Rattle.algebra.specs.Taylor.{shift, taylor}
use Rattle.algebra.proofs.Eval.{below_const, ev_add, ev_more}
use Rattle.algebra.proofs.Roots.{divide, quot_below, lin_below}
use Rattle.algebra.proofs.Shift.{const_hom, shift_conv, ev_lin, ev_const}
use Rattle.algebra.proofs.Taylor.{is_shift}
use Rattle.algebra.proofs.Monomials.{mono_up}

module _ (R : Ring) where
  infixl 60 ◌⊕◌
  infixl 70 ◌⊗◌
  infix 80 ⊖◌
  open R use {El, 𝟘, 𝟙, ◌⊕◌, ⊖◌, ◌⊗◌}

  -- the array after one pass of T_b += ψ T_(b+1), for b from n - 1 down to 0
  unfoldable pub sweep : El → ℕ → (ℕ → El) → ℕ → El
  sweep ψ n T = cons (ev R (λ x. x) ψ (suc n) T) (quot R (suc n) T ψ)

  pub sweep_last : (ψ : El) (n : ℕ) (T : ℕ → El) → sweep ψ n T n ≡ T n
  unfolding sweep ev quot
  sweep_last ψ zero T = ring R (T 0 ∷ ψ ∷ []) (search forms depth 20) tt
  sweep_last ψ (suc n) T = sweep_last ψ n (tail T)

  pub sweep_step : (ψ : El) (n : ℕ) (T : ℕ → El) (b : ℕ) → b < n → sweep ψ n T b ≡ T b ⊕ ψ ⊗ sweep ψ n T (suc b)
  unfolding sweep ev quot
  sweep_step ψ zero T b h = absurd (let z : b < 0 = h in omega arith)
  sweep_step ψ (suc n) T zero h = refl
  sweep_step ψ (suc n) T (suc b) h = sweep_step ψ n (tail T) b (omega arith)

  x_at : (ψ : El) → padd R (lin R (⊖ ψ)) (pneg R (const R ψ)) ≡ mono R 1
  unfolding padd pneg lin const mono
  x_at ψ =
      fun_ext
      (elim [ zero ↦ ring R (ψ ∷ []) (search forms depth 20) tt | suc i ↦ ap (λ z. const R 𝟙 i ⊕ z) (L.neg_zero R) ∙ R.add_zero _ ])

  front : (c : El) (s : ℕ → El) → padd R (const R c) (up R 1 s) ≡ cons c s
  unfolding padd const up
  front c s = fun_ext (elim [ zero ↦ R.add_zero c | suc i ↦ L.zero_add R (s i) ])

  -- the first place is then done, and the rest is the same task with one coefficient less
  pub taylor_sweep : (ψ : El) (n : ℕ) (T : ℕ → El) → Below R (suc n) T
      → taylor R (suc n) ψ T ≡ cons (sweep ψ n T 0) (taylor R n ψ (tail (sweep ψ n T)))
  unfolding sweep
  taylor_sweep ψ n T h =
      let V : El = ev R (λ x. x) ψ (suc n) T in
      let q : ℕ → El = quot R (suc n) T ψ in
      let hq : Below R n q = quot_below R n T ψ in
      let s : ℕ → El = shift R ψ n q in
      let split : T ≡ padd R (const R V) (conv R (lin R ψ) q) = fun_ext (λ i. divide R (suc n) T ψ h i ∙ (unfold padd in refl)) in
      is_shift R (suc n) ψ T
      ∙ sym (ev_more R (Poly R) (const R) (const_hom R) (lin R (⊖ ψ)) (suc n) (2 + n) T h (omega arith))
      ∙ ap (shift R ψ (2 + n)) split
      ∙ ev_add R (Poly R) (const R) (const_hom R) (lin R (⊖ ψ)) (2 + n) (const R V) (conv R (lin R ψ) q)
      ∙ ap₂ (padd R)
      (ev_more R (Poly R) (const R) (const_hom R) (lin R (⊖ ψ)) 1 (2 + n) (const R V) (below_const R V) (omega arith)
      ∙ ev_const R (Poly R) (const R) (const_hom R) V (lin R (⊖ ψ)) 0)
      (shift_conv R ψ 2 n (2 + n) (lin R ψ) q (lin_below R ψ) hq (omega arith)
      ∙ ap (λ z. conv R z s) (ev_lin R (Poly R) (const R) (const_hom R) ψ (lin R (⊖ ψ)) ∙ x_at ψ) ∙ mono_up R 1 s)
      ∙ front V s
      ∙ ap (cons V) (sym (is_shift R n ψ q))
