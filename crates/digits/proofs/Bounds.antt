-- How many coefficients the runs have while y moves on by e x ^ t.
use Rattle.std.proofs.Common.{◌≡◌, ℕ, zero, suc, ◌-◌, ◌*◌, ◌<◌, ◌≤◌, [], ◌∷◌, sym, refl, ap, ◌∙◌, subst, ap₂, suc-mul, zero-mul, arith}
use mathlib.Core.Path.{fun_ext}
use native.Mathlib.Decide.{ℕ_discrete, dec_lt}
use Rattle.algebra.specs.Ring.{Ring}
use Rattle.algebra.specs.Poly.{conv, padd, mono, tail, cons, ev, Below}
use Rattle.algebra.specs.PolyRing.{Poly}
use Rattle.algebra.specs.Sums.{sum}
use Rattle.algebra.specs.Taylor.{tay, taylor}
use Rattle.algebra.specs.Solve.{ring}
use Rattle.algebra.specs.PolyForms.{forms}
use Rattle.algebra.proofs.Taylor.{tay_same, tay_other}
use Rattle.algebra.proofs.Sums.{sum_zero}
use Rattle.algebra.specs.Division.{quot}
use Rattle.algebra.specs.RingLaws as L
use Rattle.algebra.proofs.Eval.{below_add, below_conv, below_tail}
use Rattle.algebra.proofs.Roots.{quot_below}
use Rattle.algebra.proofs.PolySums.{times_below}
use Rattle.algebra.proofs.Monomials.{mono_below}
use Rattle.algebra.proofs.Sweep.{sweep, taylor_sweep}
use Rattle.digits.specs.Runs.{term, Fits}

module _ (R : Ring) where
  infixl 60 ◌⊕◌
  infixl 70 ◌⊗◌
  open R use {El, 𝟘, 𝟙, ◌⊕◌, ◌⊗◌}

  -- an array of one run stays as it is
  pub sweep_none : (ψ : El) (T : ℕ → El) → Below R 1 T → sweep R ψ 0 T ≡ T
  unfolding sweep ev
  sweep_none ψ T h =
      fun_ext (elim [ zero ↦ ap (λ z. T 0 ⊕ z) (L.mul_zero R ψ) ∙ R.add_zero (T 0) | suc i ↦ quot_below R 0 T ψ i (omega arith) ∙ sym (h (suc i) (omega arith)) ])

  -- the rest first, and then the first run
  pub sweep_more : (ψ : El) (n : ℕ) (T : ℕ → El) → sweep R ψ (suc n) T ≡ cons (T 0 ⊕ ψ ⊗ sweep R ψ n (tail T) 0) (sweep R ψ n (tail T))
  unfolding sweep ev quot
  sweep_more ψ n T = fun_ext (elim [ zero ↦ refl | suc zero ↦ refl | suc (suc i) ↦ refl ])

  pub taylor_one : (ψ : El) (T : ℕ → El) → Below R 1 T → taylor R 1 ψ T ≡ T
  unfolding taylor sum
  taylor_one ψ T h =
      taylor_sweep R ψ 0 T h
      ∙ fun_ext (elim [ zero ↦ ap (λ (s : ℕ → El). s 0) (sweep_none ψ T h) | suc i ↦ sym (h (suc i) (omega arith)) ])

  -- no shift
  pub taylor_none : (n : ℕ) (Q : ℕ → El) (b : ℕ) → b < n → taylor R n 𝟘 Q b ≡ Q b
  unfolding taylor sum
  taylor_none zero Q b h = absurd (let z : b < 0 = h in omega arith)
  taylor_none (suc n) Q b h = go (ℕ_discrete n b) (λ k. taylor_none n Q b k)
    where
      go : Dec (n ≡ b) → (b < n → taylor R n 𝟘 Q b ≡ Q b) → sum R n (λ t. tay R 𝟘 t b ⊗ Q t) ⊕ tay R 𝟘 n b ⊗ Q n ≡ Q b
      go (yes q) ih =
          ap₂ ◌⊕◌ (sum_zero R n (λ t. tay R 𝟘 t b ⊗ Q t) (λ t k. ap (λ z. z ⊗ Q t) (tay_other R t b (omega arith)) ∙ L.zero_mul R _))
          (ap₂ (λ y z. tay R 𝟘 y b ⊗ Q z) q q ∙ ap (λ z. z ⊗ Q b) (tay_same R b))
          ∙ ring R (Q b ∷ []) (search forms depth 20) tt
      go (no q) ih =
          ap₂ (λ y z. y ⊕ z ⊗ Q n) (ih (omega arith)) (tay_other R n b q)
          ∙ ring R (Q b ∷ Q n ∷ []) (search forms depth 20) tt

  pub taylor_same : (n : ℕ) (Q : ℕ → El) → Below R n Q → taylor R n 𝟘 Q ≡ Q
  unfolding taylor
  taylor_same n Q h =
      fun_ext (λ b. elim (dec_lt b n) [
        | yes l ↦ taylor_none n Q b l
        | no l ↦ sum_zero R n (λ t. tay R 𝟘 t b ⊗ Q t) (λ t k. ap (λ z. z ⊗ Q t) (tay_other R t b (omega arith)) ∙ L.zero_mul R _) ∙ sym (h b (omega arith))
      ])

  pub sweep_below : (ψ : El) (n : ℕ) (T : ℕ → El) → Below R (suc n) T → Below R (suc n) (sweep R ψ n T)
  sweep_below ψ zero T h i k = subst (Below R 1) (sym (sweep_none ψ T h)) h i k
  sweep_below ψ (suc n) T h zero k = absurd (let z : suc (suc n) ≤ 0 = k in omega arith)
  sweep_below ψ (suc n) T h (suc i) k =
      ap (λ (s : ℕ → El). s (suc i)) (sweep_more ψ n T) ∙ sweep_below ψ n (tail T) (below_tail R (suc n) T h) i (omega arith)

module _ (R : Ring) where
  open R use {El, 𝟘}

  pub term_below : (e : El) (t : ℕ) → Below R (suc t) (term R e t)
  term_below e t = times_below R (suc t) e (mono R t) (mono_below R t)

  pub fits_tail : (m n : ℕ) (T : ℕ → ℕ → El) → Fits R m n T → Fits R (m - n) n (tail T)
  fits_tail m n T h b i k = h (suc b) i (let z = suc-mul b n in omega arith)

  fits_cons : (m n : ℕ) (p : ℕ → El) (T : ℕ → ℕ → El) → Below R m p → Fits R (m - n) n T → Fits R m n (cons p T)
  fits_cons m n p T h k zero i u = h i (let z = zero-mul n in omega arith)
  fits_cons m n p T h k (suc b) i u = k b i (let z = suc-mul b n in omega arith)

  fits_first : (m n : ℕ) (T : ℕ → ℕ → El) → Fits R m n T → Below R m (T 0)
  fits_first m n T h i k = h 0 i (let z = zero-mul n in omega arith)

  -- the first run with e x ^ t times the next
  added_below : (m n t : ℕ) (e : El) (p q : ℕ → El) → t ≤ n → n ≤ m → Below R m p → Below R (m - n) q → Below R m (padd R p (conv R (term R e t) q))
  added_below m n t e p q ht hn hp hq =
      below_add R m p (conv R (term R e t) q) hp (λ i k. below_conv R (suc t) (m - n) (term R e t) q (term_below e t) hq i (omega arith))

  pub fits_sweep : (m n t : ℕ) (e : El) (ℓ : ℕ) (T : ℕ → ℕ → El) → t ≤ n → ℓ * n ≤ m → Below (Poly R) (suc ℓ) T → Fits R m n T → Fits R m n (sweep (Poly R) (term R e t) ℓ T)
  fits_sweep m n t e zero T ht hm hb h = subst (Fits R m n) (sym (sweep_none (Poly R) (term R e t) T hb)) h
  fits_sweep m n t e (suc ℓ) T ht hm hb h =
      let rest : Fits R (m - n) n (sweep (Poly R) (term R e t) ℓ (tail T)) =
      fits_sweep (m - n) n t e ℓ (tail T) ht (let z = suc-mul ℓ n in omega arith) (below_tail (Poly R) (suc ℓ) T hb) (fits_tail m n T h) in
      subst (Fits R m n) (sym (sweep_more (Poly R) (term R e t) ℓ T))
      (fits_cons m n (padd R (T 0) (conv R (term R e t) (sweep (Poly R) (term R e t) ℓ (tail T) 0))) (sweep (Poly R) (term R e t) ℓ (tail T))
      (added_below m n t e (T 0) (sweep (Poly R) (term R e t) ℓ (tail T) 0) ht (let z = suc-mul ℓ n in omega arith) (fits_first m n T h)
      (fits_first (m - n) n (sweep (Poly R) (term R e t) ℓ (tail T)) rest))
      rest)

  pub fits_taylor : (m n t : ℕ) (e : El) (ℓ : ℕ) (T : ℕ → ℕ → El) → t ≤ n → ℓ * n ≤ m → Below (Poly R) (suc ℓ) T → Fits R m n T → Fits R m n (taylor (Poly R) (suc ℓ) (term R e t) T)
  fits_taylor m n t e zero T ht hm hb h = subst (Fits R m n) (sym (taylor_one (Poly R) (term R e t) T hb)) h
  fits_taylor m n t e (suc ℓ) T ht hm hb h =
      let S : ℕ → ℕ → El = sweep (Poly R) (term R e t) (suc ℓ) T in
      let swept : Fits R m n S = fits_sweep m n t e (suc ℓ) T ht hm hb h in
      let below : Below (Poly R) (suc ℓ) (tail S) = below_tail (Poly R) (suc ℓ) S (sweep_below (Poly R) (term R e t) (suc ℓ) T hb) in
      subst (Fits R m n) (sym (taylor_sweep (Poly R) (term R e t) (suc ℓ) T hb))
      (fits_cons m n (S 0) (taylor (Poly R) (suc ℓ) (term R e t) (tail S)) (fits_first m n S swept)
      (fits_taylor (m - n) n t e ℓ (tail S) ht (let z = suc-mul ℓ n in omega arith) below (fits_tail m n S swept)))
