-- The series to which a walk comes, from the first digit on, are the prefixes that the theory visits.
use Rattle.std.proofs.Common.{◌≡◌, ℕ, zero, suc, ◌+◌, ◌<◌, List, [], ◌∷◌, ◌++◌, length, sym, refl, ap, ◌∙◌, subst, ap₂, arith, length-append}
use mathlib.Core.Path.{fun_ext}
use Rattle.algebra.specs.Ring.{Ring}
use Rattle.algebra.specs.Poly.{padd, pzero, const, mono, up, cons, Below}
use Rattle.algebra.specs.PolyRing.{Poly, padd_assoc, padd_comm, padd_zero, const_conv}
use Rattle.algebra.specs.Taylor.{taylor}
use Rattle.algebra.specs.RingLaws as L
use Rattle.algebra.proofs.Taylor.{taylor_add}
use Rattle.algebra.proofs.Monomials.{mono_up}
use Rattle.decoding.specs.Walk.{Visited}
use Rattle.decoding.specs.Walk.Visited.{start, further}
use Rattle.fields.specs.Numbers.{Numbers, Element, elem, elem_value, ring_of}
use Rattle.polynomials.specs.Series.{poly}
use Rattle.digits.specs.Runs.{term}
use Rattle.digits.specs.Digits.{Allowed}
use Rattle.digits.specs.Walks.{Steps, Ends}
use Rattle.digits.proofs.Bounds.{taylor_same}
use Rattle.digits.proofs.Arrays.{poly_none}
use Rattle.digits.proofs.Columns.{poly_cons}

module _ (R : Ring) where
  infixl 60 ◌⊕◌
  infixl 70 ◌⊗◌
  open R use {El, 𝟘, 𝟙, ◌⊕◌, ◌⊗◌}

  -- a coefficient in front: a x ^ t and the rest one place on
  front_at : (a : El) (t : ℕ) (p : ℕ → El) (i : ℕ) → a ⊗ mono R t i ⊕ up R (suc t) p i ≡ up R t (cons a p) i
  unfolding mono const up
  front_at a zero p zero = ap (λ z. z ⊕ 𝟘) (R.mul_one a) ∙ R.add_zero a
  front_at a zero p (suc i) = ap (λ z. z ⊕ p i) (L.mul_zero R a) ∙ L.zero_add R (p i)
  front_at a (suc t) p zero = ap (λ z. z ⊕ 𝟘) (L.mul_zero R a) ∙ R.add_zero 𝟘
  front_at a (suc t) p (suc i) = front_at a t p i

  front : (a : El) (t : ℕ) (p : ℕ → El) → padd R (term R a t) (up R (suc t) p) ≡ up R t (cons a p)
  unfolding padd
  front a t p = fun_ext (λ i. ap (λ z. z ⊕ up R (suc t) p i) (const_conv R a (mono R t) i) ∙ front_at a t p i)

  up_none : (t : ℕ) → up R t (pzero R) ≡ pzero R
  up_none t = sym (mono_up R t (pzero R)) ∙ L.mul_zero (Poly R) (mono R t)

module _ (F : Numbers) (ℓ : ℕ) (Q : ℕ → ℕ → Element F) where
  abbrev R : Ring
  R = ring_of F

  abbrev T : (ℕ → Element F) → ℕ → ℕ → Element F
  T φ = taylor (Poly R) (suc ℓ) φ Q

  -- φ with the digits es from the place t on
  abbrev grown : (ℕ → Element F) → ℕ → List ℕ → ℕ → Element F
  grown φ t [] = φ
  grown φ t (e ∷ es) = grown (padd R φ (term R (elem F e) t)) (suc t) es

  next : (φ : ℕ → Element F) (t e : ℕ) → taylor (Poly R) (suc ℓ) (term R (elem F e) t) (T φ) ≡ T (padd R φ (term R (elem F e) t))
  next φ t e = taylor_add (Poly R) (suc ℓ) φ (term R (elem F e) t) Q

  steps_visited : (es : List ℕ) (t n : ℕ) (φ : ℕ → Element F) → n ≡ t + length es → Visited R ℓ Q t φ → Steps F ℓ t (T φ) es → Visited R ℓ Q n (grown φ t es)
  steps_visited [] t n φ e v s = subst (λ (k : ℕ). Visited R ℓ Q k φ) (let z : t ≡ n = omega arith in z) v
  steps_visited (d ∷ es) t n φ e v s =
      steps_visited es (suc t) n (padd R φ (term R (elem F d) t)) (omega arith) (further (elem F d) v s.1)
      (subst (λ (U : ℕ → ℕ → Element F). Steps F ℓ (suc t) U es) (next φ t d) s.2)

  grown_push : (es : List ℕ) (t n : ℕ) (φ : ℕ → Element F) (e : ℕ) → n ≡ t + length es → grown φ t (es ++ e ∷ []) ≡ padd R (grown φ t es) (term R (elem F e) n)
  grown_push [] t n φ e h = ap (λ (k : ℕ). padd R φ (term R (elem F e) k)) (let z : t ≡ n = omega arith in z)
  grown_push (d ∷ es) t n φ e h = grown_push es (suc t) n (padd R φ (term R (elem F d) t)) e (omega arith)

  steps_push : (es : List ℕ) (t n : ℕ) (φ : ℕ → Element F) (e : ℕ) → n ≡ t + length es → e < F.q → Allowed R ℓ n (T (grown φ t es)) (elem F e) → Steps F ℓ t (T φ) es → Steps F ℓ t (T φ) (es ++ e ∷ [])
  steps_push [] t n φ e h u a s = (u, subst (λ (k : ℕ). Allowed R ℓ k (T φ) (elem F e)) (let z : n ≡ t = omega arith in z) a, tt)
  steps_push (d ∷ es) t n φ e h u a s = (
    s.0,
    s.1,
    subst (λ (U : ℕ → ℕ → Element F). Steps F ℓ (suc t) U (es ++ e ∷ [])) (sym (next φ t d))
        (steps_push es (suc t) n (padd R φ (term R (elem F d) t)) e (omega arith) u a (subst (λ (U : ℕ → ℕ → Element F). Steps F ℓ (suc t) U es) (next φ t d) s.2)),
  )

  pub record Digits (n : ℕ) (φ : ℕ → Element F) : Type 0 where
    pub digits : List ℕ
    pub long : length digits ≡ n
    pub steps : Steps F ℓ 0 (T (pzero R)) digits
    pub reads : φ ≡ grown (pzero R) 0 digits

  visited_steps : {n : ℕ} {φ : ℕ → Element F} → Visited R ℓ Q n φ → Digits n φ
  visited_steps start = record { digits = []; long = refl; steps = tt; reads = refl }
  visited_steps (further {t = t} {φ = φ} e v a) =
      let x = visited_steps v in
      let one : elem F e.0 ≡ e = elem_value F e in
      record {
        digits = x.digits ++ e.0 ∷ [];
        long = length-append x.digits (e.0 ∷ []) ∙ (let l = x.long in let z : length x.digits + 1 ≡ suc t = omega arith in z);
        steps =
            steps_push x.digits 0 t (pzero R) e.0 (let l = x.long in omega arith) e.1
            (subst (λ (y : Element F). Allowed R ℓ t (T (grown (pzero R) 0 x.digits)) y) (sym one) (subst (λ (ψ : ℕ → Element F). Allowed R ℓ t (T ψ) e) x.reads a)) x.steps;
        reads =
            ap₂ (λ (ψ : ℕ → Element F) (y : Element F). padd R ψ (term R y t)) x.reads (sym one)
            ∙ sym (grown_push x.digits 0 t (pzero R) e.0 (let l = x.long in omega arith));
      }

  grown_is : (es : List ℕ) (t : ℕ) (φ : ℕ → Element F) → grown φ t es ≡ padd R φ (up R t (poly F es))
  grown_is [] t φ = sym (ap (padd R φ) (ap (up R t) (poly_none F) ∙ up_none R t) ∙ padd_zero R φ)
  grown_is (e ∷ es) t φ =
      grown_is es (suc t) (padd R φ (term R (elem F e) t))
      ∙ padd_assoc R φ (term R (elem F e) t) (up R (suc t) (poly F es))
      ∙ ap (padd R φ) (front R (elem F e) t (poly F es) ∙ ap (up R t) (sym (poly_cons F e es)))

  grown_poly : (ds : List ℕ) → grown (pzero R) 0 ds ≡ poly F ds
  unfolding up
  grown_poly ds = grown_is ds 0 (pzero R) ∙ padd_comm R (pzero R) (poly F ds) ∙ padd_zero R (poly F ds)

  module _ (N : ℕ) (below : Below (Poly R) (suc ℓ) Q) where
    same : T (pzero R) ≡ Q
    same = taylor_same (Poly R) (suc ℓ) Q below

    -- the ends of a walk from the first digit on are visited
    pub ends_visited : (ds : List ℕ) → Ends F ℓ N 0 [] Q ds → Visited R ℓ Q N (poly F ds)
    ends_visited ds x =
        subst (Visited R ℓ Q N) (grown_poly ds)
        (steps_visited ds 0 N (pzero R) (let l = x.long in omega arith) start (subst (λ (U : ℕ → ℕ → Element F). Steps F ℓ 0 U ds) (sym same) x.steps))

    -- and what is visited is an end
    pub visited_ends : {φ : ℕ → Element F} → Visited R ℓ Q N φ → (ds : List ℕ) × Ends F ℓ N 0 [] Q ds × (φ ≡ poly F ds)
    visited_ends v =
        let x = visited_steps v in (
          x.digits,
          record { long = x.long; begins = refl; steps = subst (λ (U : ℕ → ℕ → Element F). Steps F ℓ 0 U x.digits) same x.steps },
          x.reads ∙ grown_poly x.digits,
        )
