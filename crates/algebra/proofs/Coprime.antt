-- Coprime polynomials, in this order: in any ring the order of the two, 1, products and signs; over a field a polynomial and x - a, the product
-- ∏ (x - α h), a power of x; multiples; pairs in the same proportion, which are equal where both are normalised.
use mathlib.Core.Path.{◌≡◌, refl, sym, ◌∙◌, ap, ap₂, fun_ext, subst, subst₂}
use mathlib.Core.List.{[], ◌∷◌}
use mathlib.Core.Bool.{Bool, true, false, cond}
use mathlib.Core.Logic.{◌≢◌, inl, inr}
use Prim.Native.Nat.{ℕ, zero, suc, ◌<◌}
use native.Mathlib.Decide.{dec_lt}
use native.Mathlib.Omega.{arith}
use Rattle.algebra.specs.Ring.{Ring}
use Rattle.algebra.specs.RingLaws as L
use Rattle.algebra.specs.Solve.{ring}
use Rattle.algebra.specs.Field.{Field}
use Rattle.algebra.specs.Sums.{count, prod}
use Rattle.algebra.specs.Poly.{conv, padd, pneg, pzero, const, lin, mono, at, Below, Bounded, Degree}
use Rattle.algebra.specs.PolyRing.{Poly, const_conv}
use Rattle.algebra.specs.PolyForms.{forms}
use Rattle.algebra.specs.Division.{quot}
use Rattle.algebra.specs.Lagrange.{locator}
use Rattle.algebra.specs.Coprime.{Coprime, Normal}
use Rattle.algebra.proofs.Eval.{below_const, below_weaken, ev_suc}
use Rattle.algebra.proofs.Roots.{lin_below, lin_conv, divide, quot_below}
use Rattle.algebra.proofs.Shift.{const_hom}
use Rattle.algebra.proofs.PolySums.{const_coefficient}
use Rattle.algebra.proofs.Degrees.{unit_degree}
use Rattle.algebra.proofs.Bounded.{bounded_zero, bounded_const, bounded_add, bounded_neg, bounded_conv, bounded_mono, unit_const}
use Rattle.algebra.proofs.Products.{locator_below}

module _ (R : Ring) where
  open R use {El, 𝟙}

  pub coprime_sym : {f g : ℕ → El} → Coprime R f g → Coprime R g f
  coprime_sym {f} {g} c =
      record {
        u = c.v;
        v = c.u;
        u_bounded = c.v_bounded;
        v_bounded = c.u_bounded;
        one = (Poly R).add_comm (conv R c.v g) (conv R c.u f) ∙ c.one;
      }

  pub coprime_one : (f : ℕ → El) → Coprime R f (const R 𝟙)
  coprime_one f =
      record {
        u = pzero R;
        v = const R 𝟙;
        u_bounded = bounded_zero R;
        v_bounded = bounded_const R 𝟙;
        one = ring (Poly R) (f ∷ []) (search forms depth 20) tt;
      }

  -- what is coprime to two polynomials is coprime to their product
  pub coprime_mul : {f g h : ℕ → El} → Bounded R f → Bounded R g → Bounded R h → Coprime R f g → Coprime R f h
      → Coprime R f (conv R g h)
  coprime_mul {f} {g} {h} bf bg bh x y =
      record {
        u = padd R (padd R (conv R (conv R u u') f) (conv R (conv R u v') h)) (conv R (conv R v u') g);
        v = conv R v v';
        u_bounded =
            bounded_add R
            (bounded_add R (bounded_conv R (bounded_conv R x.u_bounded y.u_bounded) bf)
            (bounded_conv R (bounded_conv R x.u_bounded y.v_bounded) bh))
            (bounded_conv R (bounded_conv R x.v_bounded y.u_bounded) bg);
        v_bounded = bounded_conv R x.v_bounded y.v_bounded;
        one =
            ring (Poly R) (u ∷ v ∷ u' ∷ v' ∷ f ∷ g ∷ h ∷ []) {y = conv R (padd R (conv R u f) (conv R v g)) (padd R (conv R u' f) (conv R v' h))} (search forms depth 20) tt
            ∙ ap₂ (conv R) x.one y.one ∙ (Poly R).mul_one _;
      }
    where
      u : ℕ → El
      u = x.u

      v : ℕ → El
      v = x.v

      u' : ℕ → El
      u' = y.u

      v' : ℕ → El
      v' = y.v

  pub coprime_neg : {f g : ℕ → El} → Coprime R f g → Coprime R (pneg R f) g
  coprime_neg {f} {g} c =
      record {
        u = pneg R c.u;
        v = c.v;
        u_bounded = bounded_neg R c.u_bounded;
        v_bounded = c.v_bounded;
        one =
            ring (Poly R) (c.u ∷ c.v ∷ f ∷ g ∷ []) {y = padd R (conv R c.u f) (conv R c.v g)} (search forms depth 20) tt ∙ c.one;
      }

module _ (𝓕 : Field) where
  infixl 60 ◌⊕◌
  infixl 70 ◌⊗◌
  infixl 60 ◌⊞◌
  infixl 70 ◌⊠◌
  infix 80 ⊟◌
  abbrev R : Ring
  R = 𝓕.ring

  open 𝓕.ring use {El, 𝟘, 𝟙, ◌⊕◌, ◌⊗◌}
  open Poly 𝓕.ring use {◌⊕◌ as ◌⊞◌, ⊖◌ as ⊟◌, ◌⊗◌ as ◌⊠◌}

  -- a constant other than zero, times its inverse
  pub const_inverse : (c : El) → c ≢ 𝟘 → const R c ⊠ const R (𝓕.inv c) ≡ const R 𝟙
  const_inverse c h = sym ((const_hom R).of_mul c (𝓕.inv c)) ∙ ap (const R) (𝓕.mul_inv c h)

  -- a polynomial and x - a, where its value at a is not zero
  pub coprime_lin : (n : ℕ) (p : ℕ → El) (a : El) → Below R n p → at R a n p ≢ 𝟘 → Coprime R p (lin R a)
  coprime_lin n p a h z =
      record {
        u = const R i;
        v = pneg R (conv R (const R i) q);
        u_bounded = bounded_const R i;
        v_bounded = bounded_neg R (bounded_conv R (bounded_const R i) (quotient n));
        one =
            ap (λ t. padd R (conv R (const R i) t) (conv R (pneg R (conv R (const R i) q)) (lin R a))) division
            ∙ ring (Poly R) (const R i ∷ const R c ∷ lin R a ∷ q ∷ []) {y = conv R (const R c) (const R i)} (search forms depth 20) tt
            ∙ const_inverse c z;
      }
    where
      c : El
      c = at R a n p

      i : El
      i = 𝓕.inv c

      q : ℕ → El
      q = quot R n p a

      division : p ≡ const R c ⊞ lin R a ⊠ q
      division = unfold padd in fun_ext (divide R n p a h)

      quotient : (m : ℕ) → Bounded R (quot R m p a)
      quotient zero = (0, λ t k. unfold quot pzero in refl)
      quotient (suc m) = (m, quot_below R m p a)

  -- a polynomial and ∏ (x - α h), where it does not vanish at the points
  pub coprime_locator : (n m : ℕ) (b : ℕ → Bool) (α p : ℕ → El) → Below R m p
      → ((h : ℕ) → h < n → b h ≡ true → at R (α h) m p ≢ 𝟘) → Coprime R p (locator R n b α)
  unfolding prod
  coprime_locator zero m b α p hp nz = coprime_one R p
  coprime_locator (suc n) m b α p hp nz =
      coprime_mul R (m, hp) (suc (count n b), locator_below R n b α) (2, short (b n))
      (coprime_locator n m b α p hp (λ h k. nz h (omega arith))) (last (b n) refl)
    where
      short : (t : Bool) → Below R 2 (cond t (lin R (α n)) (const R 𝟙))
      short true = lin_below R (α n)
      short false = λ i k. below_const R 𝟙 i (omega arith)

      last : (t : Bool) → b n ≡ t → Coprime R p (cond t (lin R (α n)) (const R 𝟙))
      last true e = coprime_lin m p (α n) hp (nz n (omega arith) e)
      last false e = coprime_one R p

  -- a polynomial with a constant coefficient, and x ^ N
  mono_suc : (n : ℕ) → mono R (suc n) ≡ mono R n ⊠ lin R 𝟘
  unfolding mono
  mono_suc n = fun_ext at_place ∙ (Poly R).mul_comm (lin R 𝟘) (mono R n)
    where
      at_place : (i : ℕ) → mono R (suc n) i ≡ (lin R 𝟘 ⊠ mono R n) i
      at_place zero = unfold conv lin in sym (ap (λ z. z ⊗ mono R n 0) (L.neg_zero R) ∙ L.zero_mul R (mono R n 0))
      at_place (suc i) =
          sym (lin_conv R 𝟘 (mono R n) i ∙ ring R (mono R n i ∷ mono R n (suc i) ∷ []) (search forms depth 20) tt)

  pub coprime_mono : (N n : ℕ) (f : ℕ → El) → Below R n f → f 0 ≢ 𝟘 → Coprime R f (mono R N)
  unfolding mono
  coprime_mono zero n f h z = coprime_one R f
  coprime_mono (suc N) n f h z =
      subst (Coprime R f) (sym (mono_suc N))
      (coprime_mul R (suc n, h') (bounded_mono R N) (2, lin_below R 𝟘)
      (coprime_mono N n f h z) (coprime_lin (suc n) f 𝟘 h' (λ y. z (sym value ∙ y))))
    where
      h' : Below R (suc n) f
      h' = below_weaken R n (suc n) f (omega arith) h

      value : at R 𝟘 (suc n) f ≡ f 0
      value = ev_suc R (λ x. x) 𝟘 n f ∙ ap (λ z. f 0 ⊕ z) (L.zero_mul R _) ∙ R.add_zero (f 0)

  pub coprime_scale : (c : El) → c ≢ 𝟘 → (f g : ℕ → El) → Coprime R f g → Coprime R (const R c ⊠ f) (const R c ⊠ g)
  coprime_scale c c≢zero f g x =
      record {
        u = const R (𝓕.inv c) ⊠ x.u;
        v = const R (𝓕.inv c) ⊠ x.v;
        u_bounded = bounded_conv R (bounded_const R (𝓕.inv c)) x.u_bounded;
        v_bounded = bounded_conv R (bounded_const R (𝓕.inv c)) x.v_bounded;
        one =
            ring (Poly R) (const R c ∷ const R (𝓕.inv c) ∷ x.u ∷ x.v ∷ f ∷ g ∷ [])
            {y = const R c ⊠ const R (𝓕.inv c) ⊠ (x.u ⊠ f ⊞ x.v ⊠ g)} (search forms depth 20) tt
            ∙ ap₂ ◌⊠◌ (const_inverse c c≢zero) x.one ∙ (Poly R).mul_one (const R 𝟙);
      }

  -- of a coprime pair one has a constant coefficient
  pub coprime_constant : (f g : ℕ → El) → Coprime R f g → f 0 ≡ 𝟘 → g 0 ≢ 𝟘
  unfolding conv padd
  coprime_constant f g x z y =
      𝓕.one≢zero
      (sym (const_coefficient R 𝟙) ∙ ap (λ (t : ℕ → El). t 0) (sym x.one)
      ∙ ap₂ (λ u v. x.u 0 ⊗ u ⊕ x.v 0 ⊗ v) z y
      ∙ ring R (x.u 0 ∷ x.v 0 ∷ []) {x = x.u 0 ⊗ 𝟘 ⊕ x.v 0 ⊗ 𝟘} {y = 𝟘} (search forms depth 20) tt)

  -- what is coprime to zero is a constant
  pub coprime_zero : (n : ℕ) (f : ℕ → El) → Below R n f → Coprime R (pzero R) f → Degree R 0 f
  coprime_zero n f h c =
      unit_degree 𝓕 c.v_bounded.0 n c.v f c.v_bounded.1 h
      (ring (Poly R) (c.u ∷ c.v ∷ f ∷ []) (search forms depth 20) tt ∙ c.one)

  -- a coprime multiple f (p, q) has a constant factor f
  pub coprime_multiple : (f p q : ℕ → El) → Bounded R f → Bounded R p → Bounded R q → Coprime R (f ⊠ p) (f ⊠ q)
      → (c : El) × (c ≢ 𝟘) × (f ≡ const R c)
  coprime_multiple f p q bf bp bq c =
      unit_const 𝓕 f (c.u ⊠ p ⊞ c.v ⊠ q) bf
      (bounded_add R (bounded_conv R c.u_bounded bp) (bounded_conv R c.v_bounded bq))
      (ring (Poly R) (c.u ∷ c.v ∷ f ∷ p ∷ q ∷ []) {y = c.u ⊠ (f ⊠ p) ⊞ c.v ⊠ (f ⊠ q)} (search forms depth 20) tt ∙ c.one)

  -- what is proportional to a coprime pair is a multiple of it
  pub multiple_of_coprime : (f g p q : ℕ → El) (c : Coprime R f g) → f ⊠ q ≡ g ⊠ p
      → (p ≡ (c.u ⊠ p ⊞ c.v ⊠ q) ⊠ f) × (q ≡ (c.u ⊠ p ⊞ c.v ⊠ q) ⊠ g)
  multiple_of_coprime f g p q c e = (
    sym (L.one_mul (Poly R) p) ∙ ap (λ z. z ⊠ p) (sym c.one)
        ∙ L.from_eq (Poly R) c.v (sym e)
        (ring (Poly R) (c.u ∷ c.v ∷ f ∷ g ∷ p ∷ q ∷ [])
        {x = (c.u ⊠ f ⊞ c.v ⊠ g) ⊠ p ⊞ c.v ⊠ (f ⊠ q)} {y = (c.u ⊠ p ⊞ c.v ⊠ q) ⊠ f ⊞ c.v ⊠ (g ⊠ p)} (search forms depth 20) tt),
    sym (L.one_mul (Poly R) q) ∙ ap (λ z. z ⊠ q) (sym c.one)
        ∙ L.from_eq (Poly R) c.u e
        (ring (Poly R) (c.u ∷ c.v ∷ f ∷ g ∷ p ∷ q ∷ [])
        {x = (c.u ⊠ f ⊞ c.v ⊠ g) ⊠ q ⊞ c.u ⊠ (g ⊠ p)} {y = (c.u ⊠ p ⊞ c.v ⊠ q) ⊠ g ⊞ c.u ⊠ (f ⊠ q)} (search forms depth 20) tt),
  )

  -- two coprime pairs in the same proportion differ by a constant
  pub proportional : (f₁ f₂ g₁ g₂ : ℕ → El) → Bounded R f₁ → Bounded R f₂ → Bounded R g₁ → Bounded R g₂
      → Coprime R f₁ f₂ → Coprime R g₁ g₂ → f₁ ⊠ g₂ ≡ f₂ ⊠ g₁
      → (c : El) × (c ≢ 𝟘) × (g₁ ≡ const R c ⊠ f₁) × (g₂ ≡ const R c ⊠ f₂)
  proportional f₁ f₂ g₁ g₂ bf₁ bf₂ bg₁ bg₂ cf cg e =
      let k : ℕ → El = cf.u ⊠ g₁ ⊞ cf.v ⊠ g₂ in
      let m : (g₁ ≡ k ⊠ f₁) × (g₂ ≡ k ⊠ f₂) = multiple_of_coprime f₁ f₂ g₁ g₂ cf e in
      let r : (c : El) × (c ≢ 𝟘) × (k ≡ const R c) =
      coprime_multiple k f₁ f₂ (bounded_add R (bounded_conv R cf.u_bounded bg₁) (bounded_conv R cf.v_bounded bg₂)) bf₁ bf₂
      (subst₂ (Coprime R) m.0 m.1 cg) in
      (r.0, r.1, m.0 ∙ ap (λ z. z ⊠ f₁) r.2, m.1 ∙ ap (λ z. z ⊠ f₂) r.2)

  -- coprime pairs in the same proportion are equal when both are normalised
  pub normal_unique : (f₁ f₂ g₁ g₂ : ℕ → El) → Bounded R f₁ → Bounded R f₂ → Bounded R g₁ → Bounded R g₂
      → Coprime R f₁ f₂ → Coprime R g₁ g₂ → f₁ ⊠ g₂ ≡ f₂ ⊠ g₁ → Normal R f₁ f₂ → Normal R g₁ g₂
      → (f₁ ≡ g₁) × (f₂ ≡ g₂)
  unfolding pzero
  normal_unique f₁ f₂ g₁ g₂ bf₁ bf₂ bg₁ bg₂ cf cg e nf ng =
      go (proportional f₁ f₂ g₁ g₂ bf₁ bf₂ bg₁ bg₂ cf cg e) nf ng
    where
      go : (c : El) × (c ≢ 𝟘) × (g₁ ≡ const R c ⊠ f₁) × (g₂ ≡ const R c ⊠ f₂)
          → Normal R f₁ f₂ → Normal R g₁ g₂ → (f₁ ≡ g₁) × (f₂ ≡ g₂)
      go (c, k, e1, e2) (inl (d, bd, md)) (inl (d', bd', md')) = same
        where
          at : (i : ℕ) → g₂ i ≡ c ⊗ f₂ i
          at i = ap (λ (f : ℕ → El). f i) e2 ∙ const_conv R c f₂ i

          one : c ≡ 𝟙
          one =
              elim (dec_lt d d') [
                | yes l ↦ absurd (𝓕.one≢zero (sym md' ∙ at d' ∙ ap (λ z. c ⊗ z) (bd d' l) ∙ L.mul_zero R c))
                | no l ↦
                    elim (dec_lt d' d) [
                      | yes l' ↦ absurd (k (sym (R.mul_one c) ∙ ap (λ z. c ⊗ z) (sym md) ∙ sym (at d) ∙ bd' d l'))
                      | no l' ↦
                          sym (R.mul_one c) ∙ ap (λ z. c ⊗ z) (sym md) ∙ sym (at d)
                          ∙ ap g₂ (let z : d ≡ d' = omega arith in z) ∙ md'
                    ]
              ]

          same : (f₁ ≡ g₁) × (f₂ ≡ g₂)
          same =
              (sym (e1 ∙ ap (λ z. const R z ⊠ f₁) one ∙ L.one_mul (Poly R) f₁), sym (e2 ∙ ap (λ z. const R z ⊠ f₂) one ∙ L.one_mul (Poly R) f₂))
      go (c, k, e1, e2) (inl (d, bd, md)) (inr (z, o)) =
          absurd
          (k
          (sym (R.mul_one c) ∙ ap (λ y. c ⊗ y) (sym md) ∙ sym (const_conv R c f₂ d) ∙ ap (λ (f : ℕ → El). f d) (sym e2)
          ∙ ap (λ (f : ℕ → El). f d) z))
      go (c, k, e1, e2) (inr (z, o)) (inl (d', bd', md')) =
          absurd
          (𝓕.one≢zero
          (sym md' ∙ ap (λ (f : ℕ → El). f d') (e2 ∙ ap (λ y. const R c ⊠ y) z ∙ L.mul_zero (Poly R) (const R c))))
      go (c, k, e1, e2) (inr (z, o)) (inr (z', o')) = (o ∙ sym o', z ∙ sym z')
