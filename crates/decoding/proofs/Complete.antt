-- The words that are sifted are the codewords within τ, all of them and no other: for any set of pairs that is right, and for a list of pairs; from each
-- pair one word at most. Where neither weight is negative an accepted setting has an interpolant.
use mathlib.Core.Path.{◌≡◌, refl, sym, subst₂}
use mathlib.Core.Logic.{◌↔◌}
use Prim.Native.Nat.{ℕ, suc, ◌+◌, ◌-◌, ◌*◌, ◌≤◌, ◌<◌}
use native.Mathlib.Omega.{arith}
use native.Mathlib.Decide.{dec_le}
use Rattle.algebra.specs.Ring.{Ring}
use Rattle.algebra.specs.Field.{Field}
use Rattle.algebra.specs.Poly.{pzero, const, Below}
use Rattle.algebra.specs.Euclid.{Stopped}
use Rattle.decoding.specs.Code.{Code, syndrome}
use Rattle.decoding.specs.Multiplicity.{slope}
use Rattle.decoding.specs.Setting.{minimum_distance, Accepted}
use Rattle.decoding.specs.Words.{Same, Near}
use Rattle.decoding.specs.Sift.{located, Passes}
use Rattle.decoding.specs.Pairs.{y_at, z_at, Interpolates, Among, Pairs, Sifted}
use Rattle.decoding.proofs.Interpolant.{interpolant_exists}
use Rattle.decoding.proofs.Setting.{below_distance, weighted}
use Rattle.decoding.proofs.Sift.{passes_once}
use Rattle.decoding.proofs.Yield.{located_below, single_below, yield_some, yield_single, yield_root}

module _ (𝓕 : Field) (C : Code 𝓕) {k τ s ℓ : ℕ} (A : Accepted C.n k τ s ℓ) (sum : k + C.D ≡ C.n) (r : ℕ → 𝓕.ring.El)
    (T : Stopped 𝓕.ring (λ l. l) C.D (syndrome 𝓕 C r)) where
  abbrev R : Ring
  R = 𝓕.ring

  open 𝓕.ring use {El, 𝟙}

  pub left_over : k + τ ≤ C.n
  left_over = let u : τ < minimum_distance C.n k = below_distance A in let v : k < C.n = A.fewer in omega arith

  -- where the bounds are not negative there is an interpolant
  pub interpolant : T.l ≤ τ → T.p < τ → (Q : ℕ → ℕ → El) × Interpolates 𝓕 C T τ s ℓ Q
  interpolant hl hp =
      interpolant_exists 𝓕 ℓ s C.n (τ - suc T.p) (τ - T.l) (s * τ) C.α (λ j. slope 𝓕 (y_at 𝓕 C T j) (z_at 𝓕 C T j))
      (weighted A (τ - suc T.p) (τ - T.l) (let u : T.p + T.l ≡ C.D = T.rows.sum in let v : k < C.n = A.fewer in omega arith))

  module _ (G : (ℕ → El) → (ℕ → El) → Type 0) (pairs : Pairs 𝓕 C T τ s ℓ G) where
    -- A word is sifted from one of the pairs if and only if it is a codeword within τ
    pub complete : (c : ℕ → El) → Sifted 𝓕 C T k τ r G c ↔ Near 𝓕 C k τ r c
    complete c = (λ t. t.passes.near, λ near. found near (yield_some 𝓕 C k τ sum r T c near) (dec_le τ T.p))
      where
        found : Near 𝓕 C k τ r c → T.l ≤ τ → Dec (τ ≤ T.p) → Sifted 𝓕 C T k τ r G c
        found near hl (yes h) =
            record {
              f₁ = pzero R;
              f₂ = const R 𝟙;
              member = (pairs.single hl h (pzero R) (const R 𝟙)).1 (refl, refl);
              passes = yield_single 𝓕 C k τ sum r T c near h;
            }
        found near hl (no h) =
            let (Q, q, exact) = pairs.roots hl (omega arith) in
            let (F₁, F₂, root, passes) = yield_root 𝓕 C k τ sum r T c near (omega arith) s ℓ A.order Q q in
            record { f₁ = F₁; f₂ = F₂; member = (exact F₁ F₂).1 root; passes = passes }

    -- and from each pair one word at most
    pub once : (f₁ f₂ c c' : ℕ → El) → G f₁ f₂ → Passes 𝓕 C k τ r (located R T.P.b T.L.b f₁ f₂) c
        → Passes 𝓕 C k τ r (located R T.P.b T.L.b f₁ f₂) c' → Same C.n c c'
    once f₁ f₂ c c' g x y = passes_once 𝓕 C k τ r τ left_over (low (dec_le T.l τ) (dec_le τ T.p)) x y
      where
        low : Dec (T.l ≤ τ) → Dec (τ ≤ T.p) → Below R (suc τ) (located R T.P.b T.L.b f₁ f₂)
        low (no hl) d = absurd (pairs.none (omega arith) f₁ f₂ g)
        low (yes hl) (yes h) =
            let e : (f₁ ≡ pzero R) × (f₂ ≡ const R 𝟙) = (pairs.single hl h f₁ f₂).0 g in
            subst₂ (λ (u v : ℕ → El). Below R (suc τ) (located R T.P.b T.L.b u v)) (sym e.0) (sym e.1)
            (single_below 𝓕 C k τ sum r T hl)
        low (yes hl) (no h) =
            let (Q, q, exact) = pairs.roots hl (omega arith) in
            let root = (exact f₁ f₂).0 g in
            located_below 𝓕 C k τ sum r T hl (omega arith) f₁ f₂ root.f₁_below root.f₂_below

  -- the same for pairs in an array
  pub complete_array : (m : ℕ) (F₁ F₂ : ℕ → ℕ → El) → Pairs 𝓕 C T τ s ℓ (Among m F₁ F₂) → (c : ℕ → El)
      → ((i : ℕ) × (i < m) × Passes 𝓕 C k τ r (located R T.P.b T.L.b (F₁ i) (F₂ i)) c) ↔ Near 𝓕 C k τ r c
  complete_array m F₁ F₂ pairs c = (λ t. t.2.near, λ near. back ((complete (Among m F₁ F₂) pairs c).1 near))
    where
      back : Sifted 𝓕 C T k τ r (Among m F₁ F₂) c
          → (i : ℕ) × (i < m) × Passes 𝓕 C k τ r (located R T.P.b T.L.b (F₁ i) (F₂ i)) c
      back t =
          let (i, u, e₁, e₂) = t.member in (
            i,
            u,
            subst₂ (λ (x y : ℕ → El). Passes 𝓕 C k τ r (located R T.P.b T.L.b x y) c) (sym e₁) (sym e₂) t.passes,
          )
