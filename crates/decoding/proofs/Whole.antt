-- The whole: the words that are sifted from the pairs to which the walks come are the codewords within τ; and these, each once, are a listing.
use mathlib.Core.Path.{◌≡◌, refl}
use mathlib.Core.Logic.{◌⊎◌, ◌↔◌}
use Prim.Native.Nat.{ℕ, suc, ◌+◌, ◌≤◌, ◌<◌}
use native.Mathlib.Omega.{arith}
use Rattle.algebra.specs.Ring.{Ring}
use Rattle.algebra.specs.Field.{Field}
use Rattle.algebra.specs.Poly.{conv, pzero, const, mono, Below}
use Rattle.algebra.specs.Coprime.{Normal}
use Rattle.algebra.specs.Euclid.{Stopped}
use Rattle.algebra.proofs.Eval.{below_add}
use Rattle.algebra.proofs.PolySums.{times_below}
use Rattle.algebra.proofs.Monomials.{mono_below}
use Rattle.algebra.proofs.Euclid.{euclid}
use Rattle.decoding.specs.Code.{Code, syndrome}
use Rattle.decoding.specs.Words.{Same, Near, Listing}
use Rattle.decoding.specs.Setting.{Accepted}
use Rattle.decoding.specs.Pairs.{w₁, w₂, Interpolates, Pairs, Sifted}
use Rattle.decoding.specs.Walk.{Visited, LeafRows, turned, Found, FoundTurned}
use Rattle.decoding.specs.Walk.Visited.{start, further}
use Rattle.decoding.proofs.Walk.{roots_exact}
use Rattle.decoding.proofs.Complete.{complete}

module _ (𝓕 : Field) where
  abbrev R : Ring
  R = 𝓕.ring

  open 𝓕.ring use {El, 𝟘, 𝟙}

  -- a prefix of t digits has t coefficients, so Euclid's algorithm can run on it
  pub visited_below : {ℓ : ℕ} {Q : ℕ → ℕ → El} {t : ℕ} {φ : ℕ → El} → Visited R ℓ Q t φ → Below R t φ
  visited_below start = λ i u. unfold pzero in refl
  visited_below (further {t = t} {φ = φ} e v a) =
      below_add R (suc t) φ (conv R (const R e) (mono R t)) (λ i u. visited_below v i (omega arith))
      (times_below R (suc t) e (mono R t) (mono_below R t))

  pub stop : (ℓ w₁ w₂ : ℕ) (Q : ℕ → ℕ → El) (φ : ℕ → El) → Visited R ℓ Q (suc (w₁ + w₂)) φ → LeafRows R w₁ w₂ φ
  stop ℓ w₁ w₂ Q φ x = euclid 𝓕 (λ _. suc w₂) (suc (w₁ + w₂)) φ (visited_below x) (omega arith)

  module _ (C : Code 𝓕) {k τ s ℓ : ℕ} (A : Accepted C.n k τ s ℓ) (sum : k + C.D ≡ C.n) (r : ℕ → El)
      (T : Stopped R (λ l. l) C.D (syndrome 𝓕 C r)) where
    -- what is sifted, collected once each, is a listing
    pub listing : (G : (ℕ → El) → (ℕ → El) → Type 0) → Pairs 𝓕 C T τ s ℓ G → (m : ℕ) (W : ℕ → ℕ → El)
        → ((i : ℕ) → i < m → Sifted 𝓕 C T k τ r G (W i))
        → ((c : ℕ → El) → Sifted 𝓕 C T k τ r G c → (i : ℕ) × (i < m) × Same C.n c (W i))
        → ((i j : ℕ) → i < j → j < m → Same C.n (W i) (W j) → ⊥) → Listing 𝓕 C k τ r m W
    listing G pairs m W each kept once =
        record {
          right = λ i u. (complete 𝓕 C A sum r T G pairs (W i)).0 (each i u);
          full = λ c near. kept c ((complete 𝓕 C A sum r T G pairs c).1 near);
          once = once;
        }

    -- where the bounds are not negative: the pairs to which the walks come, made normal, wherever Euclid's algorithm stops at a leaf
    module _ (hl : T.l ≤ τ) (hp : T.p < τ) (Q : ℕ → ℕ → El) (q : Interpolates 𝓕 C T τ s ℓ Q)
        (stop₁ : (φ : ℕ → El) → Visited R ℓ Q (suc (w₁ τ T + w₂ τ T)) φ
        → LeafRows R (w₁ τ T) (w₂ τ T) φ)
        (stop₂ : (φ : ℕ → El) → Visited R ℓ (turned ℓ Q) (suc (w₂ τ T + w₁ τ T)) φ → φ 0 ≡ 𝟘
        → LeafRows R (w₂ τ T) (w₁ τ T) φ) where
      abbrev pub Walked : (ℕ → El) → (ℕ → El) → Type 0
      Walked f₁ f₂ =
          Normal R f₁ f₂
          × (Found R ℓ (w₁ τ T) (w₂ τ T) Q stop₁ f₁ f₂ ⊎ FoundTurned R ℓ (w₁ τ T) (w₂ τ T) Q stop₂ f₁ f₂)

      pub walk_pairs : Pairs 𝓕 C T τ s ℓ Walked
      walk_pairs =
          record {
            none = λ t f₁ f₂ g. absurd (omega arith);
            single = λ t u. absurd (omega arith);
            roots = λ t u. (Q, q, roots_exact 𝓕 ℓ (w₁ τ T) (w₂ τ T) Q stop₂ stop₁);
          }

      -- A word is sifted from one of them if and only if it is a codeword within τ
      pub whole : (c : ℕ → El) → Sifted 𝓕 C T k τ r Walked c ↔ Near 𝓕 C k τ r c
      whole = complete 𝓕 C A sum r T Walked walk_pairs
