-- The choice of the pivot, row by row: what is known of the rows before k gives what is known of those before k + 1. A loop over the rows keeps it.
use mathlib.Core.Path.{◌≡◌, sym, subst}
use mathlib.Core.Logic.{◌≢◌}
use Prim.Native.Nat.{ℕ, suc, ◌+◌, ◌≤◌, ◌<◌}
use native.Mathlib.Decide.{ℕ_discrete}
use native.Mathlib.Omega.{arith}
use Rattle.algebra.specs.Field.{Field}
use Rattle.decoding.specs.Koetter.{Problem, Live, value, None, Least}

module _ (𝓕 : Field) (P : Problem 𝓕.ring.El) where
  open 𝓕.ring use {El, 𝟘}
  open P use {W}

  module _ (i a b : ℕ) (G : ℕ → ℕ → ℕ → El) (e : ℕ → ℕ) (k : ℕ) where
    -- the row k is not in use, or satisfies the constraint
    abbrev pub Passes : Type 0
    Passes = Live 𝓕 P e k → value 𝓕 P i a b (G k) ≡ 𝟘

    pub none_more : Passes → None 𝓕 P i a b G e k → None 𝓕 P i a b G e (suc k)
    none_more h f j l u = go (ℕ_discrete j k)
      where
        go : Dec (j ≡ k) → value 𝓕 P i a b (G j) ≡ 𝟘
        go (yes q) = subst (λ z. Live 𝓕 P e z → value 𝓕 P i a b (G z) ≡ 𝟘) (sym q) h u
        go (no q) = f j (omega arith) u

    -- a property of the rows that fail
    each : (X : ℕ → Type 0) → ((j : ℕ) → j < k → Live 𝓕 P e j → value 𝓕 P i a b (G j) ≢ 𝟘 → X j)
        → (Live 𝓕 P e k → value 𝓕 P i a b (G k) ≢ 𝟘 → X k)
        → (j : ℕ) → j < suc k → Live 𝓕 P e j → value 𝓕 P i a b (G j) ≢ 𝟘 → X j
    each X f h j l u v = go (ℕ_discrete j k)
      where
        go : Dec (j ≡ k) → X j
        go (yes q) = subst (λ z. Live 𝓕 P e z → value 𝓕 P i a b (G z) ≢ 𝟘 → X z) (sym q) h u v
        go (no q) = f j (omega arith) u v

    pub least_pass : (p : ℕ) → Passes → Least 𝓕 P i a b G e k p → Least 𝓕 P i a b G e (suc k) p
    least_pass p h s =
        record {
          inside = let u : p < k = s.inside in omega arith;
          live = s.live;
          fails = s.fails;
          least = each (λ j. e p + W p ≤ e j + W j) s.least (λ u v. absurd (v (h u)));
          tie = each (λ j. e p + W p ≡ e j + W j → p ≤ j) s.tie (λ u v. absurd (v (h u)));
        }

    -- the row k is no better
    pub least_keep : (p : ℕ) → e p + W p ≤ e k + W k → Least 𝓕 P i a b G e k p → Least 𝓕 P i a b G e (suc k) p
    least_keep p h s =
        record {
          inside = let u : p < k = s.inside in omega arith;
          live = s.live;
          fails = s.fails;
          least = each (λ j. e p + W p ≤ e j + W j) s.least (λ u v. h);
          tie = each (λ j. e p + W p ≡ e j + W j → p ≤ j) s.tie (λ u v q. let w : p < k = s.inside in omega arith);
        }

    -- it is the first that fails
    pub least_first : Live 𝓕 P e k → value 𝓕 P i a b (G k) ≢ 𝟘 → None 𝓕 P i a b G e k → Least 𝓕 P i a b G e (suc k) k
    least_first l h f =
        record {
          inside = omega arith;
          live = l;
          fails = h;
          least = each (λ j. e k + W k ≤ e j + W j) (λ j m u v. absurd (v (f j m u))) (λ u v. omega arith);
          tie = each (λ j. e k + W k ≡ e j + W j → k ≤ j) (λ j m u v. absurd (v (f j m u))) (λ u v q. omega arith);
        }

    -- it is better
    pub least_new : (p : ℕ) → Live 𝓕 P e k → value 𝓕 P i a b (G k) ≢ 𝟘 → e k + W k < e p + W p → Least 𝓕 P i a b G e k p
        → Least 𝓕 P i a b G e (suc k) k
    least_new p l h better s =
        record {
          inside = omega arith;
          live = l;
          fails = h;
          least = each (λ j. e k + W k ≤ e j + W j) (λ j m u v. let w : e p + W p ≤ e j + W j = s.least j m u v in omega arith) (λ u v. omega arith);
          tie =
              each (λ j. e k + W k ≡ e j + W j → k ≤ j)
              (λ j m u v q. let w : e p + W p ≤ e j + W j = s.least j m u v in omega arith) (λ u v q. omega arith);
        }
