-- The computed acceptance of a setting is that of the decoder's theory.
use Rattle.std.proofs.Common.{◌≡◌, ℕ, zero, suc, ◌+◌, ◌-◌, ◌*◌, ◌<◌, ◌≤◌, leb, ◌⊎◌, Decides, inl, inr, arith}
use native.Mathlib.Decide.{dec_lt}
use Rattle.std.proofs.lemmas.Bool.Decides.{nat_tests, Decides-and, Decides-or, Decides-ltb, Decides-like}
use Rattle.decoding.specs.Setting.{minimum_distance, Reach, Accepted}
use Rattle.decoding.proofs.Setting.{below_distance, enough_left, multiplicity_below}
use Rattle.codes.specs.Settings.{conditions, reaches, accepts, Consequences}

decides_leb : (a b : ℕ) → Decides (leb a b) (a ≤ b)
decides_leb a b = grind (arith, nat_tests)

-- a product of two numbers in a row is even
even : (s : ℕ) → (h : ℕ) × (s * (s + 1) ≡ 2 * h)
even zero = (0, omega arith)
even (suc s) = let (h, e) = even s in (h + s + 1, omega arith)

halved : (n s h : ℕ) → s * (s + 1) ≡ 2 * h → n * (s * (s + 1)) ≡ 2 * (n * h)
halved n s h e = rw e (omega arith)

within_400 : (n s : ℕ) → Decides (leb (conditions n s) 400) (n * (s * suc s) ≤ 800)
within_400 n s =
    let (h, e) = even s in
    let t : n * (s * (s + 1)) ≡ 2 * (n * h) = halved n s h e in
    let u : n * (s * suc s) ≡ n * (s * (s + 1)) = omega arith in
    Decides-like (leb (conditions n s) 400) (λ v. omega arith) (λ v. omega arith) (decides_leb (conditions n s) 400)

-- as in the rule, with ℓ + 1 and s + 1
Room : ℕ → ℕ → ℕ → ℕ → ℕ → Type 0
Room n d τ s ℓ = n * (s * (s + 1)) + ℓ * (ℓ + 1) * (2 * τ - d) < 2 * (ℓ + 1) * (s * τ)

pub reach : (n d τ s ℓ : ℕ) → Decides (reaches n d τ s ℓ) (Reach n d τ s ℓ)
unfolding Room
reach n d τ s ℓ = Decides-like (reaches n d τ s ℓ) over back (Decides-or _ _ (Decides-ltb _ _) (Decides-ltb _ _))
  where
    over : ((2 * τ < d) ⊎ Room n d τ s ℓ) → Reach n d τ s ℓ
    over (inl h) = inl h
    over (inr h) = elim (dec_lt (2 * τ) d) [ yes u ↦ inl u | no u ↦ inr (omega arith, omega arith) ]

    back : Reach n d τ s ℓ → ((2 * τ < d) ⊎ Room n d τ s ℓ)
    back (inl h) = inl h
    back (inr (g, h)) = inr (omega arith)

pub exact : (n k τ s ℓ : ℕ) → Decides (accepts n k τ s ℓ) (Accepted n k τ s ℓ)
exact n k τ s ℓ =
    Decides-like (accepts n k τ s ℓ)
    (λ p. record {
      some = p.0.0;
      fewer = p.0.1;
      multiplicity = p.1.0.0.0;
      order = p.1.0.0.1.0;
      short = p.1.0.0.1.1;
      work = p.1.0.1;
      reach = p.1.1;
    })
    (λ a. ((a.some, a.fewer), (((a.multiplicity, (a.order, a.short)), a.work), a.reach)))
    (Decides-and _ _ (Decides-and _ _ (decides_leb 1 k) (Decides-ltb k n))
    (Decides-and _ _ (Decides-and _ _ (Decides-and _ _ (decides_leb 1 s) (Decides-and _ _ (decides_leb s ℓ) (decides_leb ℓ 8))) (within_400 n s))
    (reach n (minimum_distance n k) τ s ℓ)))

pub consequences : (n k τ s ℓ : ℕ) → Accepted n k τ s ℓ → Consequences n k τ s ℓ
consequences n k τ s ℓ a =
    record { below_distance = below_distance a; enough_left = enough_left a; multiplicity_below = multiplicity_below a }
