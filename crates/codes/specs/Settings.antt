-- Settings (τ, s, ℓ) for a code of n places with the threshold k: which are accepted, which are small, and which is proposed. Then what that means: acceptance is
-- that of the decoder's theory, and the proposed setting is the least.
use Rattle.std.specs.Prelude.{◌≡◌, ℕ, ◌+◌, ◌-◌, ◌*◌, ◌/◌, ◌<◌, ◌≤◌, Bool, cond, ◌&&◌, ◌||◌, ◌⊎◌, Option, Result, MatchResult, ◌==◌, nat_le, nat_lt}
use Rattle.std.specs.Option.{ok_or}
use Rattle.faults.specs.declared.CodeFault.{CodeFault}
use Rattle.faults.specs.declared.CodeFault.TheVariants.{PlaceCount, Threshold, NoSetting}
use Rattle.decoding.specs.Setting.{minimum_distance, Accepted}
use Rattle.codes.specs.declared.Setting.{Setting}
use Rattle.codes.specs.First.{or_else, when, first_of, unless}

abbrev pub setting : ℕ → ℕ → ℕ → Setting
setting τ s ℓ = record { radius = τ; multiplicity = s; list_limit = ℓ }

-- E, the number of conditions on an interpolant: s(s + 1)/2 for each place
abbrev pub conditions : ℕ → ℕ → ℕ
conditions n s = n * (s * (s + 1)) / 2

-- 2τ < d, or else 2(ℓ + 1)sτ − ℓ(ℓ + 1)(2τ − d) > n·s(s + 1)
abbrev pub reaches : ℕ → ℕ → ℕ → ℕ → ℕ → Bool
reaches n d τ s ℓ = nat_lt (2 * τ) d || nat_lt (n * (s * (s + 1)) + ℓ * (ℓ + 1) * (2 * τ - d)) (2 * (ℓ + 1) * (s * τ))

abbrev pub workable : ℕ → ℕ → ℕ → Bool
workable n s ℓ = (nat_le 1 s && (nat_le s ℓ && nat_le ℓ 8)) && nat_le (conditions n s) 400

abbrev pub accepts : ℕ → ℕ → ℕ → ℕ → ℕ → Bool
accepts n k τ s ℓ = (nat_le 1 k && nat_lt k n) && (workable n s ℓ && reaches n (n - k + 1) τ s ℓ)

abbrev pub small : ℕ → ℕ → Bool
small n s = nat_le n 16 && nat_le (conditions n s) 120

-- the numbers of work area that a listing takes
abbrev pub work_area : ℕ → Setting → ℕ
work_area n x = cond (small n x.multiplicity) 32000 400000

-- the setting, if it is accepted
unfoldable pub accepted_setting : ℕ → ℕ → ℕ → ℕ → ℕ → Option Setting
accepted_setting n k τ s ℓ = when (accepts n k τ s ℓ) (setting τ s ℓ)

-- for the multiplicity s the least list limit that is accepted, and then the least multiplicity that has one
unfoldable pub least_limit : ℕ → ℕ → ℕ → ℕ → Option Setting
least_limit n k τ s = first_of (accepted_setting n k τ s) 1 8

unfoldable pub least_setting : ℕ → ℕ → ℕ → Option Setting
least_setting n k τ = first_of (least_limit n k τ) 1 8

abbrev pub proposal_fault : ℕ → ℕ → Option CodeFault
proposal_fault n k = or_else (when (nat_lt n 2 || nat_lt 32 n) (PlaceCount n n)) (when (k == 0 || nat_le n k) (Threshold k))

abbrev pub proposal : ℕ → ℕ → ℕ → Result Setting CodeFault
proposal n k τ = unless (proposal_fault n k) (ok_or (least_setting n k τ) NoSetting)

-- what follows from acceptance: fewer than d errors, so that k places are left, and past half the distance a multiplicity below the list limit
pub record Consequences (n k τ s ℓ : ℕ) : Type 0 where
  pub below_distance : τ < minimum_distance n k
  pub enough_left : k ≤ n - τ
  pub multiplicity_below : minimum_distance n k ≤ 2 * τ → s < ℓ

-- the setting is accepted, and no accepted one with this radius has a lesser s, or the same s and a lesser ℓ
pub record Least (n k τ : ℕ) (x : Setting) : Type 0 where
  pub radius : x.radius ≡ τ
  pub accepted : Accepted n k τ x.multiplicity x.list_limit
  pub least : (s ℓ : ℕ) → Accepted n k τ s ℓ
      → (x.multiplicity < s) ⊎ ((x.multiplicity ≡ s) × (x.list_limit ≤ ℓ))

-- no setting with this radius is accepted
abbrev pub NoneAccepted : ℕ → ℕ → ℕ → Type 0
NoneAccepted n k τ = (s ℓ : ℕ) → Accepted n k τ s ℓ → ⊥

-- what a proposal means
abbrev pub Proposed : ℕ → ℕ → ℕ → Result Setting CodeFault → Type 0
Proposed n k τ r = MatchResult r (λ x. Least n k τ x) (λ e. e ≡ NoSetting → NoneAccepted n k τ)
