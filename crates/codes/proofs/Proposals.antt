-- A proposal is accepted, and it is the least.
use Rattle.std.proofs.Common.{◌≡◌, ℕ, ◌<◌, ◌≤◌, Bool, true, false, ◌⊎◌, Some, None, Option, sym, refl, ap, ◌∙◌, subst, inl, inr, arith}
use native.Mathlib.Decide.{dec_lt}
use Rattle.std.specs.Option.{ok_or}
use Rattle.std.proofs.lemmas.Bool.{cases_order}
use Rattle.std.proofs.lemmas.Bool.Decides.{nat_tests}
use Rattle.faults.specs.declared.CodeFault.{CodeFault}
use Rattle.faults.specs.declared.CodeFault.TheVariants.{NoSetting}
use Rattle.decoding.specs.Setting.{Accepted}
use Rattle.codes.specs.declared.Setting.{Setting}
use Rattle.codes.specs.First.{when, unless}
use Rattle.codes.specs.Settings.{setting, accepts, accepted_setting, least_limit, least_setting, proposal_fault, proposal, Least, NoneAccepted, Proposed}
use Rattle.codes.proofs.Acceptance.{exact}
use Rattle.codes.proofs.Firsts.{when_true, when_false, First, first_some, first_none}

pub taken : (n k τ s ℓ : ℕ) → accepts n k τ s ℓ ≡ true → accepted_setting n k τ s ℓ ≡ Some (setting τ s ℓ)
unfolding accepted_setting
taken n k τ s ℓ e = when_true (accepts n k τ s ℓ) (setting τ s ℓ) e

pub passed : (n k τ s ℓ : ℕ) → accepts n k τ s ℓ ≡ false → accepted_setting n k τ s ℓ ≡ None
unfolding accepted_setting
passed n k τ s ℓ e = when_false (accepts n k τ s ℓ) (setting τ s ℓ) e

-- an accepted setting has an answer
found : (n k τ s ℓ : ℕ) → Accepted n k τ s ℓ → accepted_setting n k τ s ℓ ≡ Some (setting τ s ℓ)
found n k τ s ℓ a = taken n k τ s ℓ ((exact n k τ s ℓ).1 a)

never : {A : Type 0} {x : A} {o : Option A} → o ≡ Some x → o ≡ None → ⊥
never e f = let z : ◌≡◌ {A = ℕ} 0 1 = cc in omega arith

-- and its multiplicity has one
no_limit : (n k τ s ℓ : ℕ) → Accepted n k τ s ℓ → least_limit n k τ s ≡ None → ⊥
unfolding least_limit
no_limit n k τ s ℓ a e =
    let o : s ≤ ℓ = a.order in
    let b : 1 ≤ s = a.multiplicity in
    let t : ℓ ≤ 8 = a.short in
    never (found n k τ s ℓ a) (first_none (accepted_setting n k τ s) 1 8 e ℓ (omega arith) (omega arith))

pub none_accepted : (n k τ : ℕ) → least_setting n k τ ≡ None → NoneAccepted n k τ
unfolding least_setting
none_accepted n k τ e s ℓ a =
    let o : s ≤ ℓ = a.order in
    let b : 1 ≤ s = a.multiplicity in
    let t : ℓ ≤ 8 = a.short in
    no_limit n k τ s ℓ a (first_none (least_limit n k τ) 1 8 e s (omega arith) (omega arith))

-- what an answer of accepted_setting is
pub record Taken (n k τ s ℓ : ℕ) (x : Setting) : Type 0 where
  pub is : x ≡ setting τ s ℓ
  pub accepted : Accepted n k τ s ℓ

took : (n k τ s ℓ : ℕ) (x : Setting) → accepted_setting n k τ s ℓ ≡ Some x → Taken n k τ s ℓ x
unfolding accepted_setting
took n k τ s ℓ x e = go (accepts n k τ s ℓ) refl e
  where
    go : (b : Bool) → accepts n k τ s ℓ ≡ b → when b (setting τ s ℓ) ≡ Some x → Taken n k τ s ℓ x
    go true t f = record { is = cc; accepted = (exact n k τ s ℓ).0 t }
    go false t f = absurd (never f refl)

smallest : (n k τ s ℓ : ℕ) → Accepted n k τ s ℓ → ((j : ℕ) → 1 ≤ j → j < s → least_limit n k τ j ≡ None)
    → ((j : ℕ) → 1 ≤ j → j < ℓ → accepted_setting n k τ s j ≡ None) → Least n k τ (setting τ s ℓ)
smallest n k τ s ℓ a less short = record { radius = refl; accepted = a; least = λ t m b. go t m b (cases_order s t) }
  where
    limit : (t m : ℕ) → Accepted n k τ t m → s ≡ t → ℓ ≤ m
    limit t m b e =
        elim (dec_lt m ℓ) [
          | yes u ↦
              absurd
              (let o : t ≤ m = b.order in
              let p : 1 ≤ t = b.multiplicity in
              never (ap (λ (z : ℕ). accepted_setting n k τ z m) e ∙ found n k τ t m b) (short m (omega arith) u))
          | no u ↦ omega arith
        ]

    go : (t m : ℕ) → Accepted n k τ t m → (s ≡ t) ⊎ ((s < t) ⊎ (t < s)) → (s < t) ⊎ ((s ≡ t) × (ℓ ≤ m))
    go t m b (inl e) = inr (e, limit t m b e)
    go t m b (inr (inl h)) = inl h
    go t m b (inr (inr h)) = absurd (no_limit n k τ t m b (less t b.multiplicity h))

pub least : (n k τ : ℕ) (x : Setting) → least_setting n k τ ≡ Some x → Least n k τ x
unfolding least_setting least_limit
least n k τ x e =
    let u : First (least_limit n k τ) 1 8 x = first_some (least_limit n k τ) 1 8 x e in
    let v : First (accepted_setting n k τ u.at) 1 8 x = first_some (accepted_setting n k τ u.at) 1 8 x u.here in
    let t : Taken n k τ u.at v.at x = took n k τ u.at v.at x v.here in
    subst (λ (y : Setting). Least n k τ y) (sym t.is) (smallest n k τ u.at v.at t.accepted u.before v.before)

pub meaning : (n k τ : ℕ) (o : Option Setting) → o ≡ least_setting n k τ → Proposed n k τ (ok_or o NoSetting)
meaning n k τ None e = λ _. none_accepted n k τ (sym e)
meaning n k τ (Some x) e = least n k τ x (sym e)

pub proposed : (n k τ : ℕ) (o : Option Setting) → 2 ≤ n → n ≤ 32 → 1 ≤ k → k < n → o ≡ least_setting n k τ
    → ok_or o NoSetting ≡ proposal n k τ
proposed n k τ o a b d e f =
    let t : proposal_fault n k ≡ None = grind (arith, nat_tests) in
    sym
    (ap (λ (p : Option CodeFault). unless p (ok_or (least_setting n k τ) NoSetting)) t ∙ ap (λ (p : Option Setting). ok_or p NoSetting) (sym f))
