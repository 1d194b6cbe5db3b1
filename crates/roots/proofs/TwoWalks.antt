-- The two walks as the code makes them: the second goes on from the desk that the first one left, with the turned form and the bounds exchanged.
use Rattle.std.proofs.Common.{◌≡◌, ℕ, suc, ◌+◌, ◌≤◌, List, [], length, refl, ◌∙◌, subst, ap₂}
use Rattle.fields.specs.Numbers.{Numbers}
use Rattle.rolls.specs.Insertion.{cleared}
use Rattle.digits.specs.Runs.{runs}
use Rattle.digits.specs.Walks.{Ends, Walked}
use Rattle.leaves.specs.declared.pairs.Pair.{Pair}
use Rattle.leaves.specs.declared.pairs.Chart.{Chart}
use Rattle.leaves.specs.declared.pairs.Chart.TheVariants.{Direct, Turned}
use Rattle.roots.specs.Asked.{Asked, Answerable}
use Rattle.roots.specs.Answer.{blank, Listed}
use Rattle.roots.specs.Desk.{Desk, desk, turned_asked, Turns, Stays, Visit, Walks}
use Rattle.roots.proofs.Gathered.{direct_stays, direct_fits, listed}

module _ (F : Numbers) where
  abbrev Walk : Chart → Asked → ℕ → List Pair → ℕ → ℕ → Desk → Type 0
  Walk ch b r slots n N d' = Walked (Visit F) (Ends F b.ℓ N 0 [] (runs F b.c b.form)) (desk ch b r slots n) d'

  -- a walk with as many digits as the bounds say
  abbrev walks : (ch : Chart) (b : Asked) (r : ℕ) (slots : List Pair) {n n₀ N : ℕ} (d' : Desk) → n ≡ n₀ → N ≡ suc (b.w₁ + b.w₂) → Walk ch b r slots n N d' → Walks F (desk ch b r slots n₀) d'.slots d'.len
  walks ch b r slots {n} {n₀} {N} d' en eN w =
      (d', subst (λ (k : ℕ). Walk ch b r slots k (suc (b.w₁ + b.w₂)) d') en (subst (λ (k : ℕ). Walk ch b r slots n k d') eN w), refl, refl)

  module _ (a : Asked) (m r : ℕ) (slots : List Pair) (x : Answerable F.q a (length slots) m) {n N : ℕ} (d₁ : Desk) (en : n ≡ 0) (eN : N ≡ suc (a.w₁ + a.w₂))
      (w : Walk Direct a r slots n N d₁) where
    abbrev first : Walks F (desk Direct a r slots 0) d₁.slots d₁.len
    first = walks Direct a r slots d₁ en eN w

    pub stays : Stays (desk Direct a r slots 0) d₁
    stays = direct_stays F a (length slots) x.long x.all x.some x.enough r slots d₁.slots d₁.len refl first

    pub first_fits : d₁.len ≤ length d₁.slots
    first_fits = direct_fits F a (length slots) x.long x.all x.some x.enough r slots d₁.slots d₁.len refl first

    module _ (b : Asked) (t : Turns F a b) {M : ℕ} (d₂ : Desk) (eM : M ≡ suc (b.w₁ + b.w₂)) (w' : Walk Turned b d₁.room d₁.slots d₁.len M d₂) where
      second : Walks F (desk Turned (turned_asked a b.form) d₁.room d₁.slots d₁.len) d₂.slots d₂.len
      second =
          subst (λ (z : Asked). Walks F (desk Turned z d₁.room d₁.slots d₁.len) d₂.slots d₂.len) t.is (walks Turned b d₁.room d₁.slots d₂ refl eM w')

      -- the roots are listed where the roll is closed: at the return `area` is what the closing left, `left`
      pub closed : (k n : ℕ) (again left : List Pair) {area : List Pair} → k ≡ n → n ≡ d₂.len → again ≡ d₂.slots → left ≡ cleared blank n again → area ≡ left → Listed F a k area
      closed k n again left {area} ek en es el e =
          listed F a (length slots) x.long x.all x.some x.enough r slots d₁.slots d₁.len refl first d₁.room b.form d₂.slots d₂.len t.long t.same second k area (ek ∙ en)
          (e ∙ el ∙ ap₂ (cleared blank) en es)
