-- The slots beyond the items, filled by calls that give one value.
use Rattle.std.proofs.Common.{◌≡◌, ℕ, ◌+◌, ◌-◌, ◌≤◌, min, List, [], ◌∷◌, ◌++◌, length, take, replicate, refl, ap, ap₂, ◌∙◌, subst, arith}
use Rattle.std.specs.List.{FoldsTo}
use borrow.Rule.Slice.PartMut.{put_mid, Post-is}
use Rattle.std.proofs.lemmas.List.{append-nil, drop_all, take_min}
use Rattle.rolls.specs.Insertion.{cleared}

pub all_blank : {X P : Type 0} (blank : X) (step : P → X → P → Type 0) (p : P) (xs : List X) (last : P) → FoldsTo step p xs last → ((x : X) (q : P) → step p x q → (x ≡ blank) × (q ≡ p)) → xs ≡ replicate (length xs) blank
all_blank blank step p [] last f told = refl
all_blank blank step p (x ∷ xs) last f told =
    let t = told x f.0 f.1 in
    ap₂ (λ y ys. y ∷ ys) t.0 (all_blank blank step p xs last (subst (λ q. FoldsTo step q xs last) t.1 f.2) told)

pub closes : {X : Type 0} (blank : X) (n : ℕ) (slots ys : List X) → n ≤ length slots → ys ≡ replicate (length ys) blank → length ys ≡ length slots - n → put_mid n (length slots - n) slots ys ≡ cleared blank n slots
closes blank n slots ys h e l =
    let whole : n + (length slots - n) ≡ length slots = omega arith in
    ap (λ zs. take n slots ++ (ys ++ zs)) (Post-is n (length slots) slots (omega arith) ∙ drop_all (length slots) slots (omega arith))
    ∙ ap (λ zs. take n slots ++ zs) (append-nil ys ∙ e ∙ ap (λ m. replicate m blank) l)

-- a count beyond the slots stands for all of them
pub cleared_least : {X : Type 0} (blank : X) (n : ℕ) (slots : List X) → cleared blank (min n (length slots)) slots ≡ cleared blank n slots
cleared_least blank n slots =
    ap₂ (λ xs m. xs ++ replicate m blank) (take_min n slots) (let e : length slots - min n (length slots) ≡ length slots - n = omega arith in e)
