-- What a sheet tells of its places.
use Rattle.std.proofs.Common.{◌≡◌, ℕ, ◌-◌, ◌<◌, ◌≤◌, List, length, get_or, take, None, sym, ap, ◌∙◌, arith}
use Rattle.std.proofs.lemmas.List.{get_or_past}
use Rattle.std.proofs.lemmas.List.FromFn.{length-map-range_with_len, get_or-map-range_with_len}
use Rattle.codes.specs.declared.Setting.{Setting}
use Rattle.codes.specs.Opening.{Given}
use Rattle.sheets.specs.Sheet.{Sheet, number, share_in, shares_in, given_in}

pub told_count : (s : Sheet) → length (shares_in s) ≡ s.count
told_count s = length-map-range_with_len (λ p. share_in (number s.entries 4 p)) 0 s.count

pub told_at : (s : Sheet) (i : ℕ) → i < s.count → share_in (number s.entries 4 i) ≡ get_or (shares_in s) i None
told_at s i h = sym (get_or-map-range_with_len (λ p. share_in (number s.entries 4 p)) 0 s.count i i None h (omega arith))

pub told_past : (s : Sheet) (i : ℕ) → s.count ≤ i → None ≡ get_or (shares_in s) i None
told_past s i h = sym (get_or_past (shares_in s) i None (omega (arith, told_count s)))

abbrev pub given_as : List ℕ → List ℕ → ℕ → Setting → Given
given_as p m t s = record { points = p; multipliers = m; threshold = t; setting = s }

-- what opening is given, from the columns
pub given_of : (s : Sheet) (n : ℕ) (ps ms : List ℕ) (k : ℕ) (x : Setting) → n ≡ s.count → take s.count ps ≡ (given_in s).points → take s.count ms ≡ (given_in s).multipliers → k ≡ s.threshold → x ≡ s.setting → given_as (take n ps) (take n ms) k x ≡ given_in s
given_of s n ps ms k x e p m h t =
    ap (λ (z : ℕ). given_as (take z ps) (take z ms) k x) e
    ∙ ap (λ (l : List ℕ). given_as l (take s.count ms) k x) p
    ∙ ap (λ (l : List ℕ). given_as (given_in s).points l k x) m
    ∙ ap (λ (z : ℕ). given_as (given_in s).points (given_in s).multipliers z x) h
    ∙ ap (given_as (given_in s).points (given_in s).multipliers s.threshold) t

-- the same of columns that are cut from 0 to n
pub given_by : (s : Sheet) (n : ℕ) (ps ms : List ℕ) (k : ℕ) (x : Setting) → n ≡ s.count → take s.count ps ≡ (given_in s).points → take s.count ms ≡ (given_in s).multipliers → k ≡ s.threshold → x ≡ s.setting → given_as (take (n - 0) ps) (take (n - 0) ms) k x ≡ given_in s
given_by s n ps ms k x e p m h t = let same : n - 0 ≡ s.count = omega arith in given_of s (n - 0) ps ms k x same p m h t
