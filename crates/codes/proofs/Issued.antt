-- Evaluating a message from its last number, and writing a codeword place by place.
use Rattle.std.proofs.Common.{◌≡◌, ℕ, ◌+◌, ◌<◌, List, [], ◌∷◌, ◌++◌, map, length, get_or, drop, reverse, set, sym, refl, ap, ◌∙◌, arith}
use Rattle.std.specs.List.{range_with_len, fold}
use Rattle.std.proofs.lemmas.Grind.{reverse_onto}
use Rattle.std.proofs.lemmas.List.Sums.{fold-append}
use Rattle.std.proofs.lemmas.List.{drop_more, set_at, append_assoc}
use Rattle.std.proofs.lemmas.List.FromFn.{length-map-range_with_len, map-range_with_len_more}
use Rattle.fields.specs.Numbers.{Numbers}
use Rattle.codes.specs.Codewords.{value}

module _ (F : Numbers) where
  -- one number more for a message read from its last number
  abbrev step : ℕ → ℕ → ℕ → ℕ
  step x sum c = F.add c (F.mul x sum)

  pub value_fold : (x : ℕ) (message : List ℕ) → fold (step x) 0 (reverse message) ≡ value F x message
  unfolding value
  value_fold x [] = refl
  value_fold x (c ∷ cs) =
      ap (fold (step x) 0) (reverse_onto cs c [])
      ∙ fold-append (step x) 0 (reverse cs) (c ∷ [])
      ∙ ap (λ (s : ℕ). step x s c) (value_fold x cs)

  -- the number at the place i
  abbrev pub at_place : List ℕ → List ℕ → List ℕ → ℕ → ℕ
  at_place points multipliers message i = F.mul (get_or multipliers i 0) (value F (get_or points i 0) message)

-- i places of an area are written by f, the others are as they were
abbrev pub Written : (ℕ → ℕ) → ℕ → List ℕ → List ℕ → Type 0
Written f i before now = now ≡ map f (range_with_len 0 i) ++ drop i before

pub written_more : (f : ℕ → ℕ) (i y : ℕ) (before now : List ℕ) → i < length before → y ≡ f i → Written f i before now
    → Written f (i + 1) before (set now i y)
written_more f i y before now h e w =
    let l : length (map f (range_with_len 0 i)) ≡ i = length-map-range_with_len f 0 i in
    ap (λ (xs : List ℕ). set xs i y) w
    ∙ ap (λ (xs : List ℕ). set (map f (range_with_len 0 i) ++ xs) i y) (drop_more before i 0 h)
    ∙ set_at (map f (range_with_len 0 i)) (get_or before i 0) (drop (i + 1) before) y i l
    ∙ ap (λ (z : ℕ). map f (range_with_len 0 i) ++ z ∷ drop (i + 1) before) e
    ∙ sym
    (ap (λ (xs : List ℕ). xs ++ drop (i + 1) before) (map-range_with_len_more f 0 i i (omega arith))
    ∙ append_assoc (map f (range_with_len 0 i)) (f i ∷ []) (drop (i + 1) before))
