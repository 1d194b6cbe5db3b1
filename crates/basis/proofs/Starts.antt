-- The first two rows as they are written.
use Rattle.std.proofs.Common.{◌≡◌, ℕ, zero, suc, List, [], ◌∷◌, ◌++◌, set, replicate, refl, ap, ◌∙◌, ap₂}
use Rattle.fields.specs.Numbers.{Numbers}
use Rattle.stages.specs.Euclid.{row, two_rows, start}

-- a 1 at the end of zeros
set_top : (D : ℕ) → set {A = ℕ} (replicate (suc D) 0) D 1 ≡ replicate D 0 ++ 1 ∷ []
set_top zero = refl
set_top (suc D) = ap (λ (xs : List ℕ). 0 ∷ xs) (set_top D)

module _ (F : Numbers) where
  pub started : (D n v : ℕ) (x y z la s : List ℕ) → n ≡ suc D → x ≡ replicate n 0 → y ≡ replicate n 0 → z ≡ replicate n 0 → la ≡ s → v ≡ F.neg 1
      → two_rows (row (set x D 1) y) (row la (set z 0 v)) ≡ start F D s
  started D n v x y z la s en ex ey ez el ev =
      let zeros : replicate n 0 ≡ replicate (suc D) 0 = ap (λ (m : ℕ). replicate m 0) en in
      ap₂ two_rows
      (ap₂ row (ap (λ (t : List ℕ). set t D 1) (ex ∙ zeros) ∙ set_top D) (ey ∙ zeros))
      (ap₂ row el (ap₂ (λ (t : List ℕ) (w : ℕ). set t 0 w) (ez ∙ zeros) ev))
