-- The sizes of the interpolant of an accepted setting: its roots can be asked for, and the work area has room for it and for all that finds it and its roots.
use Rattle.std.proofs.Common.{◌&&◌, ◌≡◌, ℕ, zero, suc, ◌+◌, ◌-◌, ◌*◌, ◌<◌, ◌≤◌, Bool, true, false, cond, eqb, List, [], ◌∷◌, get_or, refl, ap, ◌∙◌, arith, eqb-true}
use native.Mathlib.Decide.{dec_lt}
use Rattle.std.proofs.lemmas.Nat.{mul-le}
use Rattle.decoding.specs.Setting.{Accepted}
use Rattle.decoding.specs.Koetter.{Problem}
use Rattle.fields.specs.Numbers.{Numbers, Element, elem}
use Rattle.polynomials.proofs.Readings.{poly_at}
use Rattle.codes.proofs.Acceptance.{consequences}
use Rattle.functionals.specs.Runs.{family}
use Rattle.functionals.proofs.Runs.{family_at, family_past}
use Rattle.interpolant.specs.declared.Shape.{Shape}
use Rattle.interpolant.specs.Problems.{Solution}
use Rattle.interpolating.proofs.Bounds.{rooms}
use Rattle.roots.specs.Asked.{all_zero}
use Rattle.pairs.specs.Stage.{Fits}

-- a list of zeros
zero_at : (xs : List ℕ) → all_zero xs ≡ true → (i : ℕ) → get_or xs i 0 ≡ 0
zero_at [] e i = refl
zero_at (x ∷ xs) e i = go (λ f. zero_at xs f) (eqb x 0) refl e i
  where
    go : (all_zero xs ≡ true → (i : ℕ) → get_or xs i 0 ≡ 0) → (b : Bool) → eqb x 0 ≡ b → (b && all_zero xs) ≡ true → (i : ℕ) → get_or (x ∷ xs) i 0 ≡ 0
    go more true t f zero = eqb-true x 0 t
    go more true t f (suc i) = more f i
    go more false t f i = absurd (let z : ◌≡◌ {A = ℕ} 0 1 = cc in omega arith)

-- an interpolant has a number that is not zero
pub not_all_zero : (F : Numbers) (P : Problem (Element F)) (n s : ℕ) (out : List ℕ) → Solution F P n s out → all_zero out ≡ false
not_all_zero F P n s out h = go (all_zero out) refl
  where
    zeros : all_zero out ≡ true → (t m : ℕ) → Dec (m < P.B) → family F P.B out t m ≡ elem F 0
    zeros e t m (yes l) = family_at F P.B out t m l ∙ poly_at F out (t * P.B + m) ∙ ap (elem F) (zero_at out e (t * P.B + m))
    zeros e t m (no l) = family_past F P.B out t m (omega arith)

    go : (b : Bool) → all_zero out ≡ b → b ≡ false
    go true e = absurd (h.is.nonzero (zeros e h.is.position h.is.exponent (dec_lt h.is.exponent P.B)))
    go false e = refl

-- the numbers of an accepted setting, of n places, where the weights sum up to less than the radius
pub fits : (S : Shape) (n k τ s ℓ : ℕ) → Accepted n k τ s ℓ → n ≤ 32 → S.degree ≡ ℓ → S.multiplicity ≡ s → S.bound ≡ s * τ
    → S.w1 + S.w2 + (n - k + 1) ≡ 2 * τ → (numbers : ℕ) → 32000 ≤ numbers → Fits S n numbers
fits S n k τ s ℓ h few d m b e numbers l =
    let c = (consequences n k τ s ℓ h).below_distance in
    let o = h.order in
    let y = h.short in
    let z = h.some in
    let v : s * τ ≤ 8 * 31 = mul-le s τ 8 31 (omega arith) (omega arith) in
    let f : suc S.degree * S.bound ≤ 9 * 248 = mul-le (suc S.degree) S.bound 9 248 (omega arith) (omega arith) in
    let f' : (S.degree + 1) * S.bound ≤ 9 * 248 = mul-le (S.degree + 1) S.bound 9 248 (omega arith) (omega arith) in
    let t : S.degree * (S.w1 + S.w2 + 1) ≤ 8 * 63 = mul-le S.degree (S.w1 + S.w2 + 1) 8 63 (omega arith) (omega arith) in
    let u : (S.degree + 1) * (S.bound + S.degree * (S.w1 + S.w2 + 1)) ≤ 9 * 752 =
    mul-le (S.degree + 1) (S.bound + S.degree * (S.w1 + S.w2 + 1)) 9 752 (omega arith) (omega arith) in
    let r = rooms S n k τ s ℓ h few d m b in
    let p = h.multiplicity in
    record {
      some = omega arith;
      few = omega arith;
      short = omega arith;
      first = omega arith;
      second = omega arith;
      interpolant = omega arith;
      roots = omega arith;
    }
