-- The walk of a chart: its array fits, its leaf is ready, and what its visits say of the desk.
use Rattle.std.proofs.Common.{◌≡◌, ℕ, suc, ◌+◌, ◌*◌, ◌<◌, ◌≤◌, List, [], ◌∷◌, length, sym, refl, ap, ◌∙◌, subst, mul-le-mul_right, arith}
use native.Mathlib.Decide.{dec_lt}
use Rattle.algebra.specs.Poly.{pzero, Below}
use Rattle.algebra.specs.PolyRing.{Poly}
use Rattle.fields.specs.Numbers.{Numbers, AllBelow, Element, ring_of}
use Rattle.polynomials.proofs.Readings.{poly_past}
use Rattle.digits.specs.declared.Shape.{Shape}
use Rattle.digits.specs.Runs.{run, runs, Fits, Held}
use Rattle.digits.specs.Walks.{Chain, Walked}
use Rattle.digits.proofs.Arrays.{runs_below}
use Rattle.roots.specs.Desk.{Desk, Seated, Ready}
use Rattle.roots.proofs.Few.{run_short}

module _ (F : Numbers) where
  zero_below : (n : ℕ) (p : ℕ → Element F) → p ≡ (Poly (ring_of F)).𝟘 → Below (ring_of F) n p
  zero_below n p e i k = ap (λ (f : ℕ → Element F). f i) e ∙ unfold pzero in refl

  -- runs of c numbers with room for N digits
  fits_spread : (c ℓ N : ℕ) (form out : List ℕ) → length form ≡ (ℓ + 1) * c → runs F (c + ℓ * N) out ≡ runs F c form → Fits (ring_of F) (c + ℓ * N) N (runs F (c + ℓ * N) out)
  fits_spread c ℓ N form out l e b i k = ap (λ (f : ℕ → ℕ → Element F). f b i) e ∙ go (dec_lt ℓ b)
    where
      go : Dec (ℓ < b) → runs F c form b i ≡ (ring_of F).𝟘
      go (yes h) = zero_below i (runs F c form b) (runs_below F c ℓ form l b (omega arith)) i (omega arith)
      go (no h) =
          poly_past F (run c b form) i
          (let s = run_short F c b form in let m = mul-le-mul_right N (let q : b ≤ ℓ = omega arith in q) in omega arith)

  pub held_spread : (s : Shape) (c : ℕ) (form out : List ℕ) → s.width ≡ c + s.degree * s.depth → s.size ≡ s.width → length form ≡ (s.degree + 1) * c → length out ≡ (s.degree + 1) * s.width → AllBelow F.q out → runs F s.width out ≡ runs F c form → Held F s out
  held_spread s c form out ew es l long all e =
      record {
        all = all;
        long = long;
        room = omega arith;
        deep = omega arith;
        fits =
            subst (λ (m : ℕ). Fits (ring_of F) m s.depth (runs F s.width out)) (sym (es ∙ ew))
            (subst (λ (w : ℕ). Fits (ring_of F) (c + s.degree * s.depth) s.depth (runs F w out)) (sym ew)
            (fits_spread c s.degree s.depth form out l (subst (λ (w : ℕ). runs F w out ≡ runs F c form) ew e)));
      }

  pub ready : (d : Desk) (ds : List ℕ) → Seated F.q d → length ds ≡ suc (d.w₁ + d.w₂) → AllBelow F.q ds → Ready F.q d ds
  ready d ds x l a =
      record { digits = a; depth = l; first = x.first; second = x.second; all = x.all; long = x.long; wide = x.wide; work = x.work; fits = x.fits }

-- visits that say something of a part, and keep another
module _ {S D X : Type 0} (visits : D → List ℕ → D → Type 0) (desk : S → D) (kept : S → X) where
  abbrev Both : S → List ℕ → S → Type 0
  Both s ds s' = visits (desk s) ds (desk s') × (kept s' ≡ kept s)

  chain_part : (leaves : List (List ℕ)) (s s' : S) → Chain Both s leaves s' → Chain visits (desk s) leaves (desk s')
  chain_part [] s s' c = ap desk c
  chain_part (d ∷ ds) s s' (m, v, c) = (desk m, v.0, chain_part ds m s' c)

  chain_kept : (leaves : List (List ℕ)) (s s' : S) → Chain Both s leaves s' → kept s' ≡ kept s
  chain_kept [] s s' c = ap kept (sym c)
  chain_kept (d ∷ ds) s s' (m, v, c) = chain_kept ds m s' c ∙ v.1

  pub walked_part : {P : List ℕ → Type 0} {s s' : S} → Walked Both P s s' → Walked visits P (desk s) (desk s')
  walked_part {P} {s} {s'} w = record { leaves = w.leaves; chain = chain_part w.leaves s s' w.chain; sound = w.sound; complete = w.complete }

  pub walked_kept : {P : List ℕ → Type 0} {s s' : S} → Walked Both P s s' → kept s' ≡ kept s
  walked_kept {P} {s} {s'} w = chain_kept w.leaves s s' w.chain
