-- Accepted settings: the interpolant of a basis exists, and the areas have room for it.
use Rattle.std.proofs.Common.{◌≡◌, ℕ, suc, ◌+◌, ◌-◌, ◌*◌, ◌<◌, ◌≤◌, List, length, take, ℤ, pos, ◌-ℤ◌, sym, ap, ◌∙◌, subst, inl, inr, arith, length-take}
use Rattle.std.proofs.lemmas.Nat.{mul-le}
use Rattle.std.proofs.lemmas.Int.{ints}
use Rattle.algebra.specs.Poly.{Degree}
use Rattle.fields.specs.Numbers.{Numbers, AllBelow, ring_of}
use Rattle.polynomials.specs.Series.{poly}
use Rattle.decoding.specs.Setting.{Accepted, Reach, minimum_distance}
use Rattle.codes.proofs.Acceptance.{consequences}
use Rattle.stages.specs.Coefficients.{degree, size}
use Rattle.stages.specs.Syndrome.{syndrome}
use Rattle.stages.specs.Euclid.{rows}
use Rattle.stages.specs.Readings.{Stops}
use Rattle.stages.specs.Basis.{basis, crossing, w1, w2}
use Rattle.stages.proofs.Coefficients.{size_degree}
use Rattle.stages.proofs.Euclid.{rows_stop}
use Rattle.stages.proofs.Syndrome.{syndrome_length, syndrome_top, syndrome_below}
use Rattle.interpolant.specs.declared.Shape.{Shape}
use Rattle.interpolant.specs.Problems.{Enough, room}

-- the weights sum up to 2 τ - d
reached : (n k τ s ℓ a b : ℕ) → Accepted n k τ s ℓ → a + b + (n - k + 1) ≡ 2 * τ
    → n * (s * suc s) + ℓ * suc ℓ * (a + b) < 2 * suc ℓ * (s * τ)
reached n k τ s ℓ a b h e = go h.reach
  where
    go : Reach n (minimum_distance n k) τ s ℓ → n * (s * suc s) + ℓ * suc ℓ * (a + b) < 2 * suc ℓ * (s * τ)
    go (inl l) = absurd (omega arith)
    go (inr (l, r)) =
        subst (λ (z : ℕ). n * (s * suc s) + ℓ * suc ℓ * z < 2 * suc ℓ * (s * τ)) (let z : 2 * τ - (n - k + 1) ≡ a + b = omega arith in z) r

-- 25,000 numbers are enough for any setting
pub rooms : (S : Shape) (n k τ s ℓ : ℕ) → Accepted n k τ s ℓ → n ≤ 32 → S.degree ≡ ℓ → S.multiplicity ≡ s → S.bound ≡ s * τ → n + n + room S ≤ 25000
rooms S n k τ s ℓ h few d m b =
    let c = (consequences n k τ s ℓ h).below_distance in
    let u : s * τ ≤ 8 * 31 = mul-le s τ 8 31 (let x = h.order in let y = h.short in omega arith) (let x = h.some in omega arith) in
    let v : suc S.degree * S.bound ≤ 9 * 248 = mul-le (suc S.degree) S.bound 9 248 (let y = h.short in omega arith) (omega arith) in
    let w : suc S.degree * (suc S.degree * S.bound) ≤ 9 * 2232 = mul-le (suc S.degree) (suc S.degree * S.bound) 9 2232 (let y = h.short in omega arith) (omega arith) in
    let x : S.multiplicity * S.bound ≤ 8 * 248 = mul-le S.multiplicity S.bound 8 248 (let x = h.order in let y = h.short in omega arith) (omega arith) in
    let y : S.multiplicity * suc S.degree ≤ 8 * 9 = mul-le S.multiplicity (suc S.degree) 8 9 (let x = h.order in let y = h.short in omega arith) (let y = h.short in omega arith) in
    let z = h.short in
    omega arith

module _ (F : Numbers) (αs vs : List ℕ) (k : ℕ) (rs : List ℕ) (hα : AllBelow F.q αs) (hv : AllBelow F.q vs) (hr : AllBelow F.q rs) where
  abbrev D : ℕ
  D = length αs - k

  abbrev S : List ℕ
  S = syndrome F αs vs (length αs - k) rs

  -- the rows of the basis are rows at which Euclid's algorithm stops
  pub stops : Stops F crossing (length αs - k) (poly F (syndrome F αs vs (length αs - k) rs)) (rows F crossing (length αs - k) (syndrome F αs vs (length αs - k) rs))
  stops = rows_stop F crossing D S (syndrome_below F αs vs hα hv D rs hr) (syndrome_length F αs vs hα hv D rs hr)
      (syndrome_top F αs vs hα hv D rs hr D (let l : D ≤ D = omega arith in l)) (omega arith)

  degree_is : (xs : List ℕ) (d : ℕ) → size xs ≡ suc d → degree xs ≡ pos d
  degree_is xs d e = ap (λ (n : ℕ). pos n -ℤ pos 1) e ∙ omega (arith, ints)

  -- the weights that are not negative
  pub sums : (τ a b : ℕ) → pos a ≡ w1 τ (basis F αs vs k rs) → pos b ≡ w2 τ (basis F αs vs k rs) → a + b + (length αs - k + 1) ≡ 2 * τ
  unfolding basis
  sums τ a b ea eb =
      let T = stops.stopped in
      let e = stops.stopped.rows.sum in
      let u : degree (rows F crossing D S).before.a ≡ pos stops.stopped.p =
      degree_is (rows F crossing D S).before.a stops.stopped.p
      (size_degree F (rows F crossing D S).before.a stops.stopped.p stops.before.a_below
      (subst (Degree (ring_of F) stops.stopped.p) (sym stops.before.a_is) stops.stopped.rows.a_degree) (let l = stops.before.a_length in omega arith)) in
      let v : degree (rows F crossing D S).last.b ≡ pos stops.stopped.l =
      degree_is (rows F crossing D S).last.b stops.stopped.l
      (size_degree F (rows F crossing D S).last.b stops.stopped.l stops.last.b_below
      (subst (Degree (ring_of F) stops.stopped.l) (sym stops.last.b_is) stops.stopped.rows.b_degree) (let l = stops.last.b_length in omega arith)) in
      let x : pos a ≡ pos τ -ℤ pos stops.stopped.p -ℤ pos 1 = ea ∙ ap (λ (z : ℤ). pos τ -ℤ z -ℤ pos 1) u in
      let y : pos b ≡ pos τ -ℤ pos stops.stopped.l = eb ∙ ap (λ (z : ℤ). pos τ -ℤ z) v in
      omega (arith, ints)

  pub enough : (X : Shape) (τ s ℓ : ℕ) → Accepted (length αs) k τ s ℓ → X.degree ≡ ℓ → X.multiplicity ≡ s → X.bound ≡ s * τ
      → pos X.w1 ≡ w1 τ (basis F αs vs k rs) → pos X.w2 ≡ w2 τ (basis F αs vs k rs) → Enough X (length αs)
  enough X τ s ℓ h d m b ea eb =
      subst (λ (z : ℕ). length αs * (z * suc z) + X.degree * suc X.degree * (X.w1 + X.w2) < 2 * suc X.degree * X.bound) (sym m)
      (subst (λ (z : ℕ). length αs * (s * suc s) + z * suc z * (X.w1 + X.w2) < 2 * suc z * X.bound) (sym d)
      (subst (λ (z : ℕ). length αs * (s * suc s) + ℓ * suc ℓ * (X.w1 + X.w2) < 2 * suc ℓ * z) (sym b)
      (reached (length αs) k τ s ℓ X.w1 X.w2 h (sums τ X.w1 X.w2 ea eb))))

  -- the rows of the basis, as lists
  pub h11_below : AllBelow F.q (basis F αs vs k rs).rows.before.b
  unfolding basis
  h11_below = stops.before.b_below

  pub h21_below : AllBelow F.q (basis F αs vs k rs).rows.last.b
  unfolding basis
  h21_below = stops.last.b_below

  pub h11_length : length (basis F αs vs k rs).rows.before.b ≡ length (basis F αs vs k rs).S
  unfolding basis
  h11_length = stops.before.b_length ∙ sym (syndrome_length F αs vs hα hv D rs hr)

  pub h21_length : length (basis F αs vs k rs).rows.last.b ≡ length (basis F αs vs k rs).S
  unfolding basis
  h21_length = stops.last.b_length ∙ sym (syndrome_length F αs vs hα hv D rs hr)

-- an array of which the first d numbers are a list of d numbers has that many
pub front_fits : (d : ℕ) (xs ys : List ℕ) → take d xs ≡ ys → length ys ≡ d → d ≤ length xs
front_fits d xs ys e l = let u = length-take d xs in let v : length (take d xs) ≡ d = ap length e ∙ l in omega arith
