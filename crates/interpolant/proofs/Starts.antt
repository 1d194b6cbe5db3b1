-- The rows and ranks that the iteration starts from.
use Rattle.std.proofs.Common.{◌≡◌, ℕ, ◌+◌, ◌*◌, ◌/◌, ◌%◌, ◌<◌, ◌≤◌, ◌≢◌, List, length, sym, refl, ap, ◌∙◌, subst, arith}
use native.Mathlib.Decide.{ℕ_discrete}
use lib.Arith.{digits_div, digits_mod}
use Rattle.fields.specs.Numbers.{Numbers, elem, pos}
use Rattle.polynomials.proofs.Writes.{Written}
use Rattle.polynomials.proofs.Readings.{poly_at}
use Rattle.functionals.specs.Runs.{run, family}
use Rattle.functionals.proofs.Runs.{run_at, family_at}
use Rattle.interpolant.specs.Problems.{FirstRows}

-- what is written at each place
unfoldable pub first : ℕ → ℕ → ℕ → ℕ
first size B i = elim (ℕ_discrete (i / size * B) (i % size)) [ yes _ ↦ 1 | no _ ↦ 0 ]

pub first_yes : (size B i : ℕ) → i / size * B ≡ i % size → 1 ≡ first size B i
unfolding first
first_yes size B i e = go (ℕ_discrete (i / size * B) (i % size))
  where
    go : (d : Dec (i / size * B ≡ i % size)) → ◌≡◌ {A = ℕ} 1 (elim d [ yes _ ↦ 1 | no _ ↦ 0 ])
    go (yes _) = refl
    go (no n) = absurd (n e)

pub first_no : (size B i : ℕ) → i / size * B ≢ i % size → 0 ≡ first size B i
unfolding first
first_no size B i n = go (ℕ_discrete (i / size * B) (i % size))
  where
    go : (d : Dec (i / size * B ≡ i % size)) → ◌≡◌ {A = ℕ} 0 (elim d [ yes _ ↦ 1 | no _ ↦ 0 ])
    go (yes e) = absurd (n e)
    go (no _) = refl

-- the place of the coefficient m of the run t of the row j
place_div : (size B j t m : ℕ) → t * B + B ≤ size → m < B → (j * size + (t * B + m)) / size ≡ j
place_div size B j t m h l = digits_div j (omega arith)

place_mod : (size B j t m : ℕ) → t * B + B ≤ size → m < B → (j * size + (t * B + m)) % size ≡ t * B + m
place_mod size B j t m h l = digits_mod j (omega arith)

-- no other place of the row has a 1
same_run : (B j t m : ℕ) → m < B → j * B ≡ t * B + m → (t ≡ j) × (m ≡ 0)
same_run B j t m l e =
    let a : (j * B + 0) / B ≡ j = digits_div j (omega arith) in
    let b : (t * B + m) / B ≡ t = digits_div t l in
    let q : t ≡ j = sym b ∙ ap (λ (z : ℕ). z / B) (let z : t * B + m ≡ j * B + 0 = omega arith in z) ∙ a in
    (q, (let z : t * B ≡ j * B = ap (λ (n : ℕ). n * B) q in omega arith))

module _ (F : Numbers) where
  pub first_rows : (size B n : ℕ) (xs ys : List ℕ) → Written 0 n (first size B) xs ys → length xs ≤ n → FirstRows F size B ys
  first_rows size B n xs ys w l =
      record {
        below = λ k h. let same = w.long in subst (λ (z : ℕ). z < F.q) (sym (w.inside k (omega arith) (omega arith))) (bit k (ℕ_discrete (k / size * B) (k % size)));
        one = λ j h k some.
            at j j 0 h k some
            ∙ ap (elem F) (sym (first_yes size B (j * size + (j * B + 0)) (here j j 0 k some (let z : j * B ≡ j * B + 0 = omega arith in z))));
        rest = λ j t m h k u n.
            at j t m h k u
            ∙ ap (elem F) (sym (first_no size B (j * size + (t * B + m))
            (λ e. let v = same_run B j t m u (sym (ap (λ (z : ℕ). z * B) (place_div size B j t m k u)) ∙ e ∙ place_mod size B j t m k u) in
            let x : 0 < m = n v.0 in
            let y : m ≡ 0 = v.1 in
            omega arith)));
      }
    where
      bit : (k : ℕ) → Dec (k / size * B ≡ k % size) → first size B k < F.q
      bit k (yes e) = subst (λ (z : ℕ). z < F.q) (first_yes size B k e) F.laws.two
      bit k (no e) = subst (λ (z : ℕ). z < F.q) (first_no size B k e) (pos F)

      here : (j t m : ℕ) → t * B + B ≤ size → m < B → j * B ≡ t * B + m → (j * size + (t * B + m)) / size * B ≡ (j * size + (t * B + m)) % size
      here j t m h l e = ap (λ (z : ℕ). z * B) (place_div size B j t m h l) ∙ e ∙ sym (place_mod size B j t m h l)

      at : (j t m : ℕ) → j * size + size ≤ length ys → t * B + B ≤ size → m < B → family F B (run size ys j) t m ≡ elem F (first size B (j * size + (t * B + m)))
      at j t m h k u =
          let same = w.long in
          family_at F B (run size ys j) t m u ∙ poly_at F (run size ys j) (t * B + m)
          ∙ ap (elem F) (run_at size ys j (t * B + m) (omega arith) ∙ w.inside (j * size + (t * B + m)) (omega arith) (omega arith))
