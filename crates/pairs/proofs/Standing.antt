-- Pairs of lists that stand for pairs of polynomials: the pair (0, 1), and the listed roots of a form, which are all of them.
use Rattle.std.proofs.Common.{◌≡◌, ℕ, zero, suc, ◌+◌, ◌*◌, ◌<◌, ◌≤◌, ◌↔◌, List, [], ◌∷◌, length, get_or, take, drop, set, replicate, sym, refl, ap, ◌∙◌, subst, subst₂, inl, inr, suc-mul, zero-mul, arith}
use mathlib.Core.Path.{fun_ext}
use native.Mathlib.Decide.{dec_lt}
use lib.ListN.{length-replicate}
use Rattle.std.proofs.lemmas.List.{get_or-replicate, drop-drop}
use Rattle.algebra.specs.Poly.{pzero, const, Below}
use Rattle.decoding.specs.Rational.{Root}
use Rattle.fields.specs.Numbers.{Numbers, AllBelow, Element, elem, elem_value, pos, ring_of}
use Rattle.polynomials.specs.Series.{poly}
use Rattle.polynomials.proofs.Readings.{poly_at, past}
use Rattle.rolls.specs.Order.{Lists}
use Rattle.functionals.specs.Runs.{family, run as run_at}
use Rattle.digits.specs.Runs.{run, runs}
use Rattle.stages.specs.Coefficients.{listed}
use Rattle.stages.proofs.Coefficients.{listed_length, listed_at, listed_below}
use Rattle.leaves.specs.declared.pairs.Pair.{Pair}
use Rattle.leaves.specs.Order.{in_order}
use Rattle.candidates.specs.Sifting.{OneOf}
use Rattle.roots.specs.Asked.{Asked}
use Rattle.roots.specs.Answer.{form_of, IsRoot}
use Rattle.pairs.specs.Stage.{unit_pair}

-- a list whose first pair was written begins with it
pub first_written : (pairs : List Pair) (p : Pair) → 0 < length pairs → take 1 (set pairs 0 p) ≡ p ∷ []
first_written [] p l = absurd (let z : 0 < 0 = l in omega arith)
first_written (q ∷ qs) p l = refl

-- the two readings of runs
run_is : (B : ℕ) (xs : List ℕ) (t : ℕ) → run B t xs ≡ run_at B xs t
unfolding run_at
run_is B xs zero = ap (λ (n : ℕ). take B (drop n xs)) (sym (zero-mul B))
run_is B xs (suc t) =
    run_is B (drop B xs) t
    ∙ ap (take B) (drop-drop (t * B) B xs ∙ ap (λ (n : ℕ). drop n xs) (let e = suc-mul t B in let z : B + t * B ≡ suc t * B = omega arith in z))

pub runs_are : (F : Numbers) (B : ℕ) (xs : List ℕ) → runs F B xs ≡ family F B xs
runs_are F B xs = fun_ext (λ t. ap (poly F) (run_is B xs t))

module _ (F : Numbers) where
  -- a list of n numbers for a polynomial with n coefficients
  pub numbers : ℕ → (ℕ → Element F) → List ℕ
  numbers n f = listed n (λ i. (f i).0)

  pub numbers_long : (n : ℕ) (f : ℕ → Element F) → length (numbers n f) ≡ n
  unfolding numbers
  numbers_long n f = listed_length n (λ i. (f i).0)

  pub numbers_below : (n : ℕ) (f : ℕ → Element F) → AllBelow F.q (numbers n f)
  unfolding numbers
  numbers_below n f = listed_below F n (λ i. (f i).0) (λ i. (f i).1)

  pub numbers_read : (n : ℕ) (f : ℕ → Element F) → Below (ring_of F) n f → poly F (numbers n f) ≡ f
  unfolding numbers
  numbers_read n f h = fun_ext (λ i. poly_at F (numbers n f) i ∙ go i (dec_lt i n))
    where
      go : (i : ℕ) → Dec (i < n) → elem F (get_or (numbers n f) i 0) ≡ f i
      go i (yes l) = ap (elem F) (listed_at n (λ i. (f i).0) i l) ∙ elem_value F (f i)
      go i (no l) = ap (elem F) (past F (numbers n f) i (let e = numbers_long n f in omega arith)) ∙ sym (h i (omega arith))

  abbrev zeros : ℕ → List ℕ
  zeros n = replicate n 0

  zeros_read : (n i : ℕ) → elem F (get_or (zeros n) i 0) ≡ elem F 0
  zeros_read n i = ap (elem F) (go (dec_lt i n))
    where
      go : Dec (i < n) → get_or (zeros n) i 0 ≡ 0
      go (yes l) = get_or-replicate n i 0 0 l
      go (no l) = past F (zeros n) i (let e : length (zeros n) ≡ n = length-replicate n 0 in omega arith)

  pub unit_first : poly F unit_pair.first ≡ pzero (ring_of F)
  unfolding pzero
  unit_first = fun_ext (λ i. poly_at F (replicate 32 0) i ∙ zeros_read 32 i)

  pub unit_second : poly F unit_pair.second ≡ const (ring_of F) (elem F 1)
  unfolding const
  unit_second = fun_ext at
    where
      at : (i : ℕ) → poly F (1 ∷ replicate 31 0) i ≡ const (ring_of F) (elem F 1) i
      at zero = poly_at F (1 ∷ replicate 31 0) 0
      at (suc i) = poly_at F (1 ∷ replicate 31 0) (suc i) ∙ zeros_read 31 i

  pub unit_first_below : AllBelow F.q unit_pair.first
  unit_first_below i l = subst (λ (n : ℕ). n < F.q) (sym (get_or-replicate 32 i 0 0 l)) (pos F)

  pub unit_second_below : AllBelow F.q unit_pair.second
  unit_second_below zero l = F.laws.two
  unit_second_below (suc i) l = subst (λ (n : ℕ). n < F.q) (sym (get_or-replicate 31 i 0 0 (omega arith))) (pos F)

  pub unit_one : (f₁ f₂ : ℕ → Element F)
      → OneOf F (unit_pair ∷ []) f₁ f₂ ↔ ((f₁ ≡ pzero (ring_of F)) × (f₂ ≡ const (ring_of F) (elem F 1)))
  unit_one f₁ f₂ = (
    λ o. elim o.member [
      | inl e ↦ (sym o.first ∙ ap (λ (p : Pair). poly F p.first) e ∙ unit_first, sym o.second ∙ ap (λ (p : Pair). poly F p.second) e ∙ unit_second)
      | inr e ↦ absurd e
    ],
    λ e. record { pair = unit_pair; member = inl refl; first = unit_first ∙ sym e.0; second = unit_second ∙ sym e.1 },
  )

  -- the listed roots of a form with small bounds are all its roots
  module _ (a : Asked) (items : List Pair) (l : Lists in_order (IsRoot F a) items) (first : a.w₁ ≤ 31) (second : a.w₂ ≤ 31) where
    to_root : (f₁ f₂ : ℕ → Element F) → OneOf F items f₁ f₂ → Root (ring_of F) a.ℓ a.w₁ a.w₂ (form_of F a) f₁ f₂
    to_root f₁ f₂ o =
        subst₂ (Root (ring_of F) a.ℓ a.w₁ a.w₂ (form_of F a)) o.first o.second (l.sound o.pair o.member).root

    to_item : (f₁ f₂ : ℕ → Element F) → Root (ring_of F) a.ℓ a.w₁ a.w₂ (form_of F a) f₁ f₂ → OneOf F items f₁ f₂
    to_item f₁ f₂ r =
        let e₁ = numbers_read 32 f₁ (λ i h. r.f₁_below i (omega arith)) in
        let e₂ = numbers_read 32 f₂ (λ i h. r.f₂_below i (omega arith)) in
        let p : Pair = record { first = numbers 32 f₁; second = numbers 32 f₂ } in
        record {
          pair = p;
          member =
              l.complete p
              (record {
                first_long = numbers_long 32 f₁;
                second_long = numbers_long 32 f₂;
                first_below = numbers_below 32 f₁;
                second_below = numbers_below 32 f₂;
                root = subst₂ (Root (ring_of F) a.ℓ a.w₁ a.w₂ (form_of F a)) (sym e₁) (sym e₂) r;
              });
          first = e₁;
          second = e₂;
        }

    pub roots_one : (f₁ f₂ : ℕ → Element F) → OneOf F items f₁ f₂ ↔ Root (ring_of F) a.ℓ a.w₁ a.w₂ (form_of F a) f₁ f₂
    roots_one f₁ f₂ = (to_root f₁ f₂, to_item f₁ f₂)
