-- What the call asks of its parts, and what they answer.
use Rattle.std.proofs.Common.{◌≡◌, ℕ, suc, ◌+◌, ◌-◌, ◌*◌, ◌<◌, ◌≤◌, Bool, List, [], ◌∷◌, ◌++◌, length, get_or, take, drop, Some, None, Option, sym, ap, ◌∙◌, subst, ap₂, add-one, arith, le-ltb}
use Rattle.std.proofs.lemmas.List.{length-take-le, get_or-take, length-append}
use Rattle.faults.specs.declared.ListingFault.{ListingFault}
use Rattle.faults.specs.declared.ListingFault.TheVariants.{ResultArea}
use Rattle.fields.specs.Numbers.{Numbers, AllBelow}
use Rattle.codes.specs.First.{or_else, when}
use Rattle.codes.specs.Codewords.{area_after}
use Rattle.codes.specs.Valid.{NonZero}
use Rattle.codes.specs.declared.Code.{Code}
use Rattle.collections.specs.Book.{Book}
use Rattle.collections.proofs.Booked.{on_page}
use Rattle.collections.specs.Standing.{opened_in, standing, Over, Sound}
use Rattle.collections.specs.declared.Kept.{Kept}
use Rattle.collections.specs.declared.Opened.{Opened}
use Rattle.gathering.specs.Shares.{numbers, gathering_fault}
use Rattle.stages.specs.Coefficients.{listed}
use Rattle.stages.specs.Syndrome.{coefficient, syndrome}
use Rattle.stages.proofs.Coefficients.{listed_length}
use Rattle.stages.specs.Basis.{Basis, basis, runs}
use Rattle.basis.specs.Found.{Finds, laid}
use Rattle.basis.specs.declared.Basis.{Basis as Found}
use Rattle.basis_call.specs.Calls.{area_fault, basis_fault, basis_of, radius_of, Weighs}
use Rattle.basis_call.specs.declared.Weights.{Weights}

-- the numbers of a checked code are elements
pub below_by : (q n : ℕ) (xs ys : List ℕ) → NonZero q n xs → n ≤ length xs → ys ≡ take n xs → AllBelow q ys
below_by q n xs ys h l e i u =
    let k : i < n = let z = ap length e ∙ length-take-le n xs l in omega arith in
    subst (λ (v : ℕ). v < q) (sym (ap (λ (zs : List ℕ). get_or zs i 0) e ∙ get_or-take n xs i 0 k)) (h i k).1

pub count_by : (n : ℕ) (xs ys : List ℕ) → n ≤ length xs → ys ≡ take n xs → length ys ≡ n
count_by n xs ys l e = ap length e ∙ length-take-le n xs l

pub points_room : (c : Code) → c.count ≤ length c.points
points_room c = let e = c.points_length in let b = c.places.1 in omega arith

pub multipliers_room : (c : Code) → c.count ≤ length c.multipliers
multipliers_room c = let e = c.multipliers_length in let b = c.places.1 in omega arith

points_count : (o : Opened) → length (take o.code.count o.code.points) ≡ o.code.count
points_count o = length-take-le o.code.count o.code.points (points_room o.code)

pub over_by : (q : ℕ) (k : Kept) (o : Opened) → Sound q k → opened_in k.page ≡ Some o → o.code.q ≡ q
over_by q k o s e = let h : Over q (Some o) = subst (Over q) e s.0 in h.0

-- an open collection: the check of the area is the last one
module _ (q : ℕ) (k : Kept) (o : Opened) (told : List (Option ℕ)) (m : ℕ) (es : opened_in k.page ≡ Some o) (passed : gathering_fault q o.code.count told ≡ None) where
  pub fault_by : (f : Option ListingFault) → area_fault o.code.count o.code.threshold m ≡ f → basis_fault q (standing k) told m ≡ f
  fault_by f e =
      ap (λ (b : Book). basis_fault q b told m) (on_page k.page o es)
      ∙ ap (λ (n : ℕ). or_else (gathering_fault q n told) (area_fault n o.code.threshold m)) (points_count o)
      ∙ ap (λ (x : Option ListingFault). or_else x (area_fault o.code.count o.code.threshold m)) passed ∙ e

pub fits_area : (n k m : ℕ) → 5 * (n - k + 1) ≤ m → area_fault n k m ≡ None
fits_area n k m h = ap (λ (t : Bool). when t (ResultArea m)) (le-ltb m (5 * (n - k + 1)) h)

-- the basis of the book
book_basis : (F : Numbers) (k : Kept) (o : Opened) (told : List (Option ℕ)) → opened_in k.page ≡ Some o
    → basis_of F (standing k) told
    ≡ basis F (take o.code.count o.code.points) (take o.code.count o.code.multipliers) o.code.threshold (numbers told)
book_basis F k o told es = ap (λ (b : Book). basis_of F b told) (on_page k.page o es)

syndrome_size : (F : Numbers) (αs vs : List ℕ) (D : ℕ) (rs : List ℕ) → length (syndrome F αs vs D rs) ≡ suc D
unfolding syndrome
syndrome_size F αs vs D rs = length-append (listed D (coefficient F αs vs D rs)) (0 ∷ []) ∙ ap (λ (n : ℕ). n + 1) (listed_length D (coefficient F αs vs D rs)) ∙ add-one D

module _ (F : Numbers) (k : Kept) (o : Opened) (told : List (Option ℕ)) (shares : List ℕ) (r : Found) (es : opened_in k.page ≡ Some o) (read : shares ≡ numbers told)
    (finds : Finds (basis F (take o.code.count o.code.points) (take o.code.count o.code.multipliers) o.code.threshold shares) o.setting.radius r) where
  found : Finds (basis_of F (standing k) told) (radius_of (standing k)) r
  found =
      subst (λ (B : Basis). Finds B (radius_of (standing k)) r) (sym (book_basis F k o told es))
      (subst (λ (τ : ℕ). Finds (basis F (take o.code.count o.code.points) (take o.code.count o.code.multipliers) o.code.threshold (numbers told)) τ r)
      (sym (ap radius_of (on_page k.page o es)))
      (subst (λ (xs : List ℕ). Finds (basis F (take o.code.count o.code.points) (take o.code.count o.code.multipliers) o.code.threshold xs) o.setting.radius r) read finds))

  laid_is : laid r ≡ runs (basis_of F (standing k) told)
  laid_is =
      let f = found in
      ap₂ ◌++◌ f.s (ap₂ ◌++◌ f.h10 (ap₂ ◌++◌ f.h11 (ap₂ ◌++◌ f.h20 f.h21)))

  long : (xs : List ℕ) → length xs ≡ 32 → length (take r.d xs) ≡ r.d
  long xs e = length-take-le r.d xs (let w = r.width in omega arith)

  laid_length : length (laid r) ≡ 5 * r.d
  laid_length =
      length-append (take r.d r.s) _
      ∙ ap₂ ◌+◌ (long r.s r.s_length)
      (length-append (take r.d r.h10) _
      ∙ ap₂ ◌+◌ (long r.h10 r.h10_length)
      (length-append (take r.d r.h11) _
      ∙ ap₂ ◌+◌ (long r.h11 r.h11_length)
      (length-append (take r.d r.h20) _
      ∙ ap₂ ◌+◌ (long r.h20 r.h20_length) (long r.h21 r.h21_length))))
      ∙ (let z : r.d + (r.d + (r.d + (r.d + r.d))) ≡ 5 * r.d = omega arith in z)

  -- the area after the runs were written
  pub area_by : (before after : List ℕ) → after ≡ laid r ++ drop (5 * r.d) before → after ≡ area_after None (runs (basis_of F (standing k) told)) before
  area_by before after e =
      e ∙ ap₂ (λ (xs : List ℕ) (n : ℕ). xs ++ drop n before) laid_is (sym laid_length ∙ ap length laid_is)

  pub weights_by : (w : Weights) → w.w1 ≡ r.w1 → w.w2 ≡ r.w2 → Weighs F (standing k) told w
  weights_by w e1 e2 = record { first = e1 ∙ found.first_weight; second = e2 ∙ found.second_weight }

  -- the runs fit
  pub width_is : r.d ≡ o.code.count - o.code.threshold + 1
  unfolding basis
  width_is =
      sym finds.size ∙ syndrome_size F (take o.code.count o.code.points) (take o.code.count o.code.multipliers) (length (take o.code.count o.code.points) - o.code.threshold) shares
      ∙ ap (λ (n : ℕ). suc (n - o.code.threshold)) (points_count o) ∙ sym (add-one _)
