-- What stands in the areas of the first stage.
use Rattle.std.proofs.Common.{◌≡◌, ℕ, ◌+◌, ◌-◌, List, ◌++◌, length, get_or, take, drop, ℤ, pos, ◌-ℤ◌, sym, ap, ◌∙◌, subst, ap₂, arith}
use Rattle.std.proofs.lemmas.List.{take_at}
use Rattle.fields.specs.Numbers.{Numbers, AllBelow}
use Rattle.polynomials.specs.Series.{poly}
use Rattle.stages.specs.Syndrome.{syndrome}
use Rattle.stages.specs.Coefficients.{degree}
use Rattle.stages.specs.Euclid.{Rows, row, two_rows, rows}
use Rattle.stages.specs.Basis.{crossing, basis}
use Rattle.stages.specs.Readings.{Stops}
use Rattle.stages.proofs.Syndrome.{syndrome_length, syndrome_below, syndrome_top}
use Rattle.stages.proofs.Euclid.{rows_stop}
use Rattle.basis.specs.Rows.{Room}
use Rattle.basis.specs.declared.Basis.{Basis as Found}
use Rattle.basis.specs.Found.{Filled, Finds}

pub front : (d : ℕ) (xs zs : List ℕ) → length xs ≡ d → take d (xs ++ drop d zs) ≡ xs
front d xs zs e = take_at xs (drop d zs) d e

module _ (F : Numbers) (αs vs rs : List ℕ) (hα : AllBelow F.q αs) (hv : AllBelow F.q vs) (hr : AllBelow F.q rs) where
  pub written_below : (D : ℕ) (S : List ℕ) → S ≡ syndrome F αs vs D rs → AllBelow F.q S
  written_below D S e = subst (AllBelow F.q) (sym e) (syndrome_below F αs vs hα hv D rs hr)

  pub written_stops : (D : ℕ) (S : List ℕ) (R : Rows) → S ≡ syndrome F αs vs D rs → R ≡ rows F crossing D S → Stops F crossing D (poly F S) R
  written_stops D S R e er =
      subst (Stops F crossing D (poly F S)) (sym er)
      (rows_stop F crossing D S (written_below D S e) (ap length e ∙ syndrome_length F αs vs hα hv D rs hr)
      (ap (λ (xs : List ℕ). get_or xs D 0) e ∙ syndrome_top F αs vs hα hv D rs hr D (omega arith)) (omega arith))

  -- what stands at the front of the arrays
  module _ (k τ d : ℕ) (S pa pb la lb : List ℕ) (a b : ℤ) (e : d ≡ length αs - k + 1) (long : length S ≡ d)
      (filled : Filled F αs vs rs τ S (two_rows (row pa pb) (row la lb)) a b) where
    D : ℕ
    D = length αs - k

    D_is : length S - 1 ≡ D
    unfolding D
    D_is = omega arith

    S_is : S ≡ (basis F αs vs k rs).S
    unfolding D basis
    S_is = filled.s ∙ ap (λ (m : ℕ). syndrome F αs vs m rs) D_is

    rows_are : two_rows (row pa pb) (row la lb) ≡ (basis F αs vs k rs).rows
    unfolding D basis
    rows_are = filled.rows ∙ ap₂ (rows F crossing) D_is S_is

    pub found : (zs : List ℕ) (r : Found) → Room d pa pb la lb → r.d ≡ d → r.s ≡ S ++ drop d zs → r.h10 ≡ pa ++ drop d zs → r.h11 ≡ pb ++ drop d zs
        → r.h20 ≡ la ++ drop d zs → r.h21 ≡ lb ++ drop d zs → r.w1 ≡ a → r.w2 ≡ b → Finds (basis F αs vs k rs) τ r
    found zs r room ed es e10 e11 e20 e21 ea eb =
        record {
          size = ap length (sym S_is) ∙ long ∙ sym ed;
          s = ap₂ (λ (m : ℕ) (xs : List ℕ). take m xs) ed es ∙ front d S zs long ∙ S_is;
          h10 = ap₂ (λ (m : ℕ) (xs : List ℕ). take m xs) ed e10 ∙ front d pa zs room.pa_length ∙ ap (λ (R : Rows). R.before.a) rows_are;
          h11 = ap₂ (λ (m : ℕ) (xs : List ℕ). take m xs) ed e11 ∙ front d pb zs room.pb_length ∙ ap (λ (R : Rows). R.before.b) rows_are;
          h20 = ap₂ (λ (m : ℕ) (xs : List ℕ). take m xs) ed e20 ∙ front d la zs room.la_length ∙ ap (λ (R : Rows). R.last.a) rows_are;
          h21 = ap₂ (λ (m : ℕ) (xs : List ℕ). take m xs) ed e21 ∙ front d lb zs room.lb_length ∙ ap (λ (R : Rows). R.last.b) rows_are;
          first_weight = ea ∙ filled.first_weight ∙ ap (λ (R : Rows). pos τ -ℤ degree R.before.a -ℤ pos 1) rows_are;
          second_weight = eb ∙ filled.second_weight ∙ ap (λ (R : Rows). pos τ -ℤ degree R.last.b) rows_are;
        }
