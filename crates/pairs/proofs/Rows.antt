-- The rows of the basis, for every code with the given points and multipliers: they are the theory's rows for the shares, and all rows with the same
-- second entries have their degrees, from which the weights are taken.
use Rattle.std.proofs.Common.{◌≡◌, ℕ, suc, ◌+◌, ◌-◌, List, length, ℤ, pos, ◌-ℤ◌, sym, refl, ap, ◌∙◌, subst, subst₂, arith}
use mathlib.Core.Path.{fun_ext}
use Rattle.algebra.specs.Sums.{sum, Distinct, NonZero}
use Rattle.algebra.specs.Poly.{geo, Degree}
use Rattle.algebra.specs.Lagrange.{barycentric}
use Rattle.decoding.specs.Code.{Code, syndrome, dual}
use Rattle.decoding.specs.Theorems.{WordRows}
use Rattle.fields.specs.Numbers.{Numbers, Element, times, over, ring_of, field_of}
use Rattle.polynomials.specs.Series.{poly}
use Rattle.polynomials.proofs.Readings.{poly_at}
use Rattle.stages.specs.Coefficients.{size}
use Rattle.stages.specs.Readings.{Stops, code_of}
use Rattle.stages.specs.Basis.{basis, crossing, w1, w2}
use Rattle.stages.proofs.Coefficients.{size_degree}
use Rattle.stages.proofs.Euclid.{degrees_read}
use Rattle.stages.proofs.Basis.{basis_reads}
use Rattle.sift.specs.Received.{Placed, Describes}
use Rattle.pairs.specs.Stage.{h21}

-- the syndrome by the parts of a code
by_parts : (F : Numbers) (n D : ℕ) (α v r : ℕ → Element F) → ℕ → Element F
by_parts F n D α v r i = sum (ring_of F) n (λ j. times F (times F (r j) (times F (over F (v j)) (barycentric (field_of F) n α j))) (geo (ring_of F) D (α j) i))

syndrome_by : (F : Numbers) (C : Code (field_of F)) (r : ℕ → Element F) (i : ℕ) → syndrome (field_of F) C r i ≡ by_parts F C.n C.D C.α C.v r i
unfolding syndrome dual by_parts
syndrome_by F C r i = refl

same_parts : (F : Numbers) {n n' D D' : ℕ} {α α' v v' : ℕ → Element F} (r : ℕ → Element F) (i : ℕ) → n ≡ n' → D ≡ D' → α ≡ α' → v ≡ v'
    → by_parts F n D α v r i ≡ by_parts F n' D' α' v' r i
same_parts F {n} {n'} {D} {D'} {α} {α'} {v} {v'} r i a b c d =
    ap (λ (z : ℕ). by_parts F z D α v r i) a ∙ ap (λ (z : ℕ). by_parts F n' z α v r i) b
    ∙ ap (λ (z : ℕ → Element F). by_parts F n' D' z v r i) c ∙ ap (λ (z : ℕ → Element F). by_parts F n' D' α' z r i) d

module _ (F : Numbers) (αs vs : List ℕ) (k : ℕ) (rs : List ℕ) (placed : Placed F αs vs rs) (C : Code (field_of F)) (d : Describes F αs vs C) where
  abbrev D : ℕ
  D = length αs - k

  points_are : C.α ≡ poly F αs
  points_are = fun_ext (λ j. d.points j ∙ sym (poly_at F αs j))

  multipliers_are : C.v ≡ poly F vs
  multipliers_are = fun_ext (λ j. d.multipliers j ∙ sym (poly_at F vs j))

  pub distinct : Distinct (ring_of F) (length αs) (poly F αs)
  distinct = subst₂ (Distinct (ring_of F)) d.places points_are C.distinct

  pub points_nonzero : NonZero (ring_of F) (length αs) (poly F αs)
  points_nonzero = subst₂ (NonZero (ring_of F)) d.places points_are C.α≢zero

  pub multipliers_nonzero : NonZero (ring_of F) (length αs) (poly F vs)
  multipliers_nonzero = subst₂ (NonZero (ring_of F)) d.places multipliers_are C.v≢zero

  -- the code with these points and multipliers and n - k check symbols
  abbrev pub checked : Code (field_of F)
  checked = code_of F αs vs (length αs - k) distinct points_nonzero multipliers_nonzero

  -- the rows of the basis are its rows
  pub reads : Stops F crossing (length αs - k) (syndrome (field_of F) (code_of F αs vs (length αs - k) distinct points_nonzero multipliers_nonzero) (poly F rs)) (basis F αs vs k rs).rows
  reads = basis_reads F αs vs rs k distinct points_nonzero multipliers_nonzero placed.points placed.multipliers placed.shares

  module _ (sum : k + C.D ≡ C.n) where
    check_symbols : C.D ≡ D
    check_symbols = let e = d.places in omega arith

    same_syndrome : syndrome (field_of F) checked (poly F rs) ≡ syndrome (field_of F) C (poly F rs)
    same_syndrome =
        fun_ext (λ i. syndrome_by F checked (poly F rs) i
        ∙ same_parts F (poly F rs) i (sym d.places) (sym check_symbols) (sym points_are) (sym multipliers_are) ∙ sym (syndrome_by F C (poly F rs) i))

    -- and the rows of C, which has no other syndrome
    pub code_reads : Stops F crossing C.D (syndrome (field_of F) C (poly F rs)) (basis F αs vs k rs).rows
    code_reads =
        subst₂ (λ (m : ℕ) (S : ℕ → Element F). Stops F crossing m S (basis F αs vs k rs).rows) (sym check_symbols) same_syndrome reads

    -- rows with the same second entry of the last one have the same degrees
    module _ (T : WordRows (field_of F) C (poly F rs)) (e : poly F (h21 F αs vs k rs) ≡ T.L.b) where
      long : length (h21 F αs vs k rs) ≡ suc C.D
      long = code_reads.last.b_length

      pub last_degree : T.l ≡ code_reads.stopped.l
      last_degree =
          let u : size (h21 F αs vs k rs) ≡ suc T.l =
          size_degree F (h21 F αs vs k rs) T.l code_reads.last.b_below (subst (Degree (ring_of F) T.l) (sym e) T.rows.b_degree) (let s = T.rows.sum in let l = long in omega arith) in
          let v : size (h21 F αs vs k rs) ≡ suc code_reads.stopped.l =
          size_degree F (h21 F αs vs k rs) code_reads.stopped.l code_reads.last.b_below
          (subst (Degree (ring_of F) code_reads.stopped.l) (sym code_reads.last.b_is) code_reads.stopped.rows.b_degree) (let s = code_reads.stopped.rows.sum in let l = long in omega arith) in
          omega arith

      pub before_degree : T.p ≡ code_reads.stopped.p
      before_degree = let a = T.rows.sum in let b = code_reads.stopped.rows.sum in let c = last_degree in omega arith

      -- so the weights are those of any such rows
      pub first_weight : (τ : ℕ) → w1 τ (basis F αs vs k rs) ≡ pos τ -ℤ pos T.p -ℤ pos 1
      first_weight τ =
          ap (λ (z : ℤ). pos τ -ℤ z -ℤ pos 1)
          ((degrees_read F crossing C.D (syndrome (field_of F) C (poly F rs)) (basis F αs vs k rs).rows code_reads).0 ∙ ap (λ (m : ℕ). pos m) (sym before_degree))

      pub second_weight : (τ : ℕ) → w2 τ (basis F αs vs k rs) ≡ pos τ -ℤ pos T.l
      second_weight τ =
          ap (λ (z : ℤ). pos τ -ℤ z)
          ((degrees_read F crossing C.D (syndrome (field_of F) C (poly F rs)) (basis F αs vs k rs).rows code_reads).1 ∙ ap (λ (m : ℕ). pos m) (sym last_degree))
