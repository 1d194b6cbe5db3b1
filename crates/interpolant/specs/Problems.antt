-- The problem that an interpolant solves, by the numbers of a program, and its solution as a list of numbers. In order: the problem of given places, the
-- problem of a basis, what a solution is, what it is to the decoding theory, the first rows and ranks, and what is asked of counts and areas.
use Rattle.std.specs.Prelude.{◌≡◌, ℕ, suc, ◌+◌, ◌-◌, ◌*◌, ◌<◌, ◌≤◌, List, length, slice_index}
use Rattle.algebra.specs.Poly.{at}
use Rattle.algebra.specs.Euclid.{Stopped}
use Rattle.fields.specs.Numbers.{Numbers, AllBelow, Element, elem, minus, ring_of, field_of}
use Rattle.polynomials.specs.Series.{poly}
use Rattle.decoding.specs.Code.{Code}
use Rattle.decoding.specs.Pairs.{w₁, w₂, Interpolates}
use Rattle.decoding.specs.Koetter.{Problem, Interpolant, homogeneous, Triangle}
use Rattle.decoding.specs.Multiplicity.{slope}
use Rattle.functionals.specs.Runs.{run, family}
use Rattle.interpolant.specs.declared.Shape.{Shape}

-- roots at x = points i, y / z = ys i / zs i of a form of degree ℓ in y and z, where y weighs w2 and z weighs w1
abbrev pub problem : (F : Numbers) → Shape → (points ys zs : List ℕ) → Problem (Element F)
problem F S points ys zs =
    homogeneous (ring_of F) S.degree S.w1 S.w2 S.bound (poly F points) (λ i. slope (field_of F) (poly F ys i) (poly F zs i))

-- the same where the ratios are those of two rows of Euclid's algorithm: y = h11 (x) and z = - h21 (x)
abbrev pub basis_problem : (F : Numbers) → Shape → (points h11 h21 : List ℕ) → Problem (Element F)
basis_problem F S points h11 h21 =
    homogeneous (ring_of F) S.degree S.w1 S.w2 S.bound (poly F points)
    (λ i. slope (field_of F) (at (ring_of F) (poly F points i) (length h11) (poly F h11)) (minus F (at (ring_of F) (poly F points i) (length h21) (poly F h21))))

-- the list is an interpolant: ℓ + 1 runs of B numbers that are not all zero, of weighted degrees below B, with roots of multiplicity s at n places
pub record Solution (F : Numbers) (P : Problem (Element F)) (n s : ℕ) (out : List ℕ) : Type 0 where
  pub below : AllBelow F.q out
  pub is : Interpolant (field_of F) P (Triangle n s) (family F P.B out)

-- the ratios y : z of the points
pub record Ratios (F : Numbers) (points h11 h21 ys zs : List ℕ) : Type 0 where
  pub ys_below : AllBelow F.q ys
  pub zs_below : AllBelow F.q zs
  pub ys_are : (i : ℕ) → i < length points → poly F ys i ≡ at (ring_of F) (poly F points i) (length h11) (poly F h11)
  pub zs_are : (i : ℕ) → i < length points → poly F zs i ≡ minus F (at (ring_of F) (poly F points i) (length h21) (poly F h21))

-- the lists and the shape are those of the code C, for the rows T at which Euclid's algorithm stops and the radius τ
pub record BasisOf (F : Numbers) (S : Shape) (points h11 h21 : List ℕ) (C : Code (field_of F)) {D : ℕ} {syndrome : ℕ → Element F}
    (T : Stopped (ring_of F) (λ l. l) D syndrome) (τ : ℕ) : Type 0 where
  pub count : C.n ≡ length points
  pub points_are : (i : ℕ) → i < length points → C.α i ≡ poly F points i
  pub h11_is : T.P.b ≡ poly F h11
  pub h21_is : T.L.b ≡ poly F h21
  pub first_weight : S.w1 ≡ w₁ τ T
  pub second_weight : S.w2 ≡ w₂ τ T
  pub bound : S.bound ≡ S.multiplicity * τ

-- the list is the interpolant from which the decoding theory finds every codeword within τ
abbrev pub Decodes : (F : Numbers) → Shape → (points h11 h21 out : List ℕ) → Type 0
Decodes F S points h11 h21 out =
    (C : Code (field_of F)) (D : ℕ) (syndrome : ℕ → Element F) (T : Stopped (ring_of F) (λ l. l) D syndrome) (τ : ℕ)
    → BasisOf F S points h11 h21 C T τ → Interpolates (field_of F) C T τ S.multiplicity S.degree (family F S.bound out)

-- the rows of the list are y ^ j z ^ (ℓ - j): in the row j, of the given size, there is a 1 at the start of the run j
pub record FirstRows (F : Numbers) (size B : ℕ) (rows : List ℕ) : Type 0 where
  pub below : AllBelow F.q rows
  pub one : (j : ℕ) → j * size + size ≤ length rows → j * B + B ≤ size → 0 < B → family F B (run size rows j) j 0 ≡ elem F 1
  pub rest : (j t m : ℕ) → j * size + size ≤ length rows → t * B + B ≤ size → m < B → (t ≡ j → 0 < m) → family F B (run size rows j) t m ≡ elem F 0

-- the ranks of those rows are the weights of their positions
abbrev pub FirstRanks : (w₁ w₂ : ℕ) → List ℕ → Type 0
FirstRanks w₁ w₂ ranks = (j : ℕ) → j < length ranks → slice_index ranks j ≡ j * w₂ + (length ranks - 1 - j) * w₁

-- there are more coefficients than constraints
abbrev pub Enough : Shape → ℕ → Type 0
Enough S n = n * (S.multiplicity * suc S.multiplicity) + S.degree * suc S.degree * (S.w1 + S.w2) < 2 * suc S.degree * S.bound

-- the work area: the rows, a copy of one, and the two tables and the values of a place
abbrev pub room : Shape → ℕ
room S =
    suc S.degree * (suc S.degree * S.bound) + suc S.degree * S.bound + S.multiplicity * S.bound + S.multiplicity * suc S.degree
    + suc S.degree
