-- What is sifted from the right pairs are all candidates near the shares, for every code with the given points and multipliers: its rows are those of the basis.
use Rattle.std.proofs.Common.{◌≡◌, ℕ, suc, ◌-◌, ◌≤◌, List, length, sym, subst, arith}
use Rattle.decoding.specs.Setting.{Accepted}
use Rattle.fields.specs.Numbers.{Numbers}
use Rattle.codes.specs.declared.Setting.{Setting}
use Rattle.leaves.specs.declared.pairs.Pair.{Pair}
use Rattle.candidates.specs.declared.records.Candidate.{Candidate}
use Rattle.candidates.specs.Sifting.{Roomy, ListsNear}
use Rattle.pairs.specs.Stage.{h11, h21, Listable, ToSift, AllNear}
use Rattle.interpolating.proofs.Bounds.{h11_length, h21_length}
use Rattle.stages.specs.Basis.{basis}
use Rattle.stages.proofs.Syndrome.{syndrome_length}
use Rattle.pairs.proofs.Rows.{code_reads}

-- the sift has room
pub roomy : (F : Numbers) (αs vs : List ℕ) (k : ℕ) (rs : List ℕ) (x : Setting) → Listable F αs vs k rs x → (room : ℕ) → 32000 ≤ room
    → Roomy (length αs) k (length (h11 F αs vs k rs)) (length (h21 F αs vs k rs)) room
roomy F αs vs k rs x given room l =
    let p = given.placed in
    let few = given.few in
    let fewer = given.accepted.fewer in
    let s : length (basis F αs vs k rs).S ≡ suc (length αs - k) =
    unfold basis in syndrome_length F αs vs p.points p.multipliers (length αs - k) rs p.shares in
    let a = h11_length F αs vs k rs p.points p.multipliers p.shares in
    let b = h21_length F αs vs k rs p.points p.multipliers p.shares in
    record { few = few; fewer = fewer; fits = omega arith; fits_too = omega arith }

pub all_near : (F : Numbers) (αs vs : List ℕ) (k : ℕ) (rs : List ℕ) (x : Setting) → Listable F αs vs k rs x → (pairs : List Pair) (items : List Candidate)
    → ToSift F αs vs k rs x pairs → ListsNear F αs vs rs (h11 F αs vs k rs) (h21 F αs vs k rs) k x.radius pairs items → AllNear F αs vs k rs x.radius items
all_near F αs vs k rs x given pairs items t near C d sum =
    let s = code_reads F αs vs k rs given.placed C d sum in
    (near C d x.multiplicity x.list_limit sum
    (subst (λ (n : ℕ). Accepted n k x.radius x.multiplicity x.list_limit) (sym d.places) given.accepted)
    s.stopped s.before.b_is s.last.b_is (t.right C d sum s.stopped s.before.b_is s.last.b_is)).0
