-- What was received has a code.
use Rattle.std.proofs.Common.{ℕ, List, length, get_or, refl, arith}
use Rattle.decoding.specs.Code.{Code}
use Rattle.fields.specs.Numbers.{Numbers, elem, field_of, elem_inj}
use Rattle.polynomials.proofs.Readings.{all_at}
use Rattle.sift.specs.Received.{Placed, Describes}
use Rattle.sift.proofs.Recovery.{elem_nonzero}

pub described : (F : Numbers) {αs vs rs : List ℕ} → Placed F αs vs rs → (C : Code (field_of F)) × Describes F αs vs C
described F {αs} {vs} {rs} p = (
  record {
    n = length αs;
    D = length αs;
    α = λ j. elem F (get_or αs j 0);
    v = λ j. elem F (get_or vs j 0);
    distinct = λ i j u l e.
        p.distinct i j u l (elem_inj F (get_or αs i 0) (get_or αs j 0) (all_at F αs p.points i) (all_at F αs p.points j) e);
    α≢zero = λ j u. elem_nonzero F (get_or αs j 0) (all_at F αs p.points j) (p.points_nonzero j u);
    v≢zero = λ j u.
        elem_nonzero F (get_or vs j 0) (all_at F vs p.multipliers j) (p.multipliers_nonzero j (omega (arith, p.a_multiplier_each)));
  },
  record { places = refl; points = λ j. refl; multipliers = λ j. refl },
)
