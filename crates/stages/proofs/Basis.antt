-- The basis is that of the theory.
use Rattle.std.proofs.Common.{ℕ, ◌-◌, length, subst, arith}
use Rattle.fields.specs.Numbers.{Element}
use Rattle.stages.specs.Syndrome.{syndrome}
use Rattle.stages.specs.Euclid.{rows}
use Rattle.stages.specs.Basis.{crossing, basis}
use Rattle.stages.specs.Readings.{Stops, BasisReads}
use Rattle.stages.proofs.Syndrome.{syndrome_reads, syndrome_length, syndrome_top, syndrome_below}
use Rattle.stages.proofs.Euclid.{rows_stop}

pub basis_reads : BasisReads
unfolding basis
basis_reads F αs vs rs k distinct points multipliers hα hv hr =
    let D : ℕ = length αs - k in
    subst (λ (S : ℕ → Element F). Stops F crossing D S (rows F crossing D (syndrome F αs vs D rs)))
    (syndrome_reads F αs vs rs D distinct points multipliers hα hv hr)
    (rows_stop F crossing D (syndrome F αs vs D rs) (syndrome_below F αs vs hα hv D rs hr) (syndrome_length F αs vs hα hv D rs hr)
    (syndrome_top F αs vs hα hv D rs hr D (omega arith)) (omega arith))
