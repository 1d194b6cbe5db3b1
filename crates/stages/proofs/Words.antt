-- The distance of lists is the theory's.
use Rattle.std.proofs.Common.{◌≡◌, ℕ, Bool, true, false, not, eqb, get_or, refl, ap, eqb-true}
use borrow.Author.Tests.{eqb-false}
use Rattle.algebra.proofs.Products.{count_cong}
use Rattle.decoding.specs.Words.{differ}
use Rattle.fields.specs.Numbers.{elem, field_of, elem_inj}
use Rattle.polynomials.specs.Series.{poly}
use Rattle.polynomials.proofs.Readings.{all_at}
use Rattle.stages.specs.Readings.{DistanceReads}

pub distance_reads : DistanceReads
unfolding differ poly
distance_reads F n r c hr hc = count_cong n _ _ (λ j _. go j (eqb (get_or r j 0) (get_or c j 0)) refl ((field_of F).equal (poly F r j) (poly F c j)))
  where
    go : (j : ℕ) (t : Bool) → eqb (get_or r j 0) (get_or c j 0) ≡ t → (d : Dec (poly F r j ≡ poly F c j))
        → not t ≡ (elim d [ yes z ↦ false | no z ↦ true ])
    go j true e (yes z) = refl
    go j true e (no z) = absurd (z (ap (elem F) (eqb-true (get_or r j 0) (get_or c j 0) e)))
    go j false e (yes z) =
        absurd (eqb-false (get_or r j 0) (get_or c j 0) e (elem_inj F (get_or r j 0) (get_or c j 0) (all_at F r hr j) (all_at F c hc j) z))
    go j false e (no z) = refl
