use Rattle.std.proofs.Common.{ℕ, T, eqb, length, sym, ◌∙◌, subst, eqb→eq}
use lib.Dec.{eqb_refl}
use Rattle.polynomials.specs.Series.{poly}
use Rattle.polynomials.proofs.Readings.{poly_past}
use Rattle.leaves.proofs.Horner.{empty_zero, zero_empty}
use Rattle.leaves.proofs.questions.Question.vanishes.Goals as goal

pub returns : goal.returns
returns g c =
    let F = g.F.Field.numbers in
    let s = c.evaluate_form.new.sum in
    let is = c.evaluate_form.ensures.sum.is in
    let n : ℕ = c.size.result in (
      λ t. sym is ∙ empty_zero F (length s) (poly F s) (poly_past F s) (sym c.size.ensures.is ∙ eqb→eq n 0 t),
      λ e. subst (λ (k : ℕ). T (eqb n k)) (c.size.ensures.is ∙ zero_empty F (length s) (poly F s) (is ∙ e)) (eqb_refl n),
    )
