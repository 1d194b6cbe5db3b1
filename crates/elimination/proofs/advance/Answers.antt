use Rattle.std.proofs.Common.{◌≡◌, ℕ, ◌∷◌, get_or, sym, refl, ap, ◌∙◌, ap₂, add-one, arith}
use Rattle.polynomials.proofs.Writes.{written_turn}
use Rattle.elimination.proofs.Advances.{left, left_none, left_last, advanced}
use Rattle.elimination.proofs.advance.Goals.{then-i-bound-eq0, else-i-bound-eq0}
use Rattle.elimination.proofs.advance.Goals as goal

pub loop-i-preserved : goal.loop-i-preserved
loop-i-preserved g c =
    let F = g.F.Field.numbers in
    let row = c.args.row.now in
    let n = c.args.bound in
    let i : ℕ = c.loop-i.i in
    let here : get_or c.loop-i.row i 0 ≡ get_or row i 0 = c.loop-i.invariant.1.over i (omega arith) in
    let e : c.if-i-bound-eq0.low ≡ left n row i =
    elim c.if-i-bound-eq0.branch [
      | then-i-bound-eq0 w ↦ w.low-is ∙ left_none n row i w.if-i-bound-eq0.true
      | else-i-bound-eq0 w ↦ w.low-is ∙ c.loop-i.invariant.0 ∙ left_last n row i w.if-i-bound-eq0.false
    ] in (
      here ∙ sym (ap (λ (k : ℕ). get_or (0 ∷ row) k 0) (add-one i)),
      written_turn c.loop-i.invariant.1 (omega arith) (omega arith)
          (λ h. c.linear.ensures ∙ ap₂ (λ (y z : ℕ). F.add y (F.neg (F.mul c.args.alpha z))) e h),
    )

pub returns : goal.returns
returns g c =
    advanced g.F.Field.numbers c.args.bound c.args.alpha c.args.row.now c.requires.point c.requires.all 0 c.loop-i.i c.loop-i.row refl
    (omega arith) c.loop-i.invariant.1
