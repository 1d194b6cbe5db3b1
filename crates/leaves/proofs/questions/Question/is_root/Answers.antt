use Rattle.std.proofs.Common.{◌≡◌, ℕ, not, T, eqb, get_or, sym, ◌∙◌, subst}
use Rattle.digits.specs.Runs.{runs}
use Rattle.leaves.proofs.Rational.{cut_form, constant_not, constant_none}
use Rattle.leaves.proofs.questions.Question.is_root.Goals as goal

pub returns-then-f1-ne0 : goal.returns-then-f1-ne0
returns-then-f1-ne0 g c =
    let F = g.F.Field.numbers in
    let v = c.vanishes.ensures in
    let e = cut_form F c.args.self.degree c.args.n (runs F c.args.self.length c.args.self.form.now) c.args.f1.now c.args.f2.now c.requires.first_small c.requires.second_small in
    (λ t. (constant_not F c.args.f1.now c.requires.first c.if-f1-ne0.true, sym e ∙ v.0 t), λ x. v.1 (e ∙ x.1))

pub returns-else-f1-ne0 : goal.returns-else-f1-ne0
returns-else-f1-ne0 g c =
    let F = g.F.Field.numbers in
    let e : get_or c.args.f1.now 0 0 ≡ 0 = c.if-f1-ne0.false in
    (λ t. absurd (subst (λ (k : ℕ). T (not (eqb k 0))) e t), λ x. absurd (x.0 (constant_none F c.args.f1.now e)))
