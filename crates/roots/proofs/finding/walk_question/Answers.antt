use Rattle.std.proofs.Common.{◌≡◌, ℕ, ◌+◌, ◌*◌, [], length, refl, ◌∙◌, subst, arith}
use Rattle.fields.specs.Numbers.{Element}
use Rattle.digits.specs.Runs.{runs}
use Rattle.digits.specs.Walks.{Ends, Walked}
use Rattle.roots.specs.Desk.{desk_of, loans, Visit}
use Rattle.roots.proofs.Seats.{held_spread, ready, walked_part, walked_kept}
use Rattle.roots.proofs.finding.walk_question.Goals as goal

pub walk-requires : goal.walk-requires
walk-requires g c =
    let F = g.F.Field.numbers in
    let l : length c.clear.new.a ≡ length c.args.digits.now = c.clear.auto.a in
    record {
      held = held_spread F _ c.args.finder.now.question.length c.args.finder.now.question.form.now c.spread.new.out refl refl c.requires.seated.long (c.spread.auto.out ∙ c.requires.room) c.spread.ensures.all c.spread.ensures.is;
      few = c.requires.seated.few;
      place = omega arith;
      deep = omega arith;
      all = c.clear.ensures.below;
      takes = λ ds e a. ready F _ ds c.requires.seated (e ∙ l ∙ c.requires.depth) a;
    }

pub returns : goal.returns
returns g c =
    let F = g.F.Field.numbers in
    let w = c.walk.ensures.walked in
    record {
      walked =
          subst (λ (T : ℕ → ℕ → Element F). Walked (Visit F) (Ends F c.args.finder.now.question.degree (length c.args.digits.now) 0 [] T) (desk_of c.args.finder.now) (desk_of c.walk.new.leaf)) c.spread.ensures.is
          (subst (λ (N : ℕ). Walked (Visit F) (Ends F c.args.finder.now.question.degree N 0 [] (runs F (c.args.finder.now.question.length + c.args.finder.now.question.degree * length c.args.digits.now) c.spread.new.out)) (desk_of c.args.finder.now) (desk_of c.walk.new.leaf)) c.clear.auto.a
          (walked_part (Visit F) desk_of loans w));
      lenders = walked_kept (Visit F) desk_of loans w;
    }
