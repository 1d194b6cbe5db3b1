use Rattle.std.proofs.Common.{◌≡◌, ℕ, ◌+◌, ◌*◌, ◌<◌, [], ◌∷◌, ◌++◌, length, drop, sym, ap, ◌∙◌, subst, arith}
use Rattle.fields.specs.Numbers.{AllBelow}
use Rattle.elimination.specs.Tableaus.{Fits}
use Rattle.functionals.proofs.Runs.{run_below, chunk_more, chunk_count, length_push}
use Rattle.interpolant.specs.States.{Orders}
use Rattle.interpolant.proofs.Loops.{orders_turn, same_areas}
use Rattle.interpolant.proofs.meet_orders.Goals as goal

pub loop-xs-preserved : goal.loop-xs-preserved
loop-xs-preserved g c =
    let F = g.F.Field.numbers in
    let B = c.args.bound in
    let taylor = c.args.taylor.now in
    let i = c.loop-xs.invariant in
    let s = c.in-Some.ensures.steps in
    let a : ℕ = length c.loop-xs.yielded in
    let k = chunk_more B a taylor c.requires.some i.rest s.0.1.0 (s.0.1.1 ∙ i.size) in
    let e : length (c.loop-xs.yielded ++ (c.in-Some.xs ∷ [])) ≡ a + 1 = length_push c.loop-xs.yielded _ in
    record {
      fits = subst (λ (n : ℕ). Fits F.q (length c.args.cs.now) n c.step.new.self) (s.0.1.1 ∙ i.size) c.step.ensures.fits;
      areas = same_areas i.areas c.step.ensures.areas;
      size = s.0.0 ∙ i.size;
      rest = k.1 ∙ ap (λ (n : ℕ). drop (n * B) taylor) (sym e);
      left = let u = s.1 in let v = i.left in omega arith;
      met = subst (λ (n : ℕ). Orders F B c.args.alpha c.args.cs.now n c.args.tableau.now.rows.now c.args.tableau.now.ranks.now c.step.new.self.rows.now c.step.new.self.ranks.now)
          (sym e)
          (orders_turn F B c.args.alpha a taylor c.args.cs.now c.in-Some.xs.now c.args.tableau.now.rows.now c.args.tableau.now.ranks.now
          c.loop-xs.tableau.rows.now c.loop-xs.tableau.ranks.now c.step.new.self.rows.now c.step.new.self.ranks.now c.requires.taylor
          k.2 k.0 c.step.ensures.stepped i.met);
    }

pub step-requires-clause-orders : goal.step-requires-clause-orders
step-requires-clause-orders g c =
    let F = g.F.Field.numbers in
    let i = c.loop-xs.invariant in
    let s = c.in-Some.ensures.steps in
    let a : ℕ = length c.loop-xs.yielded in
    let k = chunk_more c.args.bound a c.args.taylor.now c.requires.some i.rest s.0.1.0 (s.0.1.1 ∙ i.size) in
    subst (AllBelow F.q) (sym k.0) (run_below F c.args.bound c.args.taylor.now a c.requires.taylor.below)

pub step-requires-clause-fits : goal.step-requires-clause-fits
step-requires-clause-fits g c =
    let i = c.loop-xs.invariant in
    subst (λ (n : ℕ). Fits g.F.Field.numbers.q (length c.args.cs.now) n c.loop-xs.tableau) (sym (c.in-Some.ensures.steps.0.1.1 ∙ i.size)) i.fits

pub returns-clause-met : goal.returns-clause-met
returns-clause-met g c =
    let F = g.F.Field.numbers in
    let i = c.loop-xs.invariant in
    let a : ℕ = length c.loop-xs.yielded in
    let e : a ≡ c.args.count =
    chunk_count c.args.bound a c.args.count c.loop-xs.xs-iterator.n c.args.taylor.now i.rest i.left c.requires.orders
    (λ h. subst (λ (n : ℕ). length c.loop-xs.xs-iterator.iter.rest.now < n) i.size (c.in-None.ensures.steps h).1.0) in
    subst (λ (n : ℕ). Orders F c.args.bound c.args.alpha c.args.cs.now n c.args.tableau.now.rows.now c.args.tableau.now.ranks.now c.loop-xs.tableau.rows.now c.loop-xs.tableau.ranks.now)
    e i.met
