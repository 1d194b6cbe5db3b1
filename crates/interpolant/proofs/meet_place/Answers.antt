use Rattle.std.proofs.Common.{◌≡◌, ℕ, suc, ◌+◌, ◌-◌, ◌*◌, ◌<◌, [], ◌∷◌, ◌++◌, length, drop, sym, ap, ◌∙◌, subst, arith}
use Rattle.elimination.specs.Tableaus.{Fits}
use Rattle.functionals.proofs.Runs.{chunk_more, chunk_count, length_push}
use Rattle.interpolant.specs.States.{Reached, Orders}
use Rattle.interpolant.proofs.Loops.{Row, row_turn, reach_place, same_areas}
use Rattle.interpolant.proofs.meet_place.Goals as goal

pub loop-b-preserved : goal.loop-b-preserved
loop-b-preserved g c =
    let F = g.F.Field.numbers in
    let S = c.args.shape in
    let n : ℕ = suc S.degree in
    let weights = c.args.tables.now.weights.now in
    let before = c.args.tableau.now in
    let now = c.loop-b.tableau in
    let after = c.meet_orders.new.tableau in
    let i = c.loop-b.invariant in
    let s = c.in-Some.ensures.steps in
    let b : ℕ = length c.loop-b.yielded in
    let long : length c.in-Some.cs.now ≡ n = s.0.0.1.1 ∙ i.size in
    let k = chunk_more n b weights (omega arith) i.rest s.0.0.1.0 long in
    let e : length (c.loop-b.yielded ++ ((c.in-Some.b, c.in-Some.cs) ∷ [])) ≡ b + 1 = length_push c.loop-b.yielded _ in
    let less : b < S.multiplicity = let u = s.0.1 in let v = i.left in omega arith in
    record {
      fits = subst (λ (z : ℕ). Fits F.q z S.bound after) long c.meet_orders.ensures.fits;
      areas = same_areas i.areas c.meet_orders.ensures.areas;
      size = s.0.0.0 ∙ i.size;
      rest = k.1 ∙ ap (λ (z : ℕ). drop (z * n) weights) (sym e);
      left = let u = s.0.1 in let v = i.left in omega arith;
      order = s.2 ∙ ap (λ (z : ℕ). z + 1) i.order ∙ sym e;
      met = subst (λ (z : ℕ). Row F n S.bound c.args.alpha S.multiplicity z weights before.rows.now before.ranks.now after.rows.now after.ranks.now) (sym e)
          (row_turn F n S.bound c.args.alpha S.multiplicity b weights c.in-Some.cs.now before.rows.now before.ranks.now now.rows.now now.ranks.now
          after.rows.now after.ranks.now less k.2 k.0
          (subst (λ (z : ℕ). Orders F S.bound c.args.alpha c.in-Some.cs.now (S.multiplicity - z) now.rows.now now.ranks.now after.rows.now after.ranks.now)
          (s.1 ∙ i.order) c.meet_orders.ensures.met)
          i.met);
    }

pub returns-clause-met : goal.returns-clause-met
returns-clause-met g c =
    let F = g.F.Field.numbers in
    let S = c.args.shape in
    let t = c.loop-b.tableau in
    let i = c.loop-b.invariant in
    let b : ℕ = length c.loop-b.yielded in
    let e : b ≡ S.multiplicity =
    chunk_count (suc S.degree) b S.multiplicity c.loop-b.b-iterator.iter.n c.args.tables.now.weights.now i.rest i.left c.requires.wide
    (λ h. subst (λ (n : ℕ). length c.loop-b.b-iterator.iter.iter.rest.now < n) i.size (c.in-None.ensures.steps.0 h).1.0) in
    λ σ w P j o v.
    reach_place F P S.multiplicity j t.rows.now t.ranks.now
    (subst (λ (n : ℕ). Reached F P S.multiplicity j n 0 t.rows.now t.ranks.now) e (i.met σ w P j o v))
