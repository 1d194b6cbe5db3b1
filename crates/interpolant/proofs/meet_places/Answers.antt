use Rattle.std.proofs.Common.{◌≡◌, ℕ, suc, ◌+◌, ◌<◌, ◌≤◌, [], ◌∷◌, ◌++◌, length, drop, sym, ap, ◌∙◌, subst, ap₂, inl, inr, arith}
use Rattle.fields.specs.Numbers.{elem, field_of}
use Rattle.decoding.specs.Multiplicity.{slope}
use Rattle.functionals.specs.Tables.{point, WeightTable}
use Rattle.functionals.proofs.Runs.{given_more, given_all, length_push}
use Rattle.interpolant.specs.States.{Reached, Passed}
use Rattle.interpolant.proofs.Loops.{Through, through_turn, same_areas}
use Rattle.interpolant.proofs.meet_places.Goals as goal

pub slope_of-requires-clause-first : goal.slope_of-requires-clause-first
slope_of-requires-clause-first g c =
    let j = length c.loop-alpha.yielded in
    let b = given_more j c.args.places.ys.now c.loop-alpha.invariant.ys c.in-Some.ensures.steps.1.0 in
    subst (λ (k : ℕ). k < g.F.Field.numbers.q) b.1 (c.requires.places.ys j b.0)

pub slope_of-requires-clause-second : goal.slope_of-requires-clause-second
slope_of-requires-clause-second g c =
    let j = length c.loop-alpha.yielded in
    let d = given_more j c.args.places.zs.now c.loop-alpha.invariant.zs c.in-Some.ensures.steps.1.1 in
    subst (λ (k : ℕ). k < g.F.Field.numbers.q) d.1 (c.requires.places.zs j d.0)

pub fill-requires-clause-point : goal.fill-requires-clause-point
fill-requires-clause-point g c =
    let j = length c.loop-alpha.yielded in
    let a = given_more j c.args.places.points.now c.loop-alpha.invariant.points c.in-Some.ensures.steps.0 in
    subst (λ (k : ℕ). k < g.F.Field.numbers.q) a.1 (c.requires.places.points j a.0)

pub meet_place-requires-clause-point : goal.meet_place-requires-clause-point
meet_place-requires-clause-point g c =
    let j = length c.loop-alpha.yielded in
    let a = given_more j c.args.places.points.now c.loop-alpha.invariant.points c.in-Some.ensures.steps.0 in
    subst (λ (k : ℕ). k < g.F.Field.numbers.q) a.1 (c.requires.places.points j a.0)

pub loop-alpha-preserved : goal.loop-alpha-preserved
loop-alpha-preserved g c =
    let F = g.F.Field.numbers in
    let S = c.args.shape in
    let n : ℕ = suc S.degree in
    let points = c.args.places.points.now in
    let ys = c.args.places.ys.now in
    let zs = c.args.places.zs.now in
    let before = c.args.tableau.now in
    let now = c.loop-alpha.tableau in
    let after = c.meet_place.new.tableau in
    let weights = c.fill.new.self.weights.now in
    let i = c.loop-alpha.invariant in
    let s = c.in-Some.ensures.steps in
    let j : ℕ = length c.loop-alpha.yielded in
    let a = given_more j points i.points s.0 in
    let b = given_more j ys i.ys s.1.0 in
    let d = given_more j zs i.zs s.1.1 in
    let e : length (c.loop-alpha.yielded ++ ((c.in-Some.alpha, (c.in-Some.y, c.in-Some.z)) ∷ [])) ≡ j + 1 = length_push c.loop-alpha.yielded _ in
    record {
      fits = c.meet_place.ensures.fits;
      areas = same_areas i.areas c.meet_place.ensures.areas;
      tall = let u = c.fill.ensures.tall in let v = i.tall in omega arith;
      wide = let u = c.fill.ensures.wide in let v = i.wide in omega arith;
      inside = omega arith;
      points = a.2 ∙ ap (λ (k : ℕ). drop k points) (sym e);
      ys = b.2 ∙ ap (λ (k : ℕ). drop k ys) (sym e);
      zs = d.2 ∙ ap (λ (k : ℕ). drop k zs) (sym e);
      met = subst (λ (k : ℕ). Through F n S.bound S.multiplicity k points ys zs before.rows.now before.ranks.now after.rows.now after.ranks.now) (sym e)
          (through_turn F n S.bound S.multiplicity j points ys zs weights before.rows.now before.ranks.now now.rows.now now.ranks.now
          after.rows.now after.ranks.now (point F c.slope_of.result) a.0
          (subst (λ (k : ℕ). WeightTable F (point F c.slope_of.result) k weights) c.requires.fits.ranked c.fill.ensures.weights)
          (c.slope_of.ensures.is ∙ ap₂ (λ (u v : ℕ). slope (field_of F) (elem F u) (elem F v)) (sym b.1) (sym d.1))
          (subst (λ (k : ℕ). Passed F n S.bound k S.multiplicity weights now.rows.now now.ranks.now after.rows.now after.ranks.now) (sym a.1)
          c.meet_place.ensures.met)
          i.met);
    }

pub returns-clause-met : goal.returns-clause-met
returns-clause-met g c =
    let F = g.F.Field.numbers in
    let S = c.args.shape in
    let t = c.loop-alpha.tableau in
    let points = c.args.places.points.now in
    let i = c.loop-alpha.invariant in
    let p = c.requires.places in
    let j : ℕ = length c.loop-alpha.yielded in
    let all : length points ≤ j =
    elim c.in-None.ensures.steps [
      | inl h ↦ given_all j points i.points h.1.0
      | inr h ↦
          elim h.1 [
            | inl k ↦ let u = given_all j c.args.places.ys.now i.ys k.1.0 in let v = p.count_ys in omega arith
            | inr k ↦ let u = given_all j c.args.places.zs.now i.zs k.1.0 in let v = p.count_zs in omega arith
          ]
    ] in
    let e : j ≡ length points = omega arith in
    λ P o v. subst (λ (k : ℕ). Reached F P S.multiplicity k 0 0 t.rows.now t.ranks.now) e (i.met P o v)
