use Rattle.std.proofs.Common.{◌≡◌, ℕ, ◌≤◌, List, [], ◌∷◌, length, take, pos, ◌≤ℤ◌, ◌<ℤ◌, sym, ap, ◌∙◌, subst, ap₂, arith, w16, to_z, of_z}
use Rattle.std.proofs.lemmas.Int.{ints}
use Rattle.fields.specs.Numbers.{AllBelow}
use Rattle.leaves.specs.declared.pairs.Pair.{Pair}
use Rattle.interpolant.specs.declared.Shape.{Shape}
use Rattle.interpolant.specs.Problems.{Enough}
use Rattle.interpolating.specs.Interpolation.{shape_of}
use Rattle.interpolating.proofs.Bounds.{h11_below, h21_below}
use Rattle.pairs.specs.Stage.{RootsOf, Fits, h11, h21, ToSift}
use Rattle.pairs.proofs.Standing.{first_written}
use Rattle.pairs.proofs.Cases.{none, single, exists, has_room, several}
use Rattle.pairs.proofs.finding.find_pairs.Goals as goal

pub returns-then-basis-lt0 : goal.returns-then-basis-lt0
returns-then-basis-lt0 g c =
    let neg : c.args.basis.now.w2 <ℤ pos 0 = omega (arith, ints) in
    record {
      count = omega arith;
      pairs = none g.F.Field.numbers c.args.received.now.points.now c.args.received.now.multipliers.now c.args.threshold c.args.received.now.shares.now c.args.setting
          c.requires.given c.args.basis.now c.requires.found neg;
    }

pub returns-then-basis-lt0-2 : goal.returns-then-basis-lt0-2
returns-then-basis-lt0-2 g c =
    let F = g.F.Field.numbers in
    let αs = c.args.received.now.points.now in
    let vs = c.args.received.now.multipliers.now in
    let rs = c.args.received.now.shares.now in
    let k = c.args.threshold in
    let x = c.args.setting in
    let neg : c.args.basis.now.w1 <ℤ pos 0 = omega (arith, ints) in
    let not : pos 0 ≤ℤ c.args.basis.now.w2 = omega (arith, ints) in
    let some : 1 ≤ c.args.setting.list_limit = let a = c.requires.given.accepted.multiplicity in let b = c.requires.given.accepted.order in omega arith in
    record {
      count = some;
      pairs = subst (ToSift F αs vs k rs x)
          (sym (first_written c.args.pairs.now c.unit_pair.result (let l = c.requires.records in omega arith) ∙ ap (λ (p : Pair). p ∷ []) c.unit_pair.ensures))
          (single F αs vs k rs x c.requires.given c.args.basis.now c.requires.found not neg);
    }

pub interpolate_roots-requires : goal.interpolate_roots-requires
interpolate_roots-requires g c =
    let F = g.F.Field.numbers in
    let αs = c.args.received.now.points.now in
    let vs = c.args.received.now.multipliers.now in
    let rs = c.args.received.now.shares.now in
    let k = c.args.threshold in
    let x = c.args.setting in
    let p = c.requires.given.placed in
    let B = c.args.basis.now in
    let h₁ : pos 0 ≤ℤ c.args.basis.now.w1 = omega (arith, ints) in
    let h₂ : pos 0 ≤ℤ c.args.basis.now.w2 = omega (arith, ints) in
    let e₁ : to_z w16 (of_z w16 c.args.basis.now.w1) ≡ c.args.basis.now.w1 = omega (arith, ints) in
    let e₂ : to_z w16 (of_z w16 c.args.basis.now.w2) ≡ c.args.basis.now.w2 = omega (arith, ints) in
    let e : c.shape.result ≡ shape_of c.args.setting c.args.basis.now.w1 c.args.basis.now.w2 = c.shape.ensures ∙ ap₂ (shape_of x) e₁ e₂ in
    record {
      points = p.points;
      first = subst (AllBelow F.q) (sym c.requires.found.h11) (h11_below F αs vs k rs p.points p.multipliers p.shares);
      second = subst (AllBelow F.q) (sym c.requires.found.h21) (h21_below F αs vs k rs p.points p.multipliers p.shares);
      enough = subst (λ (S : Shape). Enough S (length αs)) (sym e) (exists F αs vs k rs x c.requires.given B c.requires.found h₁ h₂);
      fits = subst (λ (S : Shape). Fits S (length αs) (length c.args.work.now)) (sym e)
          (has_room F αs vs k rs x c.requires.given B c.requires.found h₁ h₂ (length c.args.work.now) c.requires.numbers);
      records = subst (λ (S : Shape). S.degree ≤ length c.args.pairs.now) (sym e) c.requires.records;
    }

pub returns : goal.returns
returns g c =
    let F = g.F.Field.numbers in
    let αs = c.args.received.now.points.now in
    let vs = c.args.received.now.multipliers.now in
    let rs = c.args.received.now.shares.now in
    let k = c.args.threshold in
    let x = c.args.setting in
    let B = c.args.basis.now in
    let n = c.interpolate_roots.result in
    let area = c.interpolate_roots.new.pairs in
    let h₁ : pos 0 ≤ℤ c.args.basis.now.w1 = omega (arith, ints) in
    let h₂ : pos 0 ≤ℤ c.args.basis.now.w2 = omega (arith, ints) in
    let e₁ : to_z w16 (of_z w16 c.args.basis.now.w1) ≡ c.args.basis.now.w1 = omega (arith, ints) in
    let e₂ : to_z w16 (of_z w16 c.args.basis.now.w2) ≡ c.args.basis.now.w2 = omega (arith, ints) in
    let e : c.shape.result ≡ shape_of c.args.setting c.args.basis.now.w1 c.args.basis.now.w2 = c.shape.ensures ∙ ap₂ (shape_of x) e₁ e₂ in
    let r : RootsOf F (shape_of x B.w1 B.w2) αs (h11 F αs vs k rs) (h21 F αs vs k rs) n area =
    subst (λ (h : List ℕ). RootsOf F (shape_of x B.w1 B.w2) αs (h11 F αs vs k rs) h n area) c.requires.found.h21
    (subst (λ (h : List ℕ). RootsOf F (shape_of x B.w1 B.w2) αs h (take B.d B.h21) n area) c.requires.found.h11
    (subst (λ (S : Shape). RootsOf F S αs (take B.d B.h11) (take B.d B.h21) n area) e c.interpolate_roots.ensures)) in
    record {
      count = r.listed.fits;
      pairs = several F αs vs k rs x c.requires.given B c.requires.found h₁ h₂ n area r;
    }
