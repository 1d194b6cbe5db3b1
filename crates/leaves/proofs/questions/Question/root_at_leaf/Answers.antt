use Rattle.std.proofs.Common.{◌≡◌, ℕ, ◌+◌, ◌-◌, length, Some, None, sym, ap, ◌∙◌, subst, arith}
use Rattle.algebra.specs.Poly.{pzero, Degree}
use Rattle.fields.specs.Numbers.{ring_of, Element}
use Rattle.polynomials.specs.Series.{poly}
use Rattle.digits.specs.Runs.{runs}
use Rattle.leaves.specs.declared.pairs.Pair.{Pair}
use Rattle.leaves.specs.Normalised.{Normalised}
use Rattle.leaves.specs.Reached.{Full, Reached}
use Rattle.leaves.proofs.Horner.{work_enough}
use Rattle.leaves.proofs.Rational.{first_below, leaf_none, leaf_some, leaf_proper, full_arranged}
use Rattle.leaves.proofs.Unique.{reached_exact}
use Rattle.leaves.proofs.questions.Question.root_at_leaf.Goals as goal

pub is_root-requires : goal.is_root-requires
is_root-requires g c =
    let F = g.F.Field.numbers in
    let k = c.candidate-pair.ensures in
    let m = c.max-n.ensures in
    record {
      formed = c.requires.formed;
      first = k.full.first_below;
      second = k.full.second_below;
      some = omega arith;
      first_long = omega (arith, k.full.first_long, m, c.requires.first, c.requires.second);
      second_long = omega (arith, k.full.second_long, m, c.requires.first, c.requires.second);
      first_small = λ i u. ap (λ (f : ℕ → Element F). f i) k.is.first.is ∙ first_below F c.args.self.w1 c.args.self.w2 k.is.rows i (omega (arith, m));
      second_small = λ i u. ap (λ (f : ℕ → Element F). f i) k.is.second.is ∙ k.is.rows.low i (omega (arith, m));
      work = work_enough c.args.self.length c.args.self.degree (c.max-n.result + 1 - 1) 31 (length c.args.work.now) (omega (arith, m, c.requires.first, c.requires.second)) c.requires.work;
    }

pub normal_pair-requires : goal.normal_pair-requires
normal_pair-requires g c =
    let F = g.F.Field.numbers in
    let p = c.candidate-pair.result in
    let k = c.candidate-pair.ensures in
    let e = c.arrange.ensures in
    record {
      full = subst (Full F.q) (sym e) (full_arranged F c.args.chart p k.full);
      proper =
          subst (λ (q : Pair). poly F q.second ≡ pzero (ring_of F) → Degree (ring_of F) 0 (poly F q.first)) (sym e)
          (leaf_proper F c.args.self.degree c.args.self.w1 c.args.self.w2 (runs F c.args.self.length c.args.self.form.now) c.args.digits.now p k (c.if-is_root.ensures.0 tt) c.args.chart);
    }

pub returns-then-is_root : goal.returns-then-is_root
returns-then-is_root g c =
    let F = g.F.Field.numbers in
    let p = c.candidate-pair.result in
    let k = c.candidate-pair.ensures in
    let r = c.normal_pair.result in
    let Q = runs F c.args.self.length c.args.self.form.now in
    let x : Reached F c.args.chart c.args.self.degree c.args.self.w1 c.args.self.w2 Q c.args.digits.now (Some r) =
    record {
      rows = k.is.rows;
      answer =
          leaf_some F c.args.self.degree c.args.self.w1 c.args.self.w2 Q c.args.digits.now p k (c.if-is_root.ensures.0 tt) c.args.chart r c.normal_pair.ensures.full
          (subst (λ (q : Pair). Normalised F q.first q.second r.first r.second) c.arrange.ensures c.normal_pair.ensures.is);
    } in
    record { leaf = x; exact = reached_exact F c.args.chart c.args.self.degree c.args.self.w1 c.args.self.w2 Q c.args.digits.now (Some r) x }

pub returns-else-is_root : goal.returns-else-is_root
returns-else-is_root g c =
    let F = g.F.Field.numbers in
    let k = c.candidate-pair.ensures in
    let Q = runs F c.args.self.length c.args.self.form.now in
    let x : Reached F c.args.chart c.args.self.degree c.args.self.w1 c.args.self.w2 Q c.args.digits.now None =
    record {
      rows = k.is.rows;
      answer = leaf_none F c.args.self.degree c.args.self.w1 c.args.self.w2 Q c.args.digits.now c.candidate-pair.result k c.if-is_root.ensures.1;
    } in
    record { leaf = x; exact = reached_exact F c.args.chart c.args.self.degree c.args.self.w1 c.args.self.w2 Q c.args.digits.now None x }
