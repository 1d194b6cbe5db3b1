use Rattle.std.proofs.Common.{◌≡◌, ℕ, ◌<◌, length, sym, ap, ◌∙◌, subst, arith}
use Rattle.algebra.specs.Poly.{at}
use Rattle.fields.specs.Numbers.{Element, elem, minus, ring_of, elem_neg}
use Rattle.polynomials.specs.Series.{poly}
use Rattle.polynomials.proofs.Readings.{poly_at}
use Rattle.functionals.proofs.Runs.{each_more}
use Rattle.interpolant.proofs.ratios.Goals as goal

pub loop-i-preserved : goal.loop-i-preserved
loop-i-preserved g c =
    let F = g.F.Field.numbers in
    let points = c.args.points.now in
    let i = c.loop-i.i in
    let Y : ℕ → Element F = λ k. at (ring_of F) (poly F points k) (length c.args.h11.now) (poly F c.args.h11.now) in
    let Z : ℕ → Element F = λ k. at (ring_of F) (poly F points k) (length c.args.h21.now) (poly F c.args.h21.now) in
    let x = sym (poly_at F points i) in
    let e = c.evaluate-in-loop-i.ensures in (
      each_more (λ k v. (v < F.q) × (elem F v ≡ Y k)) c.loop-i.ys i c.evaluate.result (omega arith) c.loop-i.invariant.0
          (c.evaluate.ensures.below, c.evaluate.ensures.is ∙ ap (λ (z : Element F). at (ring_of F) z (length c.args.h11.now) (poly F c.args.h11.now)) x),
      each_more (λ k v. (v < F.q) × (elem F v ≡ minus F (Z k))) c.loop-i.zs i c.neg.result (omega arith) c.loop-i.invariant.1 (
        subst (λ (n : ℕ). n < F.q) (sym c.neg.ensures) (F.laws.neg_below _),
        ap (elem F) c.neg.ensures ∙ elem_neg F c.evaluate-in-loop-i.result e.below
            ∙ ap (minus F) (e.is ∙ ap (λ (z : Element F). at (ring_of F) z (length c.args.h21.now) (poly F c.args.h21.now)) x),
      ),
    )

pub returns : goal.returns
returns g c =
    let F = g.F.Field.numbers in
    record {
      ys_below = λ k h. (c.loop-i.invariant.0 k (omega arith)).0;
      zs_below = λ k h. (c.loop-i.invariant.1 k (omega arith)).0;
      ys_are = λ k h. poly_at F c.loop-i.ys k ∙ (c.loop-i.invariant.0 k (omega arith)).1;
      zs_are = λ k h. poly_at F c.loop-i.zs k ∙ (c.loop-i.invariant.1 k (omega arith)).1;
    }
