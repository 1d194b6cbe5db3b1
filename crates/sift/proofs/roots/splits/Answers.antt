use Rattle.std.proofs.Common.{◌≡◌, ℕ, ◌+◌, T, eqb, length, ap, ◌∙◌, subst, arith, eqb→eq}
use lib.Dec.{eqb_refl}
use Rattle.algebra.specs.Sums.{count}
use Rattle.sift.specs.Roots.{vanishes}
use Rattle.sift.proofs.Counts.{count_marked}
use Rattle.sift.proofs.Splitting.{splits_yes, splits_no}
use Rattle.sift.proofs.roots.splits.Goals as goal

pub returns : goal.returns
returns g c =
    let F = g.F.Field.numbers in
    let v = c.values_at.ensures in
    let s = c.size.result in
    let n = c.zeros.result in
    let e : n ≡ count (length c.args.points.now) (vanishes c.values_at.new.out) =
    c.zeros.ensures ∙ count_marked (λ x. eqb x 0) c.values_at.new.out ∙ ap (λ (m : ℕ). count m (vanishes c.values_at.new.out)) (let l : length c.values_at.new.out ≡ length c.args.points.now = omega arith in l) in
    record {
      written = v;
      yes = λ t. splits_yes F v s n c.size.ensures.is e (eqb→eq s (n + 1) t);
      no = λ f t. f (subst (λ (m : ℕ). T (eqb s m)) (splits_no F v s n c.size.ensures.is e t) (eqb_refl s));
    }
