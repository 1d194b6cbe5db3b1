use Rattle.std.proofs.Common.{ℕ, ◌+◌, length, replicate, sym, ◌∙◌, arith}
use Rattle.leaves.proofs.Horner.{put_front, front_length}
use Rattle.leaves.proofs.Rational.{padded, small_is, first_below, candidate_is}
use Rattle.leaves.proofs.reaching.candidate.Goals as goal

pub slice_bounds-front-end : goal.slice_bounds-front-end
slice_bounds-front-end g c = sym (front_length (length c.args.digits.now + 1) (replicate 64 0) c.reconstruct.new.f1 c.reconstruct.auto.f1)

pub front-first-requires : goal.front-first-requires
front-first-requires g c =
    let F = g.F.Field.numbers in
    let n : ℕ = length c.args.digits.now + 1 in
    let r = c.reconstruct.ensures in
    let p = padded F n 64 c.reconstruct.new.f1 r.first in
    let l = front_length n (replicate 64 0) c.reconstruct.new.f1 c.reconstruct.auto.f1 in
    record {
      all = p.below;
      inside = omega (arith, l, c.requires.first);
      fits = omega (arith, c.requires.first);
      small = small_is F c.args.w1 (put_front n (replicate 64 0) c.reconstruct.new.f1) _ p (first_below F c.args.w1 c.args.w2 r.rows);
    }

pub slice_bounds-front-end-2 : goal.slice_bounds-front-end-2
slice_bounds-front-end-2 g c = sym (front_length (length c.args.digits.now + 1) (replicate 64 0) c.reconstruct.new.f2 c.reconstruct.auto.f2)

pub front-second-requires : goal.front-second-requires
front-second-requires g c =
    let F = g.F.Field.numbers in
    let n : ℕ = length c.args.digits.now + 1 in
    let r = c.reconstruct.ensures in
    let p = padded F n 64 c.reconstruct.new.f2 r.second in
    let l = front_length n (replicate 64 0) c.reconstruct.new.f2 c.reconstruct.auto.f2 in
    record {
      all = p.below;
      inside = omega (arith, l, c.requires.second);
      fits = omega (arith, c.requires.second);
      small = small_is F c.args.w2 (put_front n (replicate 64 0) c.reconstruct.new.f2) _ p r.rows.low;
    }

pub returns : goal.returns
returns g c =
    let F = g.F.Field.numbers in
    let n : ℕ = length c.args.digits.now + 1 in
    let r = c.reconstruct.ensures in
    let f1 = c.reconstruct.new.f1 in
    let f2 = c.reconstruct.new.f2 in
    candidate_is F c.args.w1 c.args.w2 c.args.digits.now f1 f2 (put_front n (replicate 64 0) f1) (put_front n (replicate 64 0) f2) _ r
    ((padded F n 64 f1 r.first).is ∙ sym r.first.is) ((padded F n 64 f2 r.second).is ∙ sym r.second.is)
    c.front-first.ensures.long c.front-second.ensures.long c.front-first.ensures.is c.front-second.ensures.is
