use Rattle.std.proofs.Common.{◌≡◌, ℕ, ◌-◌, ◌<◌, length, sym, ap, ◌∙◌, subst, ap₂, arith}
use Rattle.stages.specs.Coefficients.{size}
use Rattle.stages.specs.Euclid.{Row, row, divide}
use Rattle.basis.specs.Rows.{Fits}
use Rattle.basis.proofs.Steps.{size_by}
use Rattle.basis.proofs.euclid.LastRows.step.Goals as goal

pub overflow_sub-m : goal.overflow_sub-m
overflow_sub-m g c =
    let t = c.args.self.now in
    let e = size_by g.F.Field.numbers t.la.now c.size-m.result c.requires.second.a_below c.size-m.ensures.is in
    let s : 0 < size t.la.now = c.requires.some in
    omega arith

pub divide_row-requires : goal.divide_row-requires
divide_row-requires g c =
    let F = g.F.Field.numbers in
    let t = c.args.self.now in
    let long : length t.la.now ≡ length t.pa.now = sym c.requires.first.a_length in
    record {
      first = subst (λ (n : ℕ). Fits F.q n (row t.pa.now t.pb.now)) long c.requires.first;
      second = subst (λ (n : ℕ). Fits F.q n (row t.la.now t.lb.now)) long c.requires.second;
      top = let e = size_by F t.la.now c.size-m.result c.requires.second.a_below c.size-m.ensures.is in
          let s : 0 < size t.la.now = c.requires.some in omega arith;
      room = omega arith;
    }

pub returns-clause-before : goal.returns-clause-before
returns-clause-before g c = ap₂ row c.swap_with_slice.ensures.after c.swap_with_slice-2.ensures.after

pub returns-clause-last : goal.returns-clause-last
returns-clause-last g c =
    let F = g.F.Field.numbers in
    let t = c.args.self.now in
    let L : Row = row t.la.now t.lb.now in
    let P : Row = row t.pa.now t.pb.now in
    let m_is : c.size-m.result ≡ size t.la.now = size_by F t.la.now c.size-m.result c.requires.second.a_below c.size-m.ensures.is in
    let p_is : c.size.result ≡ size t.pa.now = size_by F t.pa.now c.size.result c.requires.first.a_below c.size.ensures.is in
    ap₂ row c.swap_with_slice.ensures.other_after c.swap_with_slice-2.ensures.other_after
    ∙ c.divide_row.ensures
    ∙ ap (λ (n : ℕ). divide F (c.size-m.result - 1) L n P) c.saturating_sub-turns.ensures
    ∙ ap₂ (λ (x y : ℕ). divide F (x - 1) L (y - (x - 1)) P) m_is p_is
