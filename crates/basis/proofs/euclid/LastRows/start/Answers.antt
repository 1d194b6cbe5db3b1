use Rattle.std.proofs.Common.{ℕ, ◌-◌, ◌<◌, length, replicate, ap, ◌∙◌, arith}
use Rattle.basis.proofs.Starts.{started}
use Rattle.basis.proofs.euclid.LastRows.start.Goals as goal

pub returns-clause-start : goal.returns-clause-start
returns-clause-start g c =
    let n : ℕ = length c.args.s.now in
    let pos : 0 < n = c.requires.some in
    started g.F.Field.numbers (n - 1) n c.neg.result c.fill.new.self c.fill-2.new.self c.fill-3.new.self c.copy_from_slice.new.self c.args.s.now
    (omega arith)
    (c.fill.ensures.after (λ y e. e) ∙ ap (λ (m : ℕ). replicate m 0) c.requires.lengths.pa_length)
    (c.fill-2.ensures.after (λ y e. e) ∙ ap (λ (m : ℕ). replicate m 0) c.requires.lengths.pb_length)
    (c.fill-3.ensures.after (λ y e. e) ∙ ap (λ (m : ℕ). replicate m 0) c.requires.lengths.lb_length)
    c.copy_from_slice.ensures.after c.neg.ensures
