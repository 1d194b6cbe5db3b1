use Rattle.std.proofs.Common.{ℕ, ◌<◌, List, [], ◌∷◌, ◌++◌, length, sym, ◌∙◌, ap₂, arith}
use Rattle.std.proofs.lemmas.List.{take_more_set}
use Rattle.std.proofs.lemmas.List.FromFn.{map-range_with_len_more}
use Rattle.sheets.specs.Sheet.{number}
use Rattle.sheets.proofs.Reader.column.Goals as goal

pub loop-p-preserved : goal.loop-p-preserved
loop-p-preserved c =
    let xs = c.loop-p.number-items in
    let p = c.loop-p.p in
    let f : ℕ → ℕ = number c.args.self.now.entries.now c.args.part in
    let here : p < length xs = omega arith in
    take_more_set xs p c.number.result here
    ∙ ap₂ (λ (l : List ℕ) (v : ℕ). l ++ v ∷ []) c.loop-p.invariant c.number.ensures
    ∙ sym (map-range_with_len_more f 0 p p (omega arith))
