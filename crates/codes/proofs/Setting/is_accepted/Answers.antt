use Rattle.std.proofs.Common.{Decides}
use Rattle.std.proofs.lemmas.Bool.Decides.{Decides-at}
use Rattle.decoding.specs.Setting.{Accepted}
use Rattle.codes.proofs.Acceptance.{exact, consequences}
use Rattle.codes.proofs.Setting.is_accepted.Goals as goal

pub returns : goal.returns
returns c =
    let n = c.args.n in
    let k = c.args.k in
    let τ = c.args.self.radius in
    let s = c.args.self.multiplicity in
    let ℓ = c.args.self.list_limit in
    let decided : Decides c.passes.result (Accepted n k τ s ℓ) = Decides-at _ _ c.passes.ensures (exact n k τ s ℓ) in
    record { computed = c.passes.ensures; follows = λ e. consequences n k τ s ℓ (decided.0 e); exact = decided }
