use Rattle.std.proofs.Common.{◌≡◌, ℕ, ◌+◌, ◌-◌, ◌≤◌, List, length, take, replicate, refl, arith}
use Rattle.std.proofs.lemmas.List.{length-take-le}
use Rattle.std.proofs.lemmas.Int.{ints}
use Rattle.basis.specs.Rows.{Room}
use Rattle.basis.proofs.Found.{found}
use Rattle.basis.proofs.stage.find_basis.Goals as goal

pub returns : goal.returns
returns g c =
    let d : ℕ = length c.args.received.now.points.now - c.args.threshold + 1 in
    let fits : d ≤ 32 = let a = c.requires.some in let b = c.requires.short in omega arith in
    let zeros : List ℕ = replicate 32 0 in
    let cut : length (take d zeros) ≡ d = length-take-le d zeros fits in
    let t = c.fill-w1 in
    let room : Room d t.new.h10 t.new.h11 t.new.h20 t.new.h21 =
    record { pa_length = omega arith; pb_length = omega arith; la_length = omega arith; lb_length = omega arith } in
    found g.F.Field.numbers c.args.received.now.points.now c.args.received.now.multipliers.now c.args.received.now.shares.now c.args.received.now.points_below c.args.received.now.multipliers_below c.args.received.now.shares_below
    c.args.threshold c.args.radius d t.new.s t.new.h10 t.new.h11 t.new.h20 t.new.h21 t.result.0 t.result.1
    refl (omega arith) t.ensures zeros _ room refl refl refl refl refl refl (omega (arith, ints)) (omega (arith, ints))
