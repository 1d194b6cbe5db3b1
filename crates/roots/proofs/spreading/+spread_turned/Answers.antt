use Rattle.std.proofs.Common.{◌≡◌, ◌-◌, ◌*◌, ◌<◌, length, take, drop, ◌∙◌, arith}
use Rattle.digits.specs.Runs.{runs}
use Rattle.digits.proofs.Arrays.{all_take, all_drop}
use Rattle.roots.proofs.Spread.{more_all, more_first, more_rest, run_length, rest_size, back_size, first_size, last_run, front_run, last_size, front_size, turned_one, turned_more, first_all, first_run, out_wide}
use Rattle.roots.proofs.spreading.+spread_turned.Goals as goal

pub pad-requires : goal.pad-requires
pad-requires g t c =
    let F = g.F.Field.numbers in
    let form = c.args.form.now in
    let n = c.args.narrow in
    record {
      all = all_take F (length form - (length form - n)) (drop (length form - n) form) (all_drop F (length form - n) form c.requires.all);
      room = out_wide F n c.args.width c.args.degree c.args.out.now _ c.requires.room c.requires.wide (last_size F n c.args.degree form c.requires.runs);
    }

pub returns-then-degree-eq0 : goal.returns-then-degree-eq0
returns-then-degree-eq0 g t c =
    let F = g.F.Field.numbers in
    let form = c.args.form.now in
    let n = c.args.narrow in
    let w = c.args.width in
    let d = c.args.degree in
    let long = run_length F w d c.args.out.now c.pad.new.out c.requires.room c.pad.auto.out in
    record {
      all = first_all F w (w - 0) d c.args.out.now c.pad.new.out (omega arith) c.requires.room long _ c.if-degree-eq0.true c.pad.ensures;
      is = turned_one F d _ (runs F n form) c.if-degree-eq0.true (first_run F w (w - 0) d c.args.out.now c.pad.new.out (omega arith) c.requires.room long _ c.pad.ensures ∙ last_run F n d form c.requires.runs);
    }

pub spread_turned-requires : goal.spread_turned-requires
spread_turned-requires g t c κs within =
    let F = g.F.Field.numbers in
    let form = c.args.form.now in
    let n = c.args.narrow in
    let w = c.args.width in
    let d = c.args.degree in
    let some : 0 < d = omega (arith, c.if-degree-eq0.false) in
    let long = run_length F w d c.args.out.now c.pad.new.out c.requires.room c.pad.auto.out in (
      omega (arith, c.decreases, some),
      (
        within,
        (
          all_take F (length form - n - 0) form c.requires.all,
          (
            front_size F n d form c.requires.runs ∙ back_size F n d some,
            (rest_size F w d _ (first_size F w d c.args.out.now c.pad.new.out c.requires.room long) ∙ back_size F w d some, c.requires.wide),
          ),
        ),
      ),
    )

pub returns : goal.returns
returns g t c =
    let F = g.F.Field.numbers in
    let form = c.args.form.now in
    let n = c.args.narrow in
    let w = c.args.width in
    let d = c.args.degree in
    let some : 0 < d = omega (arith, c.if-degree-eq0.false) in
    let long = run_length F w d c.args.out.now c.pad.new.out c.requires.room c.pad.auto.out in
    let rest : length c.spread_turned.new.out ≡ d * w = c.spread_turned.auto.out ∙ rest_size F w d _ (first_size F w d c.args.out.now c.pad.new.out c.requires.room long) in
    record {
      all = more_all F w (w - 0) d c.args.out.now c.pad.new.out (omega arith) c.requires.room long c.spread_turned.new.out rest _ c.pad.ensures c.spread_turned.ensures.all;
      is = turned_more F d _ (runs F w c.spread_turned.new.out) (runs F n form) (runs F n (take (length form - n - 0) form))
          (more_first F w (w - 0) d c.args.out.now c.pad.new.out (omega arith) c.requires.room long c.spread_turned.new.out rest _ c.pad.ensures ∙ last_run F n d form c.requires.runs)
          (more_rest F w (w - 0) d c.args.out.now c.pad.new.out (omega arith) c.requires.room long c.spread_turned.new.out rest)
          c.spread_turned.ensures.is (λ t h. front_run F n d t form c.requires.runs h) some;
    }
