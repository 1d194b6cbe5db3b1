use Rattle.std.proofs.Common.{◌≡◌, ℕ, zero, suc, ◌-◌, ◌*◌, ◌<◌, length, take, drop, sym, ap, ◌∙◌, arith}
use mathlib.Core.Path.{fun_ext}
use Rattle.polynomials.specs.Series.{poly}
use Rattle.digits.specs.Runs.{runs}
use Rattle.digits.proofs.Arrays.{all_take, all_drop, runs_below, part_rest}
use Rattle.roots.proofs.Spread.{one_run, more_all, more_first, more_rest, run_room, run_length, rest_size, back_size, first_size, first_reads}
use Rattle.roots.proofs.spreading.+spread.Goals as goal

pub pad-requires : goal.pad-requires
pad-requires g t c =
    let F = g.F.Field.numbers in
    record {
      all = all_take F (c.args.narrow - 0) c.args.form.now c.requires.all;
      room = run_room F c.args.narrow c.args.width c.args.degree c.args.form.now c.args.out.now c.requires.room c.requires.wide;
    }

pub returns-then-degree-eq0 : goal.returns-then-degree-eq0
returns-then-degree-eq0 g t c =
    let F = g.F.Field.numbers in
    let form = c.args.form.now in
    let n = c.args.narrow in
    let w = c.args.width in
    let d = c.args.degree in
    let long = run_length F w d c.args.out.now c.pad.new.out c.requires.room c.pad.auto.out in
    let done = one_run F w (w - 0) d c.args.out.now c.pad.new.out (omega arith) c.requires.room long (poly F (take (n - 0) form)) (runs F n form) c.if-degree-eq0.true c.pad.ensures (first_reads F n form) (λ b k. runs_below F n d form c.requires.runs b (omega (arith, c.if-degree-eq0.true))) in
    record { all = done.0; is = done.1 }

pub spread-requires : goal.spread-requires
spread-requires g t c κs within =
    let F = g.F.Field.numbers in
    let form = c.args.form.now in
    let n = c.args.narrow in
    let w = c.args.width in
    let d = c.args.degree in
    let some : 0 < d = omega (arith, c.if-degree-eq0.false) in
    let long = run_length F w d c.args.out.now c.pad.new.out c.requires.room c.pad.auto.out in (
      omega (arith, c.decreases, some),
      (
        within,
        (
          all_take F (length form - n) (drop n form) (all_drop F n form c.requires.all),
          (
            rest_size F n d form c.requires.runs ∙ back_size F n d some,
            (rest_size F w d _ (first_size F w d c.args.out.now c.pad.new.out c.requires.room long) ∙ back_size F w d some, c.requires.wide),
          ),
        ),
      ),
    )

pub returns : goal.returns
returns g t c =
    let F = g.F.Field.numbers in
    let form = c.args.form.now in
    let n = c.args.narrow in
    let w = c.args.width in
    let d = c.args.degree in
    let long = run_length F w d c.args.out.now c.pad.new.out c.requires.room c.pad.auto.out in
    let rest : length c.spread.new.out ≡ d * w = c.spread.auto.out ∙ rest_size F w d _ (first_size F w d c.args.out.now c.pad.new.out c.requires.room long) in
    record {
      all = more_all F w (w - 0) d c.args.out.now c.pad.new.out (omega arith) c.requires.room long c.spread.new.out rest (poly F (take (n - 0) form)) c.pad.ensures c.spread.ensures.all;
      is = fun_ext (elim [
        | zero ↦ more_first F w (w - 0) d c.args.out.now c.pad.new.out (omega arith) c.requires.room long c.spread.new.out rest (poly F (take (n - 0) form)) c.pad.ensures ∙ sym (first_reads F n form)
        | suc b ↦ more_rest F w (w - 0) d c.args.out.now c.pad.new.out (omega arith) c.requires.room long c.spread.new.out rest b ∙ ap (λ (f : ℕ → ℕ → _). f b) c.spread.ensures.is ∙ ap (λ (l : mathlib.Core.List.List ℕ). runs F n l b) (part_rest F n form)
      ]);
    }
