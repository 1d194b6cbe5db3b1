use Rattle.std.proofs.Common.{◌≡◌, ℕ, ◌+◌, ◌-◌, ◌*◌, ◌<◌, List, length, take, sym, ap, ◌∙◌, subst, arith, length-drop, length-take}
use Rattle.algebra.specs.Poly.{conv, padd}
use Rattle.algebra.specs.PolyRing.{Poly}
use Rattle.algebra.specs.Taylor.{form}
use Rattle.fields.specs.Numbers.{AllBelow, ring_of}
use Rattle.polynomials.specs.Series.{poly}
use Rattle.polynomials.proofs.Readings.{become}
use Rattle.digits.specs.Runs.{runs}
use Rattle.digits.proofs.Arrays.{all_take, all_drop, part_rest}
use Rattle.leaves.proofs.Horner.{runs_rest, run_only, none_more, area_less, put_front, front_length, front_is, first_is, power_none, power_turn, form_turn}
use Rattle.leaves.proofs.forms.+evaluate_form.Goals as goal

pub begin-requires : goal.begin-requires
begin-requires g t c =
    let w = c.args.width in
    let n : ℕ = length c.args.z.now - 1 in
    let zero = c.if-degree-eq0.true in
    let a = run_only w (length c.args.runs.now) (c.requires.long ∙ ap (λ (k : ℕ). (k + 1) * w) zero) in
    let b = none_more w n (length c.args.sum.now) (c.requires.sum_long ∙ ap (λ (k : ℕ). w + k * n) zero) in
    record {
      all = c.requires.all;
      sum_long = b ∙ sym a;
      power_long = none_more 1 n (length c.args.power.now) (c.requires.power_long ∙ ap (λ (k : ℕ). 1 + k * n) zero);
    }

pub returns-then-degree-eq0 : goal.returns-then-degree-eq0
returns-then-degree-eq0 g t c =
    let F = g.F.Field.numbers in
    record {
      sum = become c.begin.ensures.sum (first_is F c.args.degree c.args.width c.args.runs.now _ _ c.if-degree-eq0.true c.requires.long);
      power = become c.begin.ensures.power (power_none F c.args.degree (poly F c.args.z.now) c.if-degree-eq0.true);
    }

pub overflow_sub-n-2 : goal.overflow_sub-n-2
overflow_sub-n-2 g t c =
    let some : 0 < c.args.degree = omega arith in
    let a = area_less c.args.width c.args.degree (length c.args.z.now - 1) (length c.args.sum.now) some c.requires.sum_long in
    omega (arith, a.0)

pub overflow_sub-m-2 : goal.overflow_sub-m-2
overflow_sub-m-2 g t c =
    let some : 0 < c.args.degree = omega arith in
    let a = area_less 1 c.args.degree (length c.args.z.now - 1) (length c.args.power.now) some c.requires.power_long in
    omega (arith, a.0)

pub evaluate_form-requires : goal.evaluate_form-requires
evaluate_form-requires g t c κs within =
    let F = g.F.Field.numbers in
    let xs = c.args.runs.now in
    let w = c.args.width in
    let n : ℕ = length c.args.z.now - 1 in
    let some : 0 < c.args.degree = omega arith in
    let same = part_rest F w xs in
    let long = runs_rest c.args.degree w (length xs) some c.requires.long in
    let a = area_less w c.args.degree n (length c.args.sum.now) some c.requires.sum_long in
    let b = area_less 1 c.args.degree n (length c.args.power.now) some c.requires.power_long in
    let la = length-take (length c.args.sum.now - n - 0) c.args.sum.now in
    let lb = length-take (length c.args.power.now - n - 0) c.args.power.now in (
      omega (arith, c.decreases),
      (
        within,
        (
          subst (AllBelow F.q) (sym same) (all_drop F w xs c.requires.all),
          (
            ap length same ∙ length-drop w xs ∙ long,
            (
              c.requires.wide,
              (
                c.requires.y_all,
                (
                  c.requires.z_all,
                  (
                    c.requires.same,
                    (
                      c.requires.some,
                      (
                        la ∙ (let e = a.1 in omega arith),
                        (
                          lb ∙ (let e = b.1 in omega arith),
                          omega (arith, la, c.requires.room_long),
                        ),
                      ),
                    ),
                  ),
                ),
              ),
            ),
          ),
        ),
      ),
    )

pub multiply_by-requires : goal.multiply_by-requires
multiply_by-requires g t c =
    let F = g.F.Field.numbers in
    let n : ℕ = length c.args.z.now - 1 in
    let xs = c.args.power.now in
    let ys = c.evaluate_form.new.power in
    let m : ℕ = length xs - n in
    let some : 0 < c.args.degree = omega arith in
    let a = area_less 1 c.args.degree n (length xs) some c.requires.power_long in
    let k = c.evaluate_form.auto.power in
    let l = front_length m xs ys k in
    record {
      first = subst (AllBelow F.q) (sym (front_is m xs ys (omega arith) k)) c.evaluate_form.ensures.power.below;
      second = c.requires.z_all;
      inside = omega (arith, l);
      fits = omega (arith, l, a.0, c.requires.some);
      long = omega (arith, l, c.requires.power_long, c.requires.sum_long, c.requires.room_long, c.requires.wide, c.evaluate_form.auto.room);
    }

pub multiply_by-requires-2 : goal.multiply_by-requires-2
multiply_by-requires-2 g t c =
    let F = g.F.Field.numbers in
    let n : ℕ = length c.args.z.now - 1 in
    let xs = c.args.sum.now in
    let ys = c.evaluate_form.new.sum in
    let m : ℕ = length xs - n in
    let some : 0 < c.args.degree = omega arith in
    let a = area_less c.args.width c.args.degree n (length xs) some c.requires.sum_long in
    let k = c.evaluate_form.auto.sum in
    let l = front_length m xs ys k in
    record {
      first = subst (AllBelow F.q) (sym (front_is m xs ys (omega arith) k)) c.evaluate_form.ensures.sum.below;
      second = c.requires.y_all;
      inside = omega (arith, l);
      fits = omega (arith, l, a.0, c.requires.some, c.requires.same);
      long = omega (arith, l, c.requires.room_long, c.evaluate_form.auto.room, c.multiply_by.auto.room);
    }

pub add_product-requires : goal.add_product-requires
add_product-requires g t c =
    let F = g.F.Field.numbers in
    let n : ℕ = length c.args.z.now - 1 in
    let w = c.args.width in
    let ps = c.args.power.now in
    let ss = c.args.sum.now in
    let lp = front_length (length ps - n) ps c.evaluate_form.new.power c.evaluate_form.auto.power in
    let ls = front_length (length ss - n) ss c.evaluate_form.new.sum c.evaluate_form.auto.sum in
    let lw = length-take (w - 0) c.args.runs.now in
    record {
      first = c.multiply_by-2.ensures.below;
      second = c.multiply_by.ensures.below;
      third = all_take F (w - 0) c.args.runs.now c.requires.all;
      fits = omega (arith, lp, ls, lw, c.multiply_by.auto.p, c.multiply_by-2.auto.p, c.requires.power_long, c.requires.sum_long);
      long = omega (arith, ls, c.multiply_by-2.auto.p, c.requires.room_long, c.evaluate_form.auto.room, c.multiply_by.auto.room, c.multiply_by-2.auto.room);
    }

pub returns : goal.returns
returns g t c =
    let F = g.F.Field.numbers in
    let n : ℕ = length c.args.z.now - 1 in
    let d = c.args.degree in
    let w = c.args.width in
    let xs = c.args.runs.now in
    let y = poly F c.args.y.now in
    let z = poly F c.args.z.now in
    let ps = c.args.power.now in
    let ss = c.args.sum.now in
    let some : 0 < d = omega arith in
    let a = area_less w d n (length ss) some c.requires.sum_long in
    let b = area_less 1 d n (length ps) some c.requires.power_long in
    let power = c.multiply_by.ensures.is
    ∙ power_turn F d c.args.z.now (poly F (take (length ps - n) (put_front (length ps - n) ps c.evaluate_form.new.power))) some
    (ap (poly F) (front_is (length ps - n) ps c.evaluate_form.new.power (omega arith) c.evaluate_form.auto.power) ∙ c.evaluate_form.ensures.power.is) in
    let sum = ap (poly F) (front_is (length ss - n) ss c.evaluate_form.new.sum (omega arith) c.evaluate_form.auto.sum) ∙ c.evaluate_form.ensures.sum.is
    ∙ ap (λ (l : List ℕ). form (Poly (ring_of F)) (d - 1) (runs F w l) y z) (part_rest F w xs) in
    let h = poly F (take (length ss - n) (put_front (length ss - n) ss c.evaluate_form.new.sum)) in
    record {
      sum =
          become c.add_product.ensures
          (ap (λ v. padd (ring_of F) v (conv (ring_of F) (poly F c.multiply_by.new.p) (poly F (take (w - 0) xs)))) c.multiply_by-2.ensures.is
          ∙ ap (λ (j : ℕ). padd (ring_of F) (conv (ring_of F) h y) (conv (ring_of F) (poly F c.multiply_by.new.p) (poly F (take j xs)))) (let e : w - 0 ≡ w = omega arith in e)
          ∙ form_turn F d w xs y z h (poly F c.multiply_by.new.p) some sum power);
      power = record { below = c.multiply_by.ensures.below; is = power };
    }
