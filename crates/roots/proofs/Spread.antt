-- Copies of runs: one run with zeros after it, and all runs, by the first and the rest.
use Rattle.std.proofs.Common.{◌≡◌, ℕ, zero, suc, ◌+◌, ◌-◌, ◌*◌, ◌<◌, ◌≤◌, List, [], ◌++◌, length, take, drop, sym, ap, ◌∙◌, subst, ap₂, mul-le-mul_right, suc-mul, add-mul, one-mul, zero-mul, arith, length-append, length-drop, length-take}
use mathlib.Core.Path.{fun_ext}
use borrow.Rule.Slice.PartMut.{put_mid}
use Rattle.std.proofs.lemmas.List.{append-nil, take_all, take_at, take-take, drop_at, drop_all, drop-drop, drop-take}
use Rattle.algebra.specs.Poly.{Below}
use Rattle.algebra.specs.PolyRing.{Poly}
use Rattle.fields.specs.Numbers.{Numbers, AllBelow, Element, ring_of}
use Rattle.polynomials.specs.Series.{poly, Reads}
use Rattle.digits.specs.Runs.{run, runs}
use Rattle.digits.proofs.Arrays.{all_join, runs_below, lent_take, lent_drop, part_rest}

module _ (F : Numbers) where
  module _ (w n d : ℕ) (out last : List ℕ) (en : n ≡ w) (room : length out ≡ (d + 1) * w) (long : length last ≡ w) where
    wide : w ≤ length out
    wide = omega (arith, room, add-mul d 1 w, one-mul w)

    -- the first run was lent, and came back as last
    abbrev zs : List ℕ
    zs = last ++ drop n out

    first_take : take w zs ≡ last
    first_take = take_at last (drop n out) w long

    first_drop : drop w zs ≡ drop n out
    first_drop = drop_at last (drop n out) w long

    first_length : length zs ≡ length out
    first_length = length-append last (drop n out) ∙ (let a = length-drop n out in let b = wide in omega arith)

    pub one_run : (p : ℕ → Element F) (T : ℕ → ℕ → Element F) → d ≡ 0 → Reads F last p → T 0 ≡ p → Below (Poly (ring_of F)) 1 T → AllBelow F.q zs × (runs F w zs ≡ T)
    one_run p T z r e below = (
      subst (AllBelow F.q) (sym whole) r.below,
      ap (runs F w) whole
          ∙ fun_ext (elim [
            | zero ↦ ap (poly F) (take_all w last (omega arith)) ∙ r.is ∙ sym e
            | suc b ↦ runs_below F w 0 last (let m = one-mul w in omega arith) (suc b) (omega arith) ∙ sym (below (suc b) (omega arith))
          ]),
    )
      where
        none : drop n out ≡ []
        none = drop_all n out (let m = one-mul w in let q : length out ≡ (0 + 1) * w = room ∙ ap (λ (n : ℕ). (n + 1) * w) z in omega arith)

        whole : last ++ drop n out ≡ last
        whole = ap (λ (l : List ℕ). last ++ l) none ∙ append-nil last

    pub first_run : (p : ℕ → Element F) → Reads F last p → runs F w zs 0 ≡ p
    first_run p r = ap (poly F) first_take ∙ r.is

    pub first_all : (p : ℕ → Element F) → d ≡ 0 → Reads F last p → AllBelow F.q zs
    first_all p z r =
        subst (AllBelow F.q)
        (sym (ap (λ (l : List ℕ). last ++ l) (drop_all n out (let m = one-mul w in let q : length out ≡ (0 + 1) * w = room ∙ ap (λ (n : ℕ). (n + 1) * w) z in omega arith)) ∙ append-nil last)) r.below

    module _ (ys : List ℕ) (rest_long : length ys ≡ d * w) where
      abbrev pub joined : List ℕ
      joined = put_mid w (length zs - w) zs ys

      joined_take : take w joined ≡ last
      joined_take = lent_take F w zs ys (let a = first_length in let b = wide in omega arith) ∙ first_take

      joined_drop : drop w joined ≡ ys
      joined_drop =
          lent_drop F w zs ys (let a = first_length in let b = wide in omega arith)
          (let a = first_length in omega (arith, rest_long, room, add-mul d 1 w, one-mul w))

      pub more_all : (p : ℕ → Element F) → Reads F last p → AllBelow F.q ys → AllBelow F.q joined
      more_all p r a = all_join F w joined (subst (AllBelow F.q) (sym joined_take) r.below) (subst (AllBelow F.q) (sym joined_drop) a)

      pub more_first : (p : ℕ → Element F) → Reads F last p → runs F w joined 0 ≡ p
      more_first p r = ap (poly F) joined_take ∙ r.is

      pub more_rest : (b : ℕ) → runs F w joined (suc b) ≡ runs F w ys b
      more_rest b = ap (λ (l : List ℕ). runs F w l b) joined_drop

  pub run_room : (n w d : ℕ) (form out : List ℕ) → length out ≡ (d + 1) * w → n ≤ w → length (take (n - 0) form) ≤ length (take (w - 0) out)
  run_room n w d form out room le =
      let a = length-take (n - 0) form in
      let b = length-take (w - 0) out in
      omega (arith, room, add-mul d 1 w, one-mul w)

  pub run_length : (w d : ℕ) (out last : List ℕ) → length out ≡ (d + 1) * w → length last ≡ length (take (w - 0) out) → length last ≡ w
  run_length w d out last room e =
      let b = length-take (w - 0) out in
      omega (arith, room, e, add-mul d 1 w, one-mul w)

  -- the runs but the first
  pub rest_size : (w d : ℕ) (xs : List ℕ) → length xs ≡ (d + 1) * w → length (take (length xs - w) (drop w xs)) ≡ d * w
  rest_size w d xs l =
      ap length (part_rest F w xs) ∙ length-drop w xs ∙ (let z : length xs - w ≡ d * w = omega (arith, l, add-mul d 1 w, one-mul w) in z)

  pub back_size : (w d : ℕ) → 0 < d → d * w ≡ (d - 1 + 1) * w
  back_size w d h = ap (λ (n : ℕ). n * w) (let z : d ≡ d - 1 + 1 = omega arith in z)

  pub first_size : (w d : ℕ) (out last : List ℕ) → length out ≡ (d + 1) * w → length last ≡ w → length (last ++ drop (w - 0) out) ≡ (d + 1) * w
  first_size w d out last room long =
      length-append last (drop (w - 0) out) ∙ (let a = length-drop (w - 0) out in omega (arith, room, long, add-mul d 1 w, one-mul w))

  pub first_reads : (n : ℕ) (xs : List ℕ) → poly F (take n xs) ≡ poly F (take (n - 0) xs)
  first_reads n xs = ap (λ (m : ℕ). poly F (take m xs)) (let z : n ≡ n - 0 = omega arith in z)

  -- a run, by the numbers before it
  run_at : (w b : ℕ) (xs : List ℕ) → run w b xs ≡ take w (drop (b * w) xs)
  run_at w zero xs = ap (λ (n : ℕ). take w (drop n xs)) (sym (zero-mul w))
  run_at w (suc b) xs =
      run_at w b (drop w xs) ∙ ap (take w) (drop-drop (b * w) w xs) ∙ ap (λ (n : ℕ). take w (drop n xs)) (let z : w + b * w ≡ suc b * w = omega (arith, suc-mul b w) in z)

  -- the last run
  pub last_run : (n d : ℕ) (form : List ℕ) → length form ≡ (d + 1) * n → poly F (take (length form - (length form - n)) (drop (length form - n) form)) ≡ runs F n form d
  last_run n d form l =
      ap₂ (λ (a b : ℕ). poly F (take a (drop b form)))
      (let z : length form - (length form - n) ≡ n = omega (arith, l, add-mul d 1 n, one-mul n) in z)
      (let z : length form - n ≡ d * n = omega (arith, l, add-mul d 1 n, one-mul n) in z)
      ∙ ap (poly F) (sym (run_at n d form))

  -- the runs before the last
  pub front_run : (n d t : ℕ) (form : List ℕ) → length form ≡ (d + 1) * n → t < d → runs F n (take (length form - n - 0) form) t ≡ runs F n form t
  front_run n d t form l h =
      ap (poly F)
      (run_at n t (take (length form - n - 0) form)
      ∙ ap (λ (m : ℕ). take n (drop (t * n) (take m form)))
      (let z : length form - n - 0 ≡ t * n + (length form - n - t * n) = omega (arith, l, add-mul d 1 n, one-mul n, mul-le-mul_right n (let q : t ≤ d = omega arith in q)) in z)
      ∙ ap (take n) (drop-take (t * n) (length form - n - t * n) form)
      ∙ take-take n (length form - n - t * n) (drop (t * n) form)
      (omega (arith, l, add-mul d 1 n, one-mul n, suc-mul t n, mul-le-mul_right n (let q : suc t ≤ d = h in q)))
      ∙ sym (run_at n t form))

  pub last_size : (n d : ℕ) (form : List ℕ) → length form ≡ (d + 1) * n → length (take (length form - (length form - n)) (drop (length form - n) form)) ≡ n
  last_size n d form l =
      let a = length-take (length form - (length form - n)) (drop (length form - n) form) in
      let b = length-drop (length form - n) form in
      omega (arith, l, add-mul d 1 n, one-mul n)

  pub front_size : (n d : ℕ) (form : List ℕ) → length form ≡ (d + 1) * n → length (take (length form - n - 0) form) ≡ d * n
  front_size n d form l =
      let a = length-take (length form - n - 0) form in
      omega (arith, l, add-mul d 1 n, one-mul n)

  -- the first of the turned runs, and the rest
  pub turned_one : (d : ℕ) (U T : ℕ → ℕ → Element F) → d ≡ 0 → U 0 ≡ T d → (t : ℕ) → t ≤ d → U t ≡ T (d - t)
  turned_one d U T z e t h = ap U (let q : t ≡ 0 = omega arith in q) ∙ e ∙ ap T (let q : d ≡ d - t = omega arith in q)

  pub turned_more : (d : ℕ) (U V T S : ℕ → ℕ → Element F) → U 0 ≡ T d → ((b : ℕ) → U (suc b) ≡ V b) → ((t : ℕ) → t ≤ d - 1 → V t ≡ S (d - 1 - t)) → ((t : ℕ) → t < d → S t ≡ T t) → 0 < d → (t : ℕ) → t ≤ d → U t ≡ T (d - t)
  turned_more d U V T S e u v s h zero k = e ∙ ap T (let q : d ≡ d - 0 = omega arith in q)
  turned_more d U V T S e u v s h (suc t) k = u t ∙ v t (omega arith) ∙ s (d - 1 - t) (omega arith) ∙ ap T (let q : d - 1 - t ≡ d - suc t = omega arith in q)

  pub out_wide : (n w d : ℕ) (out xs : List ℕ) → length out ≡ (d + 1) * w → n ≤ w → length xs ≡ n → length xs ≤ length (take (w - 0) out)
  out_wide n w d out xs room le e =
      let b = length-take (w - 0) out in
      omega (arith, room, e, add-mul d 1 w, one-mul w)
