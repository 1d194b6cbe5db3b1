-- Slices of runs: their elements, and the runs of a slice whose rest changed.
use Rattle.std.proofs.Common.{◌≡◌, ℕ, zero, suc, ◌+◌, ◌-◌, ◌*◌, ◌<◌, ◌≤◌, List, [], ◌∷◌, ◌++◌, length, get_or, take, drop, sym, refl, ap, ◌∙◌, subst, mul-le-mul_right, suc-mul, add-mul, one-mul, zero-mul, arith, length-drop, length-take}
use mathlib.Core.Path.{fun_ext}
use native.Mathlib.Decide.{dec_lt}
use lib.Seq.{take-nil}
use borrow.Rule.Slice.PartMut.{put_mid, Post-is}
use Rattle.std.proofs.lemmas.List.{get_or-take, get_or-drop, append-nil, drop_all, drop_at, length-take-le, take_all}
use Rattle.std.proofs.lemmas.Slice.{take-put_mid_below}
use Rattle.digits.specs.declared.Shape.{Shape}
use Rattle.digits.proofs.Bounds.{fits_tail}
use Rattle.algebra.specs.Poly.{conv, const, padd, scale, pzero, cons, mono, Below}
use Rattle.algebra.specs.PolyRing.{Poly, const_conv, conv_assoc}
use Rattle.fields.specs.Numbers.{Numbers, AllBelow, Element, elem, ring_of}
use Rattle.polynomials.specs.Series.{poly, plus_shifted}
use Rattle.polynomials.proofs.Readings.{all_at, past, poly_at}
use Rattle.digits.specs.Runs.{run, runs, term, Held}

module _ (F : Numbers) where
  pub all_take : (n : ℕ) (xs : List ℕ) → AllBelow F.q xs → AllBelow F.q (take n xs)
  all_take n xs h k u = subst (λ z. z < F.q) (sym (get_or-take n xs k 0 (let l = length-take n xs in omega arith))) (all_at F xs h k)

  pub all_drop : (n : ℕ) (xs : List ℕ) → AllBelow F.q xs → AllBelow F.q (drop n xs)
  all_drop n xs h k u = subst (λ z. z < F.q) (sym (get_or-drop n xs k 0)) (all_at F xs h (n + k))

  pub all_join : (w : ℕ) (xs : List ℕ) → AllBelow F.q (take w xs) → AllBelow F.q (drop w xs) → AllBelow F.q xs
  all_join w xs a b k u = go (dec_lt k w)
    where
      go : Dec (k < w) → get_or xs k 0 < F.q
      go (yes l) = subst (λ z. z < F.q) (get_or-take w xs k 0 l) (all_at F (take w xs) a k)
      go (no l) =
          subst (λ z. z < F.q) (get_or-drop w xs (k - w) 0 ∙ ap (λ (j : ℕ). get_or xs j 0) (let z : w + (k - w) ≡ k = omega arith in z)) (all_at F (drop w xs) b (k - w))

  -- the runs of a slice: the first, and those of the rest
  pub runs_cons : (w : ℕ) (xs : List ℕ) → runs F w xs ≡ cons (poly F (take w xs)) (runs F w (drop w xs))
  runs_cons w xs = fun_ext (elim [ zero ↦ refl | suc b ↦ refl ])

  -- a run without the places at which it has no coefficient
  pub poly_cut : (n m : ℕ) (xs : List ℕ) → n ≤ m → Below (ring_of F) n (poly F (take m xs)) → poly F (take n xs) ≡ poly F (take m xs)
  poly_cut n m xs h z = fun_ext (λ k. go k (dec_lt k n))
    where
      go : (k : ℕ) → Dec (k < n) → poly F (take n xs) k ≡ poly F (take m xs) k
      go k (yes l) = poly_at F (take n xs) k ∙ ap (elem F) (get_or-take n xs k 0 l ∙ sym (get_or-take m xs k 0 (omega arith))) ∙ sym (poly_at F (take m xs) k)
      go k (no l) = poly_at F (take n xs) k ∙ ap (elem F) (past F (take n xs) k (let z = length-take n xs in omega arith)) ∙ sym (z k (omega arith))

  -- e x ^ t p
  pub shifted_term : (p q : ℕ → Element F) (e t : ℕ) → plus_shifted F p e t q ≡ padd (ring_of F) p (conv (ring_of F) (term (ring_of F) (elem F e) t) q)
  unfolding scale
  shifted_term p q e t =
      ap (padd (ring_of F) p)
      (fun_ext (λ i. sym (conv_assoc (ring_of F) (const (ring_of F) (elem F e)) (mono (ring_of F) t) q i ∙ const_conv (ring_of F) (elem F e) (conv (ring_of F) (mono (ring_of F) t) q) i)))

  run_past : (w b : ℕ) (xs : List ℕ) → length xs ≤ b * w → run w b xs ≡ []
  run_past w zero [] h = take-nil w
  run_past w zero (x ∷ xs) h = absurd (let z = zero-mul w in omega arith)
  run_past w (suc b) xs h = run_past w b (drop w xs) (let z = suc-mul b w in let d = length-drop w xs in omega arith)

  pub poly_none : poly F [] ≡ pzero (ring_of F)
  unfolding pzero
  poly_none = fun_ext (λ k. poly_at F [] k)

  pub runs_below : (w d : ℕ) (xs : List ℕ) → length xs ≡ (d + 1) * w → Below (Poly (ring_of F)) (suc d) (runs F w xs)
  runs_below w d xs h b k = ap (poly F) (run_past w b xs (omega (arith, h, mul-le-mul_right w (let z : d + 1 ≤ b = omega arith in z)))) ∙ poly_none

  pub fits_held : (s : Shape) (xs : List ℕ) → Held F s xs → Below (ring_of F) s.size (poly F (take s.width xs))
  fits_held s xs h i k = h.fits 0 i (let z = zero-mul s.depth in omega arith)

  abbrev pub rest_of : Shape → Shape
  rest_of s = record { width = s.width; degree = s.degree - 1; size = s.size - s.depth; depth = s.depth }

  -- what the arithmetic of a shape with more than one run gives
  pub deep_one : (s : Shape) (xs : List ℕ) → Held F s xs → 0 < s.degree → s.depth ≤ s.size
  deep_one s xs h k = omega (arith, h.deep, mul-le-mul_right s.depth (let z : 1 ≤ s.degree = k in z), one-mul s.depth)

  pub wide_one : (s : Shape) (xs : List ℕ) → Held F s xs → s.width ≤ length xs
  wide_one s xs h = omega (arith, h.long, add-mul s.degree 1 s.width, one-mul s.width)

  pub held_rest : (s s' : Shape) (xs : List ℕ) → s' ≡ rest_of s → Held F s xs → 0 < s.degree → Held F s' (drop s.width xs)
  held_rest s s' xs e h k =
      subst (λ (z : Shape). Held F z (drop s.width xs)) (sym e)
      (record {
        all = all_drop s.width xs h.all;
        long = length-drop s.width xs ∙ (let back : s.degree - 1 + 1 ≡ s.degree = omega arith in ap (λ (n : ℕ). n - s.width) h.long ∙ (let z : (s.degree + 1) * s.width - s.width ≡ s.degree * s.width = omega (arith, add-mul s.degree 1 s.width, one-mul s.width) in z) ∙ ap (λ (n : ℕ). n * s.width) (sym back));
        room = let r = h.room in omega arith;
        deep = let back : suc (s.degree - 1) ≡ s.degree = omega arith in omega (arith, h.deep, suc-mul (s.degree - 1) s.depth, ap (λ (n : ℕ). n * s.depth) back);
        fits = fits_tail (ring_of F) s.size s.depth (runs F s.width xs) h.fits;
      })

  -- the rest of the slice is lent and comes back as ys
  pub lent_take : (w : ℕ) (xs ys : List ℕ) → w ≤ length xs → take w (put_mid w (length xs - w) xs ys) ≡ take w xs
  lent_take w xs ys h = take-put_mid_below w (length xs - w) xs ys w (omega arith) h

  pub lent_drop : (w : ℕ) (xs ys : List ℕ) → w ≤ length xs → length ys ≡ length xs - w → drop w (put_mid w (length xs - w) xs ys) ≡ ys
  lent_drop w xs ys h l =
      ap (drop w) (ap (λ (z : List ℕ). take w xs ++ (ys ++ z)) (Post-is w (length xs) xs h ∙ drop_all (length xs) xs (omega arith)) ∙ ap (λ (z : List ℕ). take w xs ++ z) (append-nil ys))
      ∙ drop_at (take w xs) ys w (length-take-le w xs h)

  -- the part that is lent
  pub part_rest : (w : ℕ) (xs : List ℕ) → take (length xs - w) (drop w xs) ≡ drop w xs
  part_rest w xs = take_all (length xs - w) (drop w xs) (let z = length-drop w xs in omega arith)
