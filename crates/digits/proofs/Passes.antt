-- What a pass and all passes leave in an array, from what they leave in the rest of it.
use Rattle.std.proofs.Common.{◌≡◌, ℕ, suc, ◌+◌, ◌-◌, ◌<◌, ◌≤◌, List, [], ◌∷◌, length, take, drop, sym, ap, ◌∙◌, subst, ap₂, arith, length-append, length-drop}
use mathlib.Core.Path.{fun_ext}
use borrow.Rule.Slice.PartMut.{put_mid}
use Rattle.std.proofs.lemmas.List.{take-append-drop, length-take-le}
use Rattle.algebra.specs.Ring.{Ring}
use native.Mathlib.Decide.{dec_lt}
use Rattle.algebra.specs.Poly.{conv, padd, pzero, mono, tail, cons}
use Rattle.algebra.specs.Solve.{ring}
use Rattle.algebra.specs.PolyForms.{forms}
use Rattle.algebra.proofs.Taylor.{taylor_add}
use Rattle.algebra.specs.PolyRing.{Poly, const_conv}
use Rattle.algebra.specs.Taylor.{taylor}
use Rattle.algebra.proofs.Sweep.{sweep, taylor_sweep}
use Rattle.fields.specs.Numbers.{Numbers, AllBelow, Element, elem, ring_of, elem_neg}
use Rattle.polynomials.specs.Series.{poly, Reads, plus_shifted}
use Rattle.digits.specs.declared.Shape.{Shape}
use Rattle.digits.specs.Runs.{runs, term, Fits, Held}
use Rattle.digits.proofs.Bounds.{sweep_none, sweep_more, taylor_one, taylor_none, fits_sweep, fits_taylor}
use Rattle.digits.proofs.Arrays.{all_take, all_join, runs_cons, runs_below, poly_cut, shifted_term, fits_held, rest_of, held_rest, deep_one, wide_one, lent_take, lent_drop}

module _ (F : Numbers) (s : Shape) (e t : ℕ) where
  abbrev R : Ring
  R = ring_of F

  abbrev ψ : ℕ → Element F
  ψ = term R (elem F e) t

  abbrev T : List ℕ → ℕ → ℕ → Element F
  T xs = runs F s.width xs

  held_after : (xs us : List ℕ) → Held F s xs → length us ≡ length xs → AllBelow F.q us → Fits R s.size s.depth (T us) → Held F s us
  held_after xs us h l a f = record { all = a; long = l ∙ h.long; room = h.room; deep = h.deep; fits = f }

  -- a slice of one run
  pub sweep_one : (xs : List ℕ) → Held F s xs → s.degree ≡ 0 → T xs ≡ sweep (Poly R) ψ s.degree (T xs)
  sweep_one xs h z =
      sym (sweep_none (Poly R) ψ (T xs) (λ b k. runs_below F s.width s.degree xs h.long b (omega arith)))
      ∙ ap (λ (d : ℕ). sweep (Poly R) ψ d (T xs)) (sym z)

  pub shift_one : (xs : List ℕ) → Held F s xs → s.degree ≡ 0 → T xs ≡ taylor (Poly R) (suc s.degree) ψ (T xs)
  shift_one xs h z =
      sym (taylor_one (Poly R) ψ (T xs) (λ b k. runs_below F s.width s.degree xs h.long b (omega arith)))
      ∙ ap (λ (d : ℕ). taylor (Poly R) (suc d) ψ (T xs)) (sym z)

  module _ (s' : Shape) (xs ys us : List ℕ) (es : s' ≡ rest_of F s) (some : 0 < s.degree) (place : t ≤ s.depth) (h : Held F s xs) (h' : Held F s' ys) (long : length us ≡ length xs) where
    back : suc s'.degree ≡ s.degree
    back = let d : s'.degree ≡ s.degree - 1 = ap (λ (z : Shape). z.degree) es in omega arith

    width_same : s'.width ≡ s.width
    width_same = ap (λ (z : Shape). z.width) es

    size_rest : s'.size ≡ s.size - s.depth
    size_rest = ap (λ (z : Shape). z.size) es

    pub sweep_is : Reads F (take s.width us) (plus_shifted F (poly F (take s.width xs)) e t (poly F (take s'.size ys))) → drop s.width us ≡ ys → runs F s'.width ys ≡ sweep (Poly R) ψ s'.degree (runs F s'.width (drop s.width xs)) → T us ≡ sweep (Poly R) ψ s.degree (T xs)
    sweep_is r d e' =
        let inner : T ys ≡ sweep (Poly R) ψ s'.degree (tail (T xs)) = subst (λ (w : ℕ). runs F w ys ≡ sweep (Poly R) ψ s'.degree (runs F w (drop s.width xs))) width_same e' in
        let cut : poly F (take s'.size ys) ≡ sweep (Poly R) ψ s'.degree (tail (T xs)) 0 =
        poly_cut F s'.size s'.width ys h'.room (fits_held F s' ys h') ∙ ap (λ (w : ℕ). poly F (take w ys)) width_same ∙ ap (λ (g : ℕ → ℕ → Element F). g 0) inner in
        runs_cons F s.width us
        ∙ ap₂ cons
        (r.is ∙ shifted_term F (poly F (take s.width xs)) (poly F (take s'.size ys)) e t ∙ ap (λ (q : ℕ → Element F). padd R (T xs 0) (conv R ψ q)) cut)
        (ap (runs F s.width) d ∙ inner)
        ∙ sym (sweep_more (Poly R) ψ s'.degree (T xs))
        ∙ ap (λ (n : ℕ). sweep (Poly R) ψ n (T xs)) back

    pub sweep_held : Reads F (take s.width us) (plus_shifted F (poly F (take s.width xs)) e t (poly F (take s'.size ys))) → drop s.width us ≡ ys → T us ≡ sweep (Poly R) ψ s.degree (T xs) → Held F s us
    sweep_held r d is =
        held_after xs us h long (all_join F s.width us r.below (subst (AllBelow F.q) (sym d) h'.all))
        (subst (Fits R s.size s.depth) (sym is)
        (fits_sweep R s.size s.depth t (elem F e) s.degree (T xs) place h.deep (runs_below F s.width s.degree xs h.long) h.fits))

-- the rest of xs was lent, and came back as ys
module _ (F : Numbers) (s s' : Shape) (e t : ℕ) (xs ys : List ℕ) (es : s' ≡ rest_of F s) (some : 0 < s.degree) (place : t ≤ s.depth) (h : Held F s xs) (h' : Held F s' ys) where
  abbrev w : ℕ
  w = s.width

  abbrev pub rejoined : List ℕ
  rejoined = put_mid w (length xs - w) xs ys

  wide : w ≤ length xs
  wide = wide_one F s xs h

  rest_length : length ys ≡ length xs - w
  rest_length = h'.long ∙ sym (held_rest F s s' xs es h some).long ∙ length-drop w xs

  pub rejoined_take : take w rejoined ≡ take w xs
  rejoined_take = lent_take F w xs ys wide

  pub rejoined_drop : drop w rejoined ≡ ys
  rejoined_drop = lent_drop F w xs ys wide rest_length

  pub rejoined_length : length rejoined ≡ length xs
  rejoined_length =
      sym (ap length (take-append-drop w rejoined))
      ∙ length-append (take w rejoined) (drop w rejoined)
      ∙ ap₂ ◌+◌ (ap length rejoined_take ∙ length-take-le w xs wide) (ap length rejoined_drop ∙ rest_length)
      ∙ (let g = wide in let z : w + (length xs - w) ≡ length xs = omega arith in z)

  pub next_all : AllBelow F.q rejoined
  next_all =
      all_join F w rejoined (subst (AllBelow F.q) (sym rejoined_take) (all_take F w xs h.all)) (subst (AllBelow F.q) (sym rejoined_drop) h'.all)

  pub next_room : t + s'.size ≤ w
  next_room =
      let z : s'.size ≡ s.size - s.depth = ap (λ (z : Shape). z.size) es in
      let r = h.room in
      let d = deep_one F s xs h some in
      omega arith

  pub next_long : w + s'.size ≤ length rejoined
  next_long =
      let a = rejoined_length in
      let b = rest_length in
      let g = wide in
      let u = wide_one F s' ys h' in
      let r = h'.room in
      omega arith

  module _ (us : List ℕ) (r : Reads F (take w us) (plus_shifted F (poly F (take w rejoined)) e t (poly F (take s'.size (drop w rejoined))))) (d : drop w us ≡ drop w rejoined) (l : length us ≡ length rejoined) where
    first : Reads F (take w us) (plus_shifted F (poly F (take w xs)) e t (poly F (take s'.size ys)))
    first =
        subst (λ (y : List ℕ). Reads F (take w us) (plus_shifted F (poly F (take w xs)) e t (poly F (take s'.size y)))) rejoined_drop
        (subst (λ (x : List ℕ). Reads F (take w us) (plus_shifted F (poly F x) e t (poly F (take s'.size (drop w rejoined))))) rejoined_take r)

    pub swept_is : runs F s'.width ys ≡ sweep (Poly (ring_of F)) (term (ring_of F) (elem F e) t) s'.degree (runs F s'.width (drop w xs)) → runs F w us ≡ sweep (Poly (ring_of F)) (term (ring_of F) (elem F e) t) s.degree (runs F w xs)
    swept_is e' = sweep_is F s e t s' xs ys us es some place h h' (l ∙ rejoined_length) first (d ∙ rejoined_drop) e'

    pub swept_held : runs F w us ≡ sweep (Poly (ring_of F)) (term (ring_of F) (elem F e) t) s.degree (runs F w xs) → Held F s us
    swept_held is = sweep_held F s e t s' xs ys us es some place h h' (l ∙ rejoined_length) first (d ∙ rejoined_drop) is

-- all passes: one over the whole, and then all over the rest
module _ (F : Numbers) (s s' : Shape) (e t : ℕ) (xs zs ys us : List ℕ) (es : s' ≡ rest_of F s) (some : 0 < s.degree) (place : t ≤ s.depth) (h : Held F s xs) (hz : Held F s zs) (h' : Held F s' ys) where
  abbrev P : Ring
  P = Poly (ring_of F)

  abbrev ψ₁ : ℕ → Element F
  ψ₁ = term (ring_of F) (elem F e) t

  pub shifted_is : runs F s.width zs ≡ sweep P ψ₁ s.degree (runs F s.width xs) → runs F s'.width ys ≡ taylor P (suc s'.degree) ψ₁ (runs F s'.width (drop s.width zs)) → us ≡ put_mid s.width (length zs - s.width) zs ys → runs F s.width us ≡ taylor P (suc s.degree) ψ₁ (runs F s.width xs)
  shifted_is swept rest e' =
      let T : ℕ → ℕ → Element F = runs F s.width xs in
      let S : ℕ → ℕ → Element F = sweep P ψ₁ s.degree T in
      let back : suc s'.degree ≡ s.degree = let d : s'.degree ≡ s.degree - 1 = ap (λ (z : Shape). z.degree) es in omega arith in
      let inner : runs F s.width ys ≡ taylor P s.degree ψ₁ (tail S) =
      subst (λ (w : ℕ). runs F w ys ≡ taylor P (suc s'.degree) ψ₁ (runs F w (drop s.width zs))) (ap (λ (z : Shape). z.width) es) rest
      ∙ ap (λ (d : ℕ). taylor P d ψ₁ (runs F s.width (drop s.width zs))) back
      ∙ ap (λ (g : ℕ → ℕ → Element F). taylor P s.degree ψ₁ (tail g)) swept in
      ap (runs F s.width) e'
      ∙ runs_cons F s.width (put_mid s.width (length zs - s.width) zs ys)
      ∙ ap₂ (λ (a b : List ℕ). cons (poly F a) (runs F s.width b)) (rejoined_take F s s' e t zs ys es some place hz h') (rejoined_drop F s s' e t zs ys es some place hz h')
      ∙ ap₂ cons (ap (λ (g : ℕ → ℕ → Element F). g 0) swept) inner
      ∙ sym (taylor_sweep P ψ₁ s.degree T (runs_below F s.width s.degree xs h.long))

  pub shifted_held : us ≡ put_mid s.width (length zs - s.width) zs ys → runs F s.width us ≡ taylor P (suc s.degree) ψ₁ (runs F s.width xs) → Held F s us
  shifted_held e' is =
      record {
        all = subst (AllBelow F.q) (sym e') (next_all F s s' e t zs ys es some place hz h');
        long = ap length e' ∙ rejoined_length F s s' e t zs ys es some place hz h' ∙ hz.long;
        room = h.room;
        deep = h.deep;
        fits =
            subst (Fits (ring_of F) s.size s.depth) (sym is)
            (fits_taylor (ring_of F) s.size s.depth t (elem F e) s.degree (runs F s.width xs) place h.deep (runs_below F s.width s.degree xs h.long) h.fits);
      }

-- back again: y - e x ^ t for y after y + e x ^ t for y
module _ (R : Ring) where
  infixl 60 ◌⊕◌
  infixl 70 ◌⊗◌
  infix 80 ⊖◌
  open R use {El, 𝟘, 𝟙, ◌⊕◌, ⊖◌, ◌⊗◌}

  cancels : (a m : El) → a ⊗ m ⊕ (⊖ a) ⊗ m ≡ 𝟘
  cancels a m = ring R (a ∷ m ∷ []) (search forms depth 20) tt

  terms_cancel : (e : El) (t : ℕ) → padd R (term R e t) (term R (⊖ e) t) ≡ pzero R
  unfolding padd pzero
  terms_cancel e t = fun_ext (λ i. ap₂ ◌⊕◌ (const_conv R e (mono R t) i) (const_conv R (⊖ e) (mono R t) i) ∙ cancels e (mono R t i))

  pub taylor_back : (n t : ℕ) (e : El) (T : ℕ → ℕ → El) (b : ℕ) → b < n → taylor (Poly R) n (term R (⊖ e) t) (taylor (Poly R) n (term R e t) T) b ≡ T b
  taylor_back n t e T b h =
      ap (λ (f : ℕ → ℕ → El). f b) (taylor_add (Poly R) n (term R e t) (term R (⊖ e) t) T ∙ ap (λ (p : ℕ → El). taylor (Poly R) n p T) (terms_cancel e t))
      ∙ taylor_none (Poly R) n T b h

module _ (F : Numbers) (s : Shape) (e e' t : ℕ) (he : e < F.q) (en : e' ≡ F.neg e) where
  pub restored : (xs ys zs : List ℕ) → Held F s xs → Held F s zs → runs F s.width ys ≡ taylor (Poly (ring_of F)) (suc s.degree) (term (ring_of F) (elem F e) t) (runs F s.width xs) → runs F s.width zs ≡ taylor (Poly (ring_of F)) (suc s.degree) (term (ring_of F) (elem F e') t) (runs F s.width ys) → runs F s.width zs ≡ runs F s.width xs
  restored xs ys zs h k a b =
      fun_ext (λ i. elim (dec_lt i (suc s.degree)) [
        | yes l ↦
            ap (λ (f : ℕ → ℕ → Element F). f i)
            (b ∙ ap₂ (λ (y : Element F) (T : ℕ → ℕ → Element F). taylor (Poly (ring_of F)) (suc s.degree) (term (ring_of F) y t) T) (ap (elem F) en ∙ elem_neg F e he) a)
            ∙ taylor_back (ring_of F) (suc s.degree) t (elem F e) (runs F s.width xs) i l
        | no l ↦ runs_below F s.width s.degree zs k.long i (omega arith) ∙ sym (runs_below F s.width s.degree xs h.long i (omega arith))
      ])
