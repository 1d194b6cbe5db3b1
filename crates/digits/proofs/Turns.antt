-- A turn of the walk's loop at a digit that is a root: down, the walk below, and up again.
use Rattle.std.proofs.Common.{◌≡◌, ℕ, suc, ◌+◌, ◌<◌, ◌≢◌, List, [], ◌∷◌, ◌++◌, length, get_or, take, set, sym, ap, ◌∙◌, subst, arith, length-set, get_or-set_other, get_or-set_same}
use native.Mathlib.Decide.{ℕ_discrete}
use Rattle.std.proofs.lemmas.List.{take-take, take-set, take_more_set, length-take-le}
use Rattle.algebra.specs.Poly.{at}
use Rattle.algebra.specs.PolyRing.{Poly}
use Rattle.algebra.specs.Taylor.{taylor}
use Rattle.fields.specs.Numbers.{Numbers, AllBelow, Element, elem, pos, ring_of, elem_inj}
use Rattle.digits.specs.declared.Shape.{Shape}
use Rattle.digits.specs.Runs.{runs, term, Held}
use Rattle.digits.specs.Digits.{Decides}
use Rattle.digits.specs.Walks.{Taken, Walked, Ends}
use Rattle.digits.proofs.Courses.{after, Upto, at_root}
use Rattle.digits.proofs.Passes.{restored}

module _ (F : Numbers) where
  -- a digit that is an element
  pub all_set : (xs : List ℕ) (i v : ℕ) → AllBelow F.q xs → v < F.q → AllBelow F.q (set xs i v)
  all_set xs i v a h k u = go (ℕ_discrete k i)
    where
      long : length (set xs i v) ≡ length xs
      long = length-set xs i v

      go : Dec (k ≡ i) → get_or (set xs i v) k 0 < F.q
      go (yes p) = subst (λ (j : ℕ). get_or (set xs i v) j 0 < F.q) (sym p) (subst (λ z. z < F.q) (sym (get_or-set_same xs i v 0 (let l = long in omega arith))) h)
      go (no p) = subst (λ z. z < F.q) (sym (get_or-set_other xs i k v 0 p)) (a k (let l = long in omega arith))

  -- the value that was computed is zero, or it is not
  pub value_zero : (r : ℕ) (v : Element F) → elem F r ≡ v → r ≡ 0 → v ≡ (ring_of F).𝟘
  value_zero r v e z = sym e ∙ ap (elem F) z

  pub value_some : (r : ℕ) (v : Element F) → elem F r ≡ v → r < F.q → r ≢ 0 → v ≢ (ring_of F).𝟘
  value_some r v e h nz z = nz (elem_inj F r 0 h (pos F) (e ∙ z))

  -- the digits before t stay
  pub before_stays : (ds ds₀ after : List ℕ) (t e : ℕ) → take t ds ≡ take t ds₀ → take (t + 1) after ≡ take (t + 1) (set ds t e) → take t after ≡ take t ds₀
  before_stays ds ds₀ after t e p k =
      sym (take-take t (t + 1) after (omega arith)) ∙ ap (take t) k ∙ take-take t (t + 1) (set ds t e) (omega arith) ∙ take-set ds t e ∙ p

  module _ (s : Shape) (t e e' : ℕ) (he : e < F.q) (en : e' ≡ F.neg e) (xs₀ xs down below up : List ℕ)
      (h : Held F s xs) (k : Held F s up)
      (start : runs F s.width xs ≡ runs F s.width xs₀)
      (shifted : runs F s.width down ≡ taylor (Poly (ring_of F)) (suc s.degree) (term (ring_of F) (elem F e) t) (runs F s.width xs))
      (walked : runs F s.width below ≡ runs F s.width down)
      (returned : runs F s.width up ≡ taylor (Poly (ring_of F)) (suc s.degree) (term (ring_of F) (elem F e') t) (runs F s.width below)) where
    pub turn_same : runs F s.width up ≡ runs F s.width xs₀
    turn_same = restored F s e e' t he en xs below up h k (walked ∙ shifted) returned ∙ start

    pub turn_walked : {S : Type 0} (visits : S → List ℕ → S → Type 0) (n : ℕ) (p : ℕ → Element F) (ds ds₀ : List ℕ) (dec : Decides (ring_of F) s.degree t (runs F s.width xs₀) n p) (inside : t < length ds₀) → length ds ≡ length ds₀ → take t ds ≡ take t ds₀ → at (ring_of F) (elem F e) n p ≡ (ring_of F).𝟘
        → {a b c : S} → Walked visits (Upto F s.degree (length ds₀) t (take t ds₀) (runs F s.width xs₀) n p dec inside e) a b → Walked visits (Ends F s.degree (length (set ds t e)) (t + 1) (take (t + 1) (set ds t e)) (runs F s.width down)) b c
        → Walked visits (Upto F s.degree (length ds₀) t (take t ds₀) (runs F s.width xs₀) n p dec inside (e + 1)) a c
    turn_walked visits n p ds ds₀ dec inside long front root {a} {b} {c} v w =
        let next : runs F s.width down ≡ after F s.degree (length ds₀) t (take t ds₀) (runs F s.width xs₀) e =
        shifted ∙ ap (taylor (Poly (ring_of F)) (suc s.degree) (term (ring_of F) (elem F e) t)) start in
        let w' : Walked visits (Ends F s.degree (length ds₀) (t + 1) (take (t + 1) (set ds t e)) (after F s.degree (length ds₀) t (take t ds₀) (runs F s.width xs₀) e)) b c =
        subst (λ (T : ℕ → ℕ → Element F). Walked visits (Ends F s.degree (length ds₀) (t + 1) (take (t + 1) (set ds t e)) T) b c) next
        (subst (λ (N : ℕ). Walked visits (Ends F s.degree N (t + 1) (take (t + 1) (set ds t e)) (runs F s.width down)) b c) (length-set ds t e ∙ long) w) in
        at_root F s.degree (length ds₀) t (take t ds₀) (runs F s.width xs₀) n p dec inside visits e he root (take (t + 1) (set ds t e))
        (take_more_set ds t e (omega arith) ∙ ap (λ (l : List ℕ). l ++ e ∷ []) front) (length-take-le t ds₀ (omega arith)) v w'

-- what holds before a turn at e: the runs and the first digits are as they were, and the walk has visited the ends with a digit below e
abbrev pub State : {S : Type 0} (F : Numbers) (s : Shape) (t : ℕ) (takes : S → List ℕ → Type 0) (visits : S → List ℕ → S → Type 0) (xs₀ ds₀ : List ℕ) (leaf₀ : S) (e : ℕ) (xs ds : List ℕ) (leaf : S) → Type 0
State F s t takes visits xs₀ ds₀ leaf₀ e xs ds leaf =
    Held F s xs
    × (runs F s.width xs ≡ runs F s.width xs₀)
    × (take t ds ≡ take t ds₀)
    × AllBelow F.q ds
    × Taken F takes (length ds₀) leaf
    × Walked visits (λ (d : List ℕ). Ends F s.degree (length ds₀) t (take t ds₀) (runs F s.width xs₀) d × (get_or d t 0 < e)) leaf₀ leaf

pub state_as : {S : Type 0} (F : Numbers) (s : Shape) (t : ℕ) (takes : S → List ℕ → Type 0) (visits : S → List ℕ → S → Type 0) (xs₀ ds₀ : List ℕ) (leaf₀ : S) (e : ℕ) {xs xs' ds ds' : List ℕ} {leaf leaf' : S} → xs' ≡ xs → ds' ≡ ds → leaf' ≡ leaf → State F s t takes visits xs₀ ds₀ leaf₀ e xs ds leaf → State F s t takes visits xs₀ ds₀ leaf₀ e xs' ds' leaf'
state_as {S} F s t takes visits xs₀ ds₀ leaf₀ e {xs} {xs'} {ds} {ds'} {leaf} {leaf'} a b c h =
    subst (λ (z : S). State F s t takes visits xs₀ ds₀ leaf₀ e xs' ds' z) (sym c)
    (subst (λ (z : List ℕ). State F s t takes visits xs₀ ds₀ leaf₀ e xs' z leaf) (sym b) (subst (λ (z : List ℕ). State F s t takes visits xs₀ ds₀ leaf₀ e z ds leaf) (sym a) h))
