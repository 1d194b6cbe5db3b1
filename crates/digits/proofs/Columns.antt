-- The columns of the layers, by the first run and the rest.
use Rattle.std.proofs.Common.{◌≡◌, ℕ, zero, suc, ◌+◌, ◌-◌, ◌*◌, ◌<◌, ◌≤◌, ◌≢◌, List, [], ◌∷◌, ◌++◌, length, get_or, take, drop, set, replicate, sym, refl, ap, ◌∙◌, subst, suc-mul, mul-le-mul_left, zero-mul, arith, length-append, length-drop}
use mathlib.Core.Path.{fun_ext}
use native.Mathlib.Decide.{dec_lt}
use Rattle.algebra.specs.Ring.{Ring}
use Rattle.algebra.specs.Poly.{up, tail, cons, pzero, at, ev, Below, Order}
use Rattle.algebra.specs.PolyRing.{Poly}
use Rattle.algebra.specs.RingLaws as L
use Rattle.algebra.proofs.Eval.{ev_more, below_zero}
use Rattle.algebra.specs.Division.{size}
use Rattle.algebra.proofs.Roots.{id_hom}
use Rattle.algebra.proofs.Degrees.{size_below, size_lead}
use Rattle.algebra.proofs.Monomials.{up_order, up_at}
use Rattle.fields.specs.Numbers.{Numbers, AllBelow, Element, elem, ring_of, field_of}
use Rattle.polynomials.specs.Series.{poly, Reads}
use Rattle.polynomials.proofs.Readings.{poly_at, poly_past, all_at, past}
use borrow.Rule.Slice.PartMut.{put_mid}
use Rattle.std.proofs.lemmas.List.{get_or-take, get_or-drop, get_or_append_left, get_or-append-add, get_or-replicate, length-replicate, drop_all, append-nil}
use Rattle.digits.specs.declared.Shape.{Shape}
use Rattle.digits.specs.Runs.{runs, Fits, Held}
use Rattle.digits.proofs.Arrays.{runs_below}
use Rattle.digits.specs.Digits.{column, Decides}

module _ (R : Ring) where
  open R use {El, 𝟘}

  up_value : (n : ℕ) (p : ℕ → El) (m : ℕ) → n ≤ m → up R n p m ≡ p (m - n)
  up_value n p m h = ap (up R n p) (let z : m ≡ n + (m - n) = omega arith in z) ∙ up_at R n p (m - n)

  -- x ^ n (x ^ k p)
  up_further : (n k s : ℕ) (p : ℕ → El) (m : ℕ) → s ≡ n + k → k ≤ m → up R s p m ≡ up R n p (m - k)
  up_further n k s p m e h = go (dec_lt (m - k) n)
    where
      go : Dec (m - k < n) → up R s p m ≡ up R n p (m - k)
      go (yes l) = up_order R s p m (omega arith) ∙ sym (up_order R n p (m - k) l)
      go (no l) = up_value s p m (omega arith) ∙ ap p (let z : m - s ≡ m - k - n = omega arith in z) ∙ sym (up_value n p (m - k) (omega arith))

  column_first : (t m : ℕ) (T : ℕ → ℕ → El) → column R t m T 0 ≡ T 0 m
  unfolding up
  column_first t m T = ap (λ (n : ℕ). up R n (T 0) m) (zero-mul t)

  -- the first run, and the columns of the rest t places before
  pub column_cons : (t m : ℕ) (T : ℕ → ℕ → El) → t ≤ m → column R t m T ≡ cons (T 0 m) (column R t (m - t) (tail T))
  column_cons t m T h =
      fun_ext (elim [ zero ↦ column_first t m T | suc b ↦ up_further (b * t) t (suc b * t) (T (suc b)) m (suc-mul b t) h ])

  -- before t the rest has no column
  pub column_front : (t m : ℕ) (T : ℕ → ℕ → El) → m < t → column R t m T ≡ cons (T 0 m) (pzero R)
  unfolding pzero
  column_front t m T h =
      fun_ext (elim [ zero ↦ column_first t m T | suc b ↦ up_order R (suc b * t) (T (suc b)) m (let z = suc-mul b t in omega arith) ])

  up_none : (n : ℕ) (p : ℕ → El) (m : ℕ) → p ≡ pzero R → up R n p m ≡ 𝟘
  unfolding pzero
  up_none n p m e = go (dec_lt m n)
    where
      go : Dec (m < n) → up R n p m ≡ 𝟘
      go (yes l) = up_order R n p m l
      go (no l) = up_value n p m (omega arith) ∙ ap (λ (f : ℕ → El). f (m - n)) e

  pub column_one : (t m : ℕ) (T : ℕ → ℕ → El) → Below (Poly R) 1 T → column R t m T ≡ cons (T 0 m) (pzero R)
  unfolding pzero
  column_one t m T h = fun_ext (elim [ zero ↦ column_first t m T | suc b ↦ up_none (suc b * t) (T (suc b)) m (h (suc b) (omega arith)) ])

  -- past the size there is no column
  pub column_past : (n d t m : ℕ) (T : ℕ → ℕ → El) → Fits R n d T → t ≤ d → n ≤ m → column R t m T ≡ pzero R
  unfolding pzero
  column_past n d t m T h ht hm = fun_ext (λ b. go b (dec_lt m (b * t)))
    where
      go : (b : ℕ) → Dec (m < b * t) → column R t m T b ≡ 𝟘
      go b (yes l) = up_order R (b * t) (T b) m l
      go b (no l) = up_value (b * t) (T b) m (omega arith) ∙ h b (m - b * t) (let z = mul-le-mul_left b ht in omega arith)

  zero_at : (e : El) (n : ℕ) → at R e n (pzero R) ≡ 𝟘
  unfolding ev pzero
  zero_at e zero = refl
  zero_at e (suc n) = L.zero_add R _ ∙ ap (R.◌⊗◌ e) (zero_at e n) ∙ L.mul_zero R e

  -- all columns are zero: every digit is allowed
  pub decides_none : (ℓ t : ℕ) (T : ℕ → ℕ → El) → ((i : ℕ) → column R t i T ≡ pzero R) → Decides R ℓ t T (suc ℓ) (pzero R)
  decides_none ℓ t T all =
      record { roots = λ e a. zero_at e (suc ℓ); allowed = λ e z m orders. ap (at R e (suc ℓ)) (all m) ∙ zero_at e (suc ℓ) }

  -- the columns before m are zero, and the column m is not: its roots are the allowed digits
  pub decides_found : (ℓ t m : ℕ) (T : ℕ → ℕ → El) (b : ℕ) → ((i : ℕ) → i < m → column R t i T ≡ pzero R) → b ≤ ℓ → column R t m T b ≢ 𝟘 → Decides R ℓ t T (suc ℓ) (column R t m T)
  unfolding pzero
  decides_found ℓ t m T b before hb some =
      record {
        roots = λ e a. a m (λ b h i l. ap (λ (f : ℕ → El). f b) (before i l));
        allowed = λ e z k orders. go e z k orders (dec_lt k m) (dec_lt m k);
      }
    where
      go : (e : El) → at R e (suc ℓ) (column R t m T) ≡ 𝟘 → (k : ℕ) → ((b : ℕ) → b ≤ ℓ → Order R k (up R (b * t) (T b))) → Dec (k < m) → Dec (m < k) → at R e (suc ℓ) (column R t k T) ≡ 𝟘
      go e z k orders (yes l) d = ap (at R e (suc ℓ)) (before k l) ∙ zero_at e (suc ℓ)
      go e z k orders (no l) (yes u) = absurd (some (orders b hb m u))
      go e z k orders (no l) (no u) = ap (λ (j : ℕ). at R e (suc ℓ) (column R t j T)) (let q : k ≡ m = omega arith in q) ∙ z

module _ (F : Numbers) where
  -- a first number, and what was written to the rest
  pub written_rest : (out last : List ℕ) (v : ℕ) → 0 < length out → put_mid 1 (length (set out 0 v) - 1) (set out 0 v) last ≡ v ∷ last
  written_rest [] last v h = absurd (omega arith)
  written_rest (x ∷ xs) last v h =
      ap (λ (l : List ℕ). v ∷ (last ++ l)) (drop_all (suc (length xs) - 1) xs (omega arith)) ∙ ap (λ (l : List ℕ). v ∷ l) (append-nil last)

  pub poly_cons : (v : ℕ) (xs : List ℕ) → poly F (v ∷ xs) ≡ cons (elem F v) (poly F xs)
  unfolding poly
  poly_cons v xs = fun_ext (elim [ zero ↦ refl | suc i ↦ refl ])

  all_cons : (v : ℕ) (xs : List ℕ) → v < F.q → AllBelow F.q xs → AllBelow F.q (v ∷ xs)
  all_cons v xs h a zero u = h
  all_cons v xs h a (suc k) u = a k (omega arith)

  pub reads_cons : (v : ℕ) (xs out : List ℕ) (p q : ℕ → Element F) → out ≡ v ∷ xs → v < F.q → Reads F xs p → q ≡ cons (elem F v) p → Reads F out q
  reads_cons v xs out p q e h r eq =
      record {
        below = subst (AllBelow F.q) (sym e) (all_cons v xs h r.below);
        is = ap (poly F) e ∙ poly_cons v xs ∙ ap (cons (elem F v)) r.is ∙ sym eq;
      }

  pub first_is : (s : Shape) (xs : List ℕ) (m : ℕ) → m < s.width → runs F s.width xs 0 m ≡ elem F (get_or xs m 0)
  first_is s xs m h = poly_at F (take s.width xs) m ∙ ap (elem F) (get_or-take s.width xs m 0 h)

  -- out is one number
  pub single : (out : List ℕ) (v : ℕ) → length out ≡ 1 → set out 0 v ≡ v ∷ []
  single [] v h = absurd (omega arith)
  single (x ∷ []) v h = refl
  single (x ∷ y ∷ ys) v h = absurd (omega arith)

  pub reads_none : Reads F [] (pzero (ring_of F))
  unfolding pzero
  reads_none = record { below = λ k u. absurd (let z : k < 0 = u in omega arith); is = fun_ext (λ k. poly_at F [] k) }

  module _ (s : Shape) (xs out last : List ℕ) (t m : ℕ) (h : Held F s xs) (inside : m < s.width) where
    abbrev v : ℕ
    v = get_or xs m 0

    v_below : v < F.q
    v_below = all_at F xs h.all m

    abbrev T : ℕ → ℕ → Element F
    T = runs F s.width xs

    pub gathered_one : s.degree ≡ 0 → length out ≡ s.degree + 1 → Reads F (set out 0 v) (column (ring_of F) t m T)
    gathered_one z l =
        reads_cons v [] (set out 0 v) (pzero (ring_of F)) (column (ring_of F) t m T) (single out v (omega arith)) v_below reads_none
        (column_one (ring_of F) t m T (λ b k. runs_below F s.width s.degree xs h.long b (omega arith)) ∙ ap (λ (y : Element F). cons y (pzero (ring_of F))) (first_is s xs m inside))

    pub gathered_front : m < t → length out ≡ s.degree + 1 → Reads F last (pzero (ring_of F)) → Reads F (put_mid 1 (length (set out 0 v) - 1) (set out 0 v) last) (column (ring_of F) t m T)
    gathered_front lt l r =
        reads_cons v last (put_mid 1 (length (set out 0 v) - 1) (set out 0 v) last) (pzero (ring_of F)) (column (ring_of F) t m T) (written_rest out last v (omega arith)) v_below r
        (column_front (ring_of F) t m T lt ∙ ap (λ (y : Element F). cons y (pzero (ring_of F))) (first_is s xs m inside))

    pub gathered_more : t ≤ m → length out ≡ s.degree + 1 → Reads F last (column (ring_of F) t (m - t) (runs F s.width (drop s.width xs))) → Reads F (put_mid 1 (length (set out 0 v) - 1) (set out 0 v) last) (column (ring_of F) t m T)
    gathered_more le l r =
        reads_cons v last (put_mid 1 (length (set out 0 v) - 1) (set out 0 v) last) (column (ring_of F) t (m - t) (tail T)) (column (ring_of F) t m T) (written_rest out last v (omega arith)) v_below r
        (column_cons (ring_of F) t m T le ∙ ap (λ (y : Element F). cons y (column (ring_of F) t (m - t) (tail T))) (first_is s xs m inside))

  -- the polynomial of a column that is not zero, or zero
  pub size_none : (xs : List ℕ) → size (field_of F) (length xs) (poly F xs) ≡ 0 → poly F xs ≡ pzero (ring_of F)
  size_none xs e = below_zero (ring_of F) (poly F xs) (subst (λ (n : ℕ). Below (ring_of F) n (poly F xs)) e (size_below (field_of F) (length xs) (poly F xs) (poly_past F xs)))

  pub size_some : (xs : List ℕ) (n : ℕ) → n ≡ size (field_of F) (length xs) (poly F xs) → 0 < n → poly F xs (n - 1) ≢ (ring_of F).𝟘
  size_some xs n e h = size_lead (field_of F) (length xs) (n - 1) (poly F xs) (sym e ∙ (let z : n ≡ suc (n - 1) = omega arith in z))

  pub found : (s : Shape) (xs out : List ℕ) (t m n : ℕ) → length out ≡ s.degree + 1 → ((i : ℕ) → i < m → column (ring_of F) t i (runs F s.width xs) ≡ pzero (ring_of F)) → Reads F out (column (ring_of F) t m (runs F s.width xs)) → n ≡ size (field_of F) (length out) (poly F out) → n ≤ length out → 0 < n → Decides (ring_of F) s.degree t (runs F s.width xs) (suc s.degree) (poly F out)
  found s xs out t m n l before r e hn h =
      subst (Decides (ring_of F) s.degree t (runs F s.width xs) (suc s.degree)) (sym r.is)
      (decides_found (ring_of F) s.degree t m (runs F s.width xs) (n - 1) before (omega arith) (λ z. size_some out n e h (ap (λ (f : ℕ → Element F). f (n - 1)) r.is ∙ z)))

  pub nowhere : (s : Shape) (xs out : List ℕ) (t m : ℕ) → Held F s xs → t ≤ s.depth → s.size ≤ m → ((i : ℕ) → i < m → column (ring_of F) t i (runs F s.width xs) ≡ pzero (ring_of F)) → Reads F out (pzero (ring_of F)) → Decides (ring_of F) s.degree t (runs F s.width xs) (suc s.degree) (poly F out)
  nowhere s xs out t m h ht hm before r =
      subst (Decides (ring_of F) s.degree t (runs F s.width xs) (suc s.degree)) (sym r.is)
      (decides_none (ring_of F) s.degree t (runs F s.width xs)
      (λ i. elim (dec_lt i m) [ yes l ↦ before i l | no l ↦ column_past (ring_of F) s.size s.depth t i (runs F s.width xs) h.fits ht (omega arith) ]))

  abbrev pub zeros : ℕ → List ℕ
  zeros m = replicate m 0

  -- the first numbers of zeros were lent, and came back as last
  lent_zeros : (n m : ℕ) (last : List ℕ) (k : ℕ) → length last ≡ n → get_or (put_mid 0 n (zeros m) last) k 0 ≡ get_or last k 0
  lent_zeros n m last k l = go (dec_lt k n)
    where
      none : (j : ℕ) → get_or (zeros m) j 0 ≡ 0
      none j =
          elim (dec_lt j m) [
            | yes h ↦ get_or-replicate m j 0 0 h
            | no h ↦ past F (zeros m) j (let r = (let y : length (zeros m) ≡ m = length-replicate m 0 in y) in omega arith)
          ]

      go : Dec (k < n) → get_or (put_mid 0 n (zeros m) last) k 0 ≡ get_or last k 0
      go (yes h) = get_or_append_left last (drop n (zeros m)) 0 k (omega arith)
      go (no h) =
          ap (λ (j : ℕ). get_or (last ++ drop n (zeros m)) j 0) (let q : k ≡ length last + (k - n) = omega arith in q)
          ∙ get_or-append-add last (drop n (zeros m)) (k - n) 0 ∙ get_or-drop n (zeros m) (k - n) 0 ∙ none (n + (k - n)) ∙ sym (past F last k (omega arith))

  pub lent_length : (n m : ℕ) (last : List ℕ) → length last ≡ n → n ≤ m → length (put_mid 0 n (zeros m) last) ≡ m
  lent_length n m last l le =
      length-append last (drop n (zeros m)) ∙ (let d = (let y : length (drop n (zeros m)) ≡ length (zeros m) - n = length-drop n (zeros m) in y) in let r = (let y : length (zeros m) ≡ m = length-replicate m 0 in y) in omega arith)

  pub lent_all : (n m : ℕ) (last : List ℕ) → length last ≡ n → AllBelow F.q last → AllBelow F.q (put_mid 0 n (zeros m) last)
  lent_all n m last l a k u = subst (λ z. z < F.q) (sym (lent_zeros n m last k l)) (all_at F last a k)

  pub lent_decides : (ℓ t : ℕ) (T : ℕ → ℕ → Element F) (n m : ℕ) (xs : List ℕ) → length xs ≡ n → n ≡ suc ℓ → n ≤ m → Decides (ring_of F) ℓ t T (suc ℓ) (poly F xs) → Decides (ring_of F) ℓ t T m (poly F (put_mid 0 n (zeros m) xs))
  lent_decides ℓ t T n m xs l en le d =
      let p : poly F (put_mid 0 n (zeros m) xs) ≡ poly F xs = fun_ext (λ k. poly_at F (put_mid 0 n (zeros m) xs) k ∙ ap (elem F) (lent_zeros n m xs k l) ∙ sym (poly_at F xs k)) in
      let more : (e : Element F) → at (ring_of F) e m (poly F (put_mid 0 n (zeros m) xs)) ≡ at (ring_of F) e (suc ℓ) (poly F xs) =
      λ e. ap (at (ring_of F) e m) p ∙ ev_more (ring_of F) (ring_of F) (λ x. x) (id_hom (ring_of F)) e (suc ℓ) m (poly F xs) (λ i k. poly_past F xs i (omega arith)) (omega arith) in
      record { roots = λ e a. more e ∙ d.roots e a; allowed = λ e z. d.allowed e (sym (more e) ∙ z) }
