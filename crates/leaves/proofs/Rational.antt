-- Rational reconstruction from the digits, in this order: zeros after a polynomial, the pair of the row at which Euclid's algorithm stops, how many coefficients it has, and
-- the leaf of the theory that it is.
use Rattle.std.proofs.Common.{◌≡◌, ℕ, zero, suc, ◌+◌, ◌-◌, ◌<◌, ◌≤◌, ◌≢◌, List, ◌++◌, length, get_or, take, drop, replicate, sym, refl, ap, ◌∙◌, subst, ap₂, add-one, arith, length-take}
use mathlib.Core.Path.{fun_ext}
use native.Mathlib.Decide.{dec_lt}
use Rattle.std.proofs.lemmas.List.{get_or_append_left, get_or-append_right, get_or-drop, get_or-take}
use Rattle.algebra.specs.RingLaws as L
use Rattle.algebra.specs.Poly.{conv, const, scale, pneg, pzero, Below, Degree}
use Rattle.algebra.specs.PolyRing.{Poly, const_conv}
use Rattle.algebra.specs.Taylor.{form}
use Rattle.algebra.specs.Coprime.{Coprime}
use Rattle.algebra.proofs.Eval.{below_neg}
use Rattle.algebra.proofs.Coprime.{coprime_sym, coprime_neg, coprime_zero}
use Rattle.decoding.specs.Walk.{LeafRows, Leaf}
use Rattle.decoding.proofs.Reconstruct.{row_b, row_coprime}
use Rattle.fields.specs.Numbers.{Numbers, AllBelow, Element, elem, pos, minus, times, ring_of, field_of, elem_neg, elem_inj}
use Rattle.polynomials.specs.Series.{poly, Reads}
use Rattle.polynomials.proofs.Readings.{all_at, past, poly_past}
use Rattle.stages.specs.Euclid.{Row, Rows, row, two_rows, rows}
use Rattle.stages.specs.Readings.{Stops}
use Rattle.stages.proofs.Euclid.{rows_stop}
use Rattle.basis.specs.declared.euclid.Stop.TheVariants.{Short}
use Rattle.basis.specs.Rows.{limit}
use Rattle.leaves.specs.declared.pairs.Pair.{Pair}
use Rattle.leaves.specs.declared.pairs.Chart.{Chart}
use Rattle.leaves.specs.declared.pairs.Chart.TheVariants.{Direct, Turned}
use Rattle.leaves.specs.Order.{arranged}
use Rattle.leaves.specs.Normalised.{Normalised}
use Rattle.leaves.specs.Reached.{Reconstructs, Full, Candidate, RootAt}
use Rattle.leaves.proofs.Horner.{put_front}

pub zeros_at : (m k : ℕ) → get_or {A = ℕ} (replicate m 0) k 0 ≡ 0
zeros_at zero k = refl
zeros_at (suc m) zero = refl
zeros_at (suc m) (suc k) = zeros_at m k

module _ (F : Numbers) where
  joined_at : (ys zs : List ℕ) → ((k : ℕ) → get_or zs k 0 ≡ 0) → (k : ℕ) → get_or (ys ++ zs) k 0 ≡ get_or ys k 0
  joined_at ys zs z k = go (dec_lt k (length ys))
    where
      go : Dec (k < length ys) → get_or (ys ++ zs) k 0 ≡ get_or ys k 0
      go (yes l) = get_or_append_left ys zs 0 k l
      go (no l) =
          get_or-append_right ys zs (length ys) k 0 refl (omega arith) ∙ z (k - length ys) ∙ sym (past F ys k (omega arith))

  -- zeros after a list do not change its polynomial
  pub joined_zeros : (ys zs : List ℕ) {p : ℕ → Element F} → ((k : ℕ) → get_or zs k 0 ≡ 0) → Reads F ys p → Reads F (ys ++ zs) p
  unfolding poly
  joined_zeros ys zs {p} z r =
      record {
        below = λ k _. subst (λ (n : ℕ). n < F.q) (sym (joined_at ys zs z k)) (all_at F ys r.below k);
        is = fun_ext (λ k. ap (elem F) (joined_at ys zs z k)) ∙ r.is;
      }

  -- nor does a cut past its coefficients
  pub cut_is : (n : ℕ) (xs : List ℕ) → Below (ring_of F) n (poly F xs) → poly F (take n xs) ≡ poly F xs
  unfolding poly
  cut_is n xs b = fun_ext (λ k. go k (dec_lt k n))
    where
      go : (k : ℕ) → Dec (k < n) → elem F (get_or (take n xs) k 0) ≡ elem F (get_or xs k 0)
      go k (yes l) = ap (elem F) (get_or-take n xs k 0 l)
      go k (no l) = ap (elem F) (past F (take n xs) k (let e = length-take n xs in omega arith)) ∙ sym (b k (omega arith))

  -- the last number of a list that reads as a shorter one
  last_zero : (s ds : List ℕ) → Reads F s (poly F ds) → get_or s (length ds) 0 ≡ 0
  unfolding poly
  last_zero s ds r =
      elem_inj F (get_or s (length ds) 0) 0 (all_at F s r.below (length ds)) (pos F)
      (ap (λ (f : ℕ → Element F). f (length ds)) r.is ∙ poly_past F ds (length ds) (omega arith))

  stopped_at : (w₁ w₂ : ℕ) (ds s : List ℕ) → length ds ≡ suc (w₁ + w₂) → length s ≡ length ds + 1 → Reads F s (poly F ds)
      → Stops F (λ _. suc w₂) (suc (w₁ + w₂)) (poly F ds) (rows F (limit (Short (w₂ + 1))) (length s - 1) s)
  stopped_at w₁ w₂ ds s l k r =
      let D : ℕ = suc (w₁ + w₂) in
      let e : length s - 1 ≡ D = omega arith in
      subst (λ (φ : ℕ → Element F). Stops F (λ _. suc w₂) D φ (rows F (limit (Short (w₂ + 1))) (length s - 1) s)) r.is
      (subst (λ (n : ℕ). Stops F (λ _. suc w₂) D (poly F s) (rows F (λ _. n) (length s - 1) s)) (sym (add-one w₂))
      (subst (λ (n : ℕ). Stops F (λ _. suc w₂) D (poly F s) (rows F (λ _. suc w₂) n s)) (sym e)
      (rows_stop F (λ _. suc w₂) D s r.below (let h : length s ≡ suc D = omega arith in h)
      (ap (λ (n : ℕ). get_or s n 0) (sym l) ∙ last_zero s ds r) (omega arith))))

  negated : (p : ℕ → Element F) → scale (ring_of F) (elem F (F.neg 1)) p ≡ pneg (ring_of F) p
  unfolding scale pneg
  negated p =
      fun_ext (λ n. ap (λ z. times F z (p n)) (elem_neg F 1 F.laws.two) ∙ L.neg_mul (ring_of F) (elem F 1) (p n) ∙ ap (minus F) (L.one_mul (ring_of F) (p n)))

  -- the rows have elements, whatever the size k at which the run stops
  pub stopped_below : (k : ℕ) (ds s pa pb a b : List ℕ) → length s ≡ length ds + 1 → k ≤ length ds → Reads F s (poly F ds)
      → two_rows (row pa pb) (row a b) ≡ rows F (λ _. k) (length s - 1) s → AllBelow F.q b
  stopped_below k ds s pa pb a b l h r e =
      let D : length s - 1 ≡ length ds = omega arith in
      let t = rows_stop F (λ _. k) (length s - 1) s r.below (omega arith) (ap (λ (n : ℕ). get_or s n 0) D ∙ last_zero s ds r) (omega arith) in
      subst (λ (z : Rows). AllBelow F.q z.last.b) (sym e) t.last.b_below

  pub reconstructed : (w₁ w₂ : ℕ) (ds s pa pb a b b' : List ℕ) (c : ℕ) → length ds ≡ suc (w₁ + w₂) → length s ≡ length ds + 1
      → Reads F s (poly F ds) → two_rows (row pa pb) (row a b) ≡ rows F (limit (Short (w₂ + 1))) (length s - 1) s
      → c ≡ F.neg 1 → Reads F b' (scale (ring_of F) (elem F c) (poly F b)) → Reconstructs F w₁ w₂ ds b' a
  reconstructed w₁ w₂ ds s pa pb a b b' c l k r e m n =
      let t = stopped_at w₁ w₂ ds s l k r in
      let u : row a b ≡ (rows F (limit (Short (w₂ + 1))) (length s - 1) s).last = ap (λ (z : Rows). z.last) e in
      record {
        rows = t.stopped;
        first =
            record {
              below = n.below;
              is = n.is ∙ ap (λ (j : ℕ). scale (ring_of F) (elem F j) (poly F b)) m ∙ negated (poly F b)
                  ∙ ap (pneg (ring_of F)) (ap (λ (z : Row). poly F z.b) u ∙ t.last.b_is);
            };
        second =
            record {
              below = subst (λ (z : Row). AllBelow F.q z.a) (sym u) t.last.a_below;
              is = ap (λ (z : Row). poly F z.a) u ∙ t.last.a_is;
            };
      }

  -- the degrees of a leaf's pair
  pub first_below : (w₁ w₂ : ℕ) {φ : ℕ → Element F} (t : LeafRows (ring_of F) w₁ w₂ φ) → Below (ring_of F) (suc w₁) (pneg (ring_of F) t.L.b)
  first_below w₁ w₂ t =
      below_neg (ring_of F) (suc w₁) t.L.b
      (λ i u. t.rows.b_degree.below i (let v : t.l ≤ w₁ = row_b (field_of F) w₁ w₂ t in omega arith))

  -- the areas of which the first n places were lent
  pub padded : (n m : ℕ) (ys : List ℕ) {p : ℕ → Element F} → Reads F ys p → Reads F (put_front n (replicate m 0) ys) p
  padded n m ys r =
      joined_zeros ys (drop (n - 0) (replicate m 0)) (λ k. get_or-drop (n - 0) (replicate m 0) k 0 ∙ zeros_at m (n - 0 + k)) r

  pub small_is : (w : ℕ) (xs : List ℕ) (p : ℕ → Element F) → Reads F xs p → Below (ring_of F) (suc w) p → Below (ring_of F) (w + 1) (poly F xs)
  small_is w xs p r b i l = ap (λ (f : ℕ → Element F). f i) r.is ∙ b i (omega arith)

  pub candidate_is : (w₁ w₂ : ℕ) (ds f₁ f₂ g₁ g₂ : List ℕ) (p : Pair) (r : Reconstructs F w₁ w₂ ds f₁ f₂) → poly F g₁ ≡ poly F f₁ → poly F g₂ ≡ poly F f₂
      → length p.first ≡ 32 → length p.second ≡ 32 → Reads F p.first (poly F g₁) → Reads F p.second (poly F g₂)
      → Candidate F w₁ w₂ ds p
  candidate_is w₁ w₂ ds f₁ f₂ g₁ g₂ p r s₁ s₂ l₁ l₂ e₁ e₂ =
      record {
        is = record {
          rows = r.rows;
          first = record { below = e₁.below; is = e₁.is ∙ s₁ ∙ r.first.is };
          second = record { below = e₂.below; is = e₂.is ∙ s₂ ∙ r.second.is };
        };
        full = record { first_below = e₁.below; second_below = e₂.below; first_long = l₁; second_long = l₂ };
      }

  -- the check of a pair that is cut past its coefficients
  pub cut_form : (ℓ n : ℕ) (Q : ℕ → ℕ → Element F) (f₁ f₂ : List ℕ) → Below (ring_of F) n (poly F f₁) → Below (ring_of F) n (poly F f₂)
      → form (Poly (ring_of F)) ℓ Q (poly F (take n f₂)) (poly F (take n f₁)) ≡ form (Poly (ring_of F)) ℓ Q (poly F f₂) (poly F f₁)
  cut_form ℓ n Q f₁ f₂ b₁ b₂ = ap₂ (form (Poly (ring_of F)) ℓ Q) (cut_is n f₂ b₂) (cut_is n f₁ b₁)

  pub constant_not : (f : List ℕ) → AllBelow F.q f → (get_or f 0 0 ≡ 0 → ⊥) → poly F f 0 ≡ elem F 0 → ⊥
  unfolding poly
  constant_not f all h z = h (elem_inj F (get_or f 0 0) 0 (all_at F f all 0) (pos F) z)

  pub constant_none : (f : List ℕ) → get_or f 0 0 ≡ 0 → poly F f 0 ≡ elem F 0
  unfolding poly
  constant_none f e = ap (elem F) e

  -- A leaf's pair
  module _ (ℓ w₁ w₂ : ℕ) (Q : ℕ → ℕ → Element F) (ds : List ℕ) (p : Pair) (c : Candidate F w₁ w₂ ds p) where
    T : LeafRows (ring_of F) w₁ w₂ (poly F ds)
    T = c.is.rows

    -- it has a constant coefficient and is a root
    abbrev pub Passes : Type 0
    Passes = (poly F p.first 0 ≡ elem F 0 → ⊥) × (form (Poly (ring_of F)) ℓ Q (poly F p.second) (poly F p.first) ≡ pzero (ring_of F))

    pub leaf_none : (Passes → ⊥) → (f₁ f₂ : ℕ → Element F) → Leaf (ring_of F) ℓ w₁ w₂ Q c.is.rows f₁ f₂ → ⊥
    leaf_none fails f₁ f₂ x =
        fails (
          λ z. x.constant (ap (λ (f : ℕ → Element F). f 0) (sym c.is.first.is) ∙ z),
          ap₂ (form (Poly (ring_of F)) ℓ Q) c.is.second.is c.is.first.is ∙ x.root,
        )

    module _ (y : Passes) where
      scaled : (k : Element F) (f g : List ℕ) (h : ℕ → Element F) → Reads F g (scale (ring_of F) k (poly F f)) → poly F f ≡ h
          → poly F g ≡ conv (ring_of F) (const (ring_of F) k) h
      unfolding scale
      scaled k f g h r e = r.is ∙ ap (scale (ring_of F) k) e ∙ fun_ext (λ n. sym (const_conv (ring_of F) k h n))

      leaf_by : (k : Element F) (g₁ g₂ : List ℕ) → k ≢ elem F 0 → Reads F g₁ (scale (ring_of F) k (poly F p.first))
          → Reads F g₂ (scale (ring_of F) k (poly F p.second)) → Leaf (ring_of F) ℓ w₁ w₂ Q c.is.rows (poly F g₁) (poly F g₂)
      leaf_by k g₁ g₂ nz r₁ r₂ =
          record {
            factor = k;
            factor≢zero = nz;
            first = scaled k p.first g₁ _ r₁ c.is.first.is;
            second = scaled k p.second g₂ _ r₂ c.is.second.is;
            constant = λ z. y.0 (ap (λ (f : ℕ → Element F). f 0) c.is.first.is ∙ z);
            root = ap₂ (form (Poly (ring_of F)) ℓ Q) (sym c.is.second.is) (sym c.is.first.is) ∙ y.1;
          }

      pub leaf_some : (chart : Chart) (g : Pair) → Full F.q g
          → Normalised F (arranged chart p).first (arranged chart p).second g.first g.second → RootAt F chart ℓ w₁ w₂ Q c.is.rows g
      leaf_some Direct g full n =
          record { full = full; leaf = leaf_by n.factor g.first g.second n.factor≢zero n.first n.second; normal = n.normal }
      leaf_some Turned g full n =
          record { full = full; leaf = leaf_by n.factor g.second g.first n.factor≢zero n.second n.first; normal = n.normal }

      b_constant : c.is.rows.L.b 0 ≢ elem F 0
      b_constant z =
          y.0 (ap (λ (f : ℕ → Element F). f 0) c.is.first.is ∙ (unfold pneg in ap (minus F) z ∙ L.neg_zero (ring_of F)))

      constant_alone : poly F p.second ≡ pzero (ring_of F) → Degree (ring_of F) 0 (poly F p.first)
      constant_alone z =
          let t = c.is.rows in
          let co : Coprime (ring_of F) t.L.a (pneg (ring_of F) t.L.b) =
          coprime_sym (ring_of F) (coprime_neg (ring_of F) (row_coprime (field_of F) t.rows b_constant)) in
          subst (Degree (ring_of F) 0) (sym c.is.first.is)
          (coprime_zero (field_of F) (suc w₁) (pneg (ring_of F) t.L.b) (first_below w₁ w₂ t)
          (subst (λ (f : ℕ → Element F). Coprime (ring_of F) f (pneg (ring_of F) t.L.b)) (sym c.is.second.is ∙ z) co))

      -- where the second polynomial is zero the first is a constant
      pub leaf_proper : (chart : Chart) → poly F (arranged chart p).second ≡ pzero (ring_of F) → Degree (ring_of F) 0 (poly F (arranged chart p).first)
      leaf_proper Direct z = constant_alone z
      leaf_proper Turned z = absurd (y.0 (unfold pzero in ap (λ (f : ℕ → Element F). f 0) z))

  pub full_arranged : (chart : Chart) (p : Pair) → Full F.q p → Full F.q (arranged chart p)
  full_arranged Direct p f = f
  full_arranged Turned p f =
      record { first_below = f.second_below; second_below = f.first_below; first_long = f.second_long; second_long = f.first_long }
