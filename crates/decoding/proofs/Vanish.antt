-- The root theorem: a pair (f₁, f₂) through many points at which a homogeneous Q has roots of multiplicity s makes Q vanish. In this order: orders of
-- forms; at one point, for a finite and for an infinite ratio; bounds of the terms; the theorem by multiplicities (root), and by degrees (root_of_pair).
use mathlib.Core.Path.{◌≡◌, sym, ◌∙◌, ap, ap₂}
use mathlib.Core.List.{[], ◌∷◌}
use mathlib.Core.Logic.{◌≢◌}
use Prim.Native.Nat.{ℕ, zero, suc, ◌+◌, ◌-◌, ◌*◌, ◌≤◌, ◌<◌}
use native.Mathlib.Decide.{ℕ_discrete, dec_le}
use native.Mathlib.Nat.{mul-le-mul_right}
use native.Mathlib.Omega.{arith}
use Rattle.algebra.specs.Ring.{Ring}
use Rattle.algebra.specs.RingLaws as L
use Rattle.algebra.specs.Solve.{ring}
use Rattle.algebra.specs.Field.{Field}
use Rattle.algebra.specs.Sums.{sum, pow, total}
use Rattle.algebra.specs.Poly.{conv, padd, pneg, pzero, const, ev, Below, Order}
use Rattle.algebra.specs.PolyRing.{Poly, const_conv, zero_conv}
use Rattle.algebra.specs.PolyForms.{forms}
use Rattle.algebra.specs.Taylor.{shift, tay, taylor, form}
use Rattle.algebra.proofs.Sums.{sum_cong, sum_zero, sum_reverse}
use Rattle.algebra.proofs.Eval.{below_zero, below_const, below_conv, order_conv}
use Rattle.algebra.proofs.Roots.{no_divisors}
use Rattle.algebra.proofs.Shift.{const_hom}
use Rattle.algebra.proofs.Multiple.{shift_at_zero, too_many_roots}
use Rattle.algebra.proofs.Taylor.{star, shift_taylor, tay_hom}
use Rattle.algebra.proofs.PolySums.{sum_coefficient, sum_below}
use Rattle.algebra.proofs.Homogeneous.{form_swap}
use Rattle.algebra.proofs.Shifted.{shifted_of, shifted_at, shifted_form}
use Rattle.decoding.specs.Multiplicity.{Slope, finite, infinite, expansion, functional, Multiplicity, Through, slope}

module _ (R : Ring) where
  infixl 60 ◌⊕◌
  infixl 70 ◌⊗◌
  infix 80 ⊖◌
  open R use {El, 𝟘, 𝟙, ◌⊕◌, ⊖◌, ◌⊗◌}

  order_sum : (s n : ℕ) (f : ℕ → ℕ → El) → ((i : ℕ) → i < n → Order R s (f i)) → Order R s (sum (Poly R) n f)
  order_sum s n f h i k = sum_coefficient R n f i ∙ sum_zero R n (λ m. f m i) (λ m l. h m l i k)

  order_pow : (g : ℕ → El) → Order R 1 g → (n : ℕ) → Order R n (pow (Poly R) g n)
  unfolding pow
  order_pow g h zero i k = absurd (let z : i < 0 = k in omega arith)
  order_pow g h (suc n) i k = order_conv R 1 n g (pow (Poly R) g n) h (order_pow g h n) i (omega arith)

  -- T_b of order s - b, at a w of order 1
  form_order : (s ℓ : ℕ) (T : ℕ → ℕ → El) (w v : ℕ → El) → ((i b : ℕ) → i + b < s → T b i ≡ 𝟘) → Order R 1 w
      → Order R s (form (Poly R) ℓ T w v)
  unfolding form
  form_order s ℓ T w v hT hw =
      order_sum s (suc ℓ) (λ b. conv R (T b) (conv R (pow (Poly R) w b) (pow (Poly R) v (ℓ - b))))
      (λ b k i l.
      order_conv R (s - b) (b + 0) (T b) (conv R (pow (Poly R) w b) (pow (Poly R) v (ℓ - b)))
      (λ j u. hT j b (omega arith))
      (order_conv R b 0 (pow (Poly R) w b) (pow (Poly R) v (ℓ - b)) (order_pow w hw b) (λ j u. absurd (let z : j < 0 = u in omega arith)))
      i (omega arith))

  -- a coefficient of T_b (β)
  taylor_const : (n : ℕ) (β : El) (Q : ℕ → ℕ → El) (b i : ℕ)
      → taylor (Poly R) n (const R β) Q b i ≡ sum R n (λ t. tay R β t b ⊗ Q t i)
  unfolding taylor
  taylor_const n β Q b i =
      sum_coefficient R n (λ t. conv R (tay (Poly R) (const R β) t b) (Q t)) i
      ∙ sum_cong R n (λ t. conv R (tay (Poly R) (const R β) t b) (Q t) i) (λ t. tay R β t b ⊗ Q t i)
      (λ t _.
      ap (λ z. conv R z (Q t) i) (tay_hom R (Poly R) (const R) (const_hom R) β t b)
      ∙ const_conv R (tay R β t b) (Q t) i)

  -- at the point 0, for y / z = β
  at_finite : (s ℓ : ℕ) (β : El) (Q : ℕ → ℕ → El) (y z : ℕ → El)
      → ((i b : ℕ) → i + b < s → sum R (suc ℓ) (λ t. tay R β t b ⊗ Q t i) ≡ 𝟘) → y 0 ≡ β ⊗ z 0
      → Order R s (form (Poly R) ℓ Q y z)
  at_finite s ℓ β Q y z h e i k =
      let w : ℕ → El = padd R y (pneg R (conv R (const R β) z)) in
      ap (λ (f : ℕ → El). f i)
      (ap (λ f. form (Poly R) ℓ Q f z) (ring (Poly R) (y ∷ conv R (const R β) z ∷ []) (search forms depth 20) tt)
      ∙ star (Poly R) (const R β) z w ℓ Q)
      ∙ form_order s ℓ (taylor (Poly R) (suc ℓ) (const R β) Q) w z
      (λ j b l. taylor_const (suc ℓ) β Q b j ∙ h j b l) first i k
    where
      first : Order R 1 (padd R y (pneg R (conv R (const R β) z)))
      first zero k =
          unfold padd pneg in ap₂ (λ u v. u ⊕ ⊖ v) e (const_conv R β z 0) ∙ R.add_neg (β ⊗ z 0)
      first (suc j) k = absurd (let z : suc (suc j) ≤ 1 = k in omega arith)

  at_infinite : (s ℓ : ℕ) (Q : ℕ → ℕ → El) (y z : ℕ → El)
      → ((i b : ℕ) → i + b < s → sum R (suc ℓ) (λ t. tay R 𝟘 (ℓ - t) b ⊗ Q t i) ≡ 𝟘) → z 0 ≡ 𝟘
      → Order R s (form (Poly R) ℓ Q y z)
  at_infinite s ℓ Q y z h e i k =
      ap (λ (f : ℕ → El). f i) (sym (form_swap (Poly R) ℓ Q y z))
      ∙ at_finite s ℓ 𝟘 (λ t. Q (ℓ - t)) z y
      (λ j b l. turned j b ∙ h j b l) (e ∙ sym (L.zero_mul R (y 0))) i k
    where
      turned : (j b : ℕ) → sum R (suc ℓ) (λ t. tay R 𝟘 t b ⊗ Q (ℓ - t) j) ≡ sum R (suc ℓ) (λ t. tay R 𝟘 (ℓ - t) b ⊗ Q t j)
      turned j b =
          sum_cong R (suc ℓ) (λ t. tay R 𝟘 t b ⊗ Q (ℓ - t) j)
          (λ t. tay R 𝟘 (ℓ - (suc ℓ - suc t)) b ⊗ Q (suc ℓ - suc t) j)
          (λ t k.
          ap₂ (λ m n. tay R 𝟘 m b ⊗ Q n j) (let e : t ≡ ℓ - (suc ℓ - suc t) = omega arith in e)
          (let e : ℓ - t ≡ suc ℓ - suc t = omega arith in e))
          ∙ sum_reverse R (suc ℓ) (λ t. tay R 𝟘 (ℓ - t) b ⊗ Q t j)

  -- a coefficient of the shifted Q is a functional
  functional_shift : (ℓ n : ℕ) (α : El) (c : ℕ → El) (a : ℕ) (Q : ℕ → ℕ → El)
      → sum R (suc ℓ) (λ t. c t ⊗ shift R α n (Q t) a) ≡ functional R ℓ n α c a Q
  unfolding functional
  functional_shift ℓ n α c a Q =
      sum_cong R (suc ℓ) (λ t. c t ⊗ shift R α n (Q t) a) (λ t. c t ⊗ taylor R n α (Q t) a)
      (λ t _. ap (λ z. c t ⊗ z) (shift_taylor R α n (Q t) a))

  module _ (s ℓ n n₁ n₂ : ℕ) (α : El) (Q : ℕ → ℕ → El) (f₁ f₂ : ℕ → El) where
    -- a pair through a root of multiplicity s makes Q vanish to the order s
    pub meets : (σ : Slope El) → ((t : ℕ) → t ≤ ℓ → Below R n (Q t)) → Below R n₁ f₁ → Below R n₂ f₂
        → Multiplicity R s ℓ n α σ Q → Through R σ (ev R (λ x. x) α n₁ f₁) (ev R (λ x. x) α n₂ f₂)
        → (m : ℕ) → Below R m (form (Poly R) ℓ Q f₂ f₁) → Order R s (shift R α m (form (Poly R) ℓ Q f₂ f₁))
    unfolding expansion
    meets σ hQ h₁ h₂ mult thru m hm i k =
        ap (λ (f : ℕ → El). f i)
        (shifted_at R α m
        (shifted_form R α ℓ Q (λ t. shift R α n (Q t)) (λ t l. shifted_of R α n (Q t) (hQ t l)) (shifted_of R α n₂ f₂ h₂) (shifted_of R α n₁ f₁ h₁))
        hm)
        ∙ go σ mult thru i k
      where
        go : (σ : Slope El) → Multiplicity R s ℓ n α σ Q → Through R σ (ev R (λ x. x) α n₁ f₁) (ev R (λ x. x) α n₂ f₂)
            → Order R s (form (Poly R) ℓ (λ t. shift R α n (Q t)) (shift R α n₂ f₂) (shift R α n₁ f₁))
        go (finite β) h e =
            at_finite s ℓ β (λ t. shift R α n (Q t)) (shift R α n₂ f₂) (shift R α n₁ f₁)
            (λ a b l. functional_shift ℓ n α (λ t. tay R β t b) a Q ∙ h a b l)
            (shift_at_zero R α n₂ f₂ ∙ e ∙ ap (λ z. β ⊗ z) (sym (shift_at_zero R α n₁ f₁)))
        go infinite h e =
            at_infinite s ℓ (λ t. shift R α n (Q t)) (shift R α n₂ f₂) (shift R α n₁ f₁)
            (λ a b l. functional_shift ℓ n α (λ t. tay R 𝟘 (ℓ - t) b) a Q ∙ h a b l)
            (shift_at_zero R α n₁ f₁ ∙ e)

  -- the term t of Q at the pair
  abbrev pub term : ℕ → (ℕ → ℕ → El) → (ℕ → El) → (ℕ → El) → ℕ → ℕ → El
  term ℓ Q f₁ f₂ t = conv R (Q t) (conv R (pow (Poly R) f₂ t) (pow (Poly R) f₁ (ℓ - t)))

  pub form_below : (d ℓ : ℕ) (Q : ℕ → ℕ → El) (f₁ f₂ : ℕ → El) → ((t : ℕ) → t ≤ ℓ → Below R d (term ℓ Q f₁ f₂ t))
      → Below R d (form (Poly R) ℓ Q f₂ f₁)
  unfolding form
  form_below d ℓ Q f₁ f₂ h = sum_below R (suc ℓ) d (term ℓ Q f₁ f₂) (λ t k. h t (omega arith))

  -- the number of its coefficients
  product_below : (B W d m : ℕ) (q g : ℕ → El) → ((i : ℕ) → B ≤ i + W → q i ≡ 𝟘) → Below R (suc d) g → B + d ≤ m + W
      → Below R m (conv R q g)
  product_below B W d m q g hq hg l i k = go (dec_le B W)
    where
      go : Dec (B ≤ W) → conv R q g i ≡ 𝟘
      go (yes u) = ap (λ z. conv R z g i) (below_zero R q (λ j _. hq j (omega arith))) ∙ zero_conv R g i
      go (no u) = below_conv R (B - W) (suc d) q g (λ j v. hq j (omega arith)) hg i (omega arith)

  zero_right : (p q : ℕ → El) → Below R 0 q → (i : ℕ) → conv R p q i ≡ 𝟘
  unfolding pzero
  zero_right p q h i = ap (λ z. conv R p z i) (below_zero R q h) ∙ ap (λ (f : ℕ → El). f i) (L.mul_zero (Poly R) p)

  -- The same for bounds x + 1 - y, which say that the polynomial is zero where x < y
  cut_conv : (x y x' y' : ℕ) (p q : ℕ → El) → Below R (suc x - y) p → Below R (suc x' - y') q
      → Below R (suc (x + x') - (y + y')) (conv R p q)
  cut_conv x y x' y' p q hp hq i k = go (dec_le y x) (dec_le y' x')
    where
      go : Dec (y ≤ x) → Dec (y' ≤ x') → conv R p q i ≡ 𝟘
      go (yes u) (yes v) = below_conv R (suc x - y) (suc x' - y') p q hp hq i (omega arith)
      go (yes u) (no v) = zero_right p q (λ j _. hq j (omega arith)) i
      go (no u) d = ap (λ z. conv R z q i) (below_zero R p (λ j _. hp j (omega arith))) ∙ zero_conv R q i

  cut_pow : (w h : ℕ) (f : ℕ → El) → Below R (suc w - h) f → (n : ℕ) → Below R (suc (n * w) - n * h) (pow (Poly R) f n)
  unfolding pow
  cut_pow w h f b zero i k = below_const R 𝟙 i (omega arith)
  cut_pow w h f b (suc n) i k = cut_conv w h (n * w) (n * h) f (pow (Poly R) f n) b (cut_pow w h f b n) i (omega arith)

  cut_product : (B W x y m : ℕ) (q g : ℕ → El) → ((i : ℕ) → B ≤ i + W → q i ≡ 𝟘) → Below R (suc x - y) g → B + x ≤ m + W + y
      → Below R m (conv R q g)
  cut_product B W x y m q g hq hg l i k = go (dec_le y x)
    where
      go : Dec (y ≤ x) → conv R q g i ≡ 𝟘
      go (yes u) = product_below B W (x - y) m q g hq (λ j v. hg j (omega arith)) (omega arith) i k
      go (no u) = zero_right q g (λ j _. hg j (omega arith)) i

module _ (𝓕 : Field) where
  infixl 60 ◌⊕◌
  infixl 70 ◌⊗◌
  infix 80 ⊖◌
  abbrev R : Ring
  R = 𝓕.ring

  open 𝓕.ring use {El, 𝟘, 𝟙, ◌⊕◌, ⊖◌, ◌⊗◌}

  -- the ratio of a pair of values from the equation of the point (y : z)
  pub through : (y z v₁ v₂ : El) → (z ≡ 𝟘 → y ≢ 𝟘) → v₁ ⊗ y ≡ v₂ ⊗ z → Through R (slope 𝓕 y z) v₁ v₂
  through y z v₁ v₂ ne e = go (𝓕.equal z 𝟘)
    where
      go : (d : Dec (z ≡ 𝟘)) → Through R (elim d [ yes _ ↦ infinite | no _ ↦ finite (y ⊗ 𝓕.inv z) ]) v₁ v₂
      go (yes p) = no_divisors 𝓕 y v₁ (R.mul_comm y v₁ ∙ e ∙ ap (λ u. v₂ ⊗ u) p ∙ L.mul_zero R v₂) (ne p)
      go (no p) =
          sym (R.mul_one v₂) ∙ ap (λ u. v₂ ⊗ u) (sym (𝓕.mul_inv z p)) ∙ sym (R.mul_assoc v₂ z (𝓕.inv z))
          ∙ ap (λ u. u ⊗ 𝓕.inv z) (sym e) ∙ ring R (v₁ ∷ y ∷ 𝓕.inv z ∷ []) (search forms depth 20) tt

  -- The theorem: at the place i the multiplicity is m i (0 where the pair need not go through the point), and no term has
  -- more coefficients than those multiplicities sum to
  pub root : (ℓ n n₁ n₂ k : ℕ) (m : ℕ → ℕ) (α : ℕ → El) (σ : ℕ → Slope El) (Q : ℕ → ℕ → El) (f₁ f₂ : ℕ → El)
      → ((i j : ℕ) → i < j → j < k → α i ≢ α j)
      → ((t : ℕ) → t ≤ ℓ → Below R n (Q t)) → Below R n₁ f₁ → Below R n₂ f₂
      → ((i : ℕ) → i < k → Multiplicity R (m i) ℓ n (α i) (σ i) Q)
      → ((i : ℕ) → i < k → 0 < m i → Through R (σ i) (ev R (λ x. x) (α i) n₁ f₁) (ev R (λ x. x) (α i) n₂ f₂))
      → ((t : ℕ) → t ≤ ℓ → Below R (total k m) (term R ℓ Q f₁ f₂ t))
      → form (Poly R) ℓ Q f₂ f₁ ≡ pzero R
  root ℓ n n₁ n₂ k m α σ Q f₁ f₂ apart hQ h₁ h₂ mult thru terms =
      too_many_roots 𝓕 α m k apart (total k m) (form (Poly R) ℓ Q f₂ f₁) (omega arith) short
      (λ i l. vanish i l (dec_le 1 (m i)))
    where
      short : Below R (total k m) (form (Poly R) ℓ Q f₂ f₁)
      short = form_below R (total k m) ℓ Q f₁ f₂ terms

      vanish : (i : ℕ) → i < k → Dec (1 ≤ m i) → Order R (m i) (shift R (α i) (total k m) (form (Poly R) ℓ Q f₂ f₁))
      vanish i l (yes p) j u = meets R (m i) ℓ n n₁ n₂ (α i) Q f₁ f₂ (σ i) hQ h₁ h₂ (mult i l) (thru i l p) (total k m) short j u
      vanish i l (no p) j u = absurd (let z : j < m i = u in omega arith)

  total_times : (s k : ℕ) (χ : ℕ → ℕ) → total k (λ i. χ i * s) ≡ total k χ * s
  unfolding total
  total_times s zero χ = omega arith
  total_times s (suc k) χ =
      ap (λ (z : ℕ). z + χ k * s) (total_times s k χ) ∙ (let e : total k χ * s + χ k * s ≡ (total k χ + χ k) * s = omega arith in e)

  -- The same by the degrees, for a pair that goes through the points where χ i = 1, and falls short of the weights by h:
  -- deg f₁ ≤ w₁ - h and deg f₂ ≤ w₂ - h (zero where that is negative), where B = s (ε + h), ε = Σ χ i, and s ≤ ℓ
  pub root_of_pair : (ℓ s n h w₁ w₂ : ℕ) (χ : ℕ → ℕ) (α y z : ℕ → El) (Q : ℕ → ℕ → El) (f₁ f₂ : ℕ → El)
      → s ≤ ℓ
      → ((i j : ℕ) → i < j → j < n → α i ≢ α j)
      → ((i : ℕ) → i < n → z i ≡ 𝟘 → y i ≢ 𝟘)
      → ((t m : ℕ) → t ≤ ℓ → s * (total n χ + h) ≤ m + (t * w₂ + (ℓ - t) * w₁) → Q t m ≡ 𝟘)
      → Below R (suc w₁ - h) f₁ → Below R (suc w₂ - h) f₂
      → ((i : ℕ) → i < n → Multiplicity R s ℓ (s * (total n χ + h)) (α i) (slope 𝓕 (y i) (z i)) Q)
      → ((i : ℕ) → i < n → χ i ≤ 1)
      → ((i : ℕ) → i < n → χ i ≡ 1 → ev R (λ x. x) (α i) (suc w₁) f₁ ⊗ y i ≡ ev R (λ x. x) (α i) (suc w₂) f₂ ⊗ z i)
      → form (Poly R) ℓ Q f₂ f₁ ≡ pzero R
  root_of_pair ℓ s n h w₁ w₂ χ α y z Q f₁ f₂ le apart point hQ h₁ h₂ mult most meet =
      root ℓ (s * (total n χ + h)) (suc w₁) (suc w₂) n (λ i. χ i * s) α (λ i. slope 𝓕 (y i) (z i)) Q f₁ f₂ apart
      (λ t l m u. hQ t m l (let v : s * (total n χ + h) ≤ m = u in omega arith)) (λ i k. h₁ i (omega arith)) (λ i k. h₂ i (omega arith))
      (λ i l a b k. mult i l a b (less i l (a + b) k))
      (λ i l k. through (y i) (z i) (ev R (λ x. x) (α i) (suc w₁) f₁) (ev R (λ x. x) (α i) (suc w₂) f₂) (point i l) (meet i l (chosen i l k)))
      (λ t l.
      cut_product R (s * (total n χ + h)) (t * w₂ + (ℓ - t) * w₁) (t * w₂ + (ℓ - t) * w₁) (t * h + (ℓ - t) * h) (total n (λ i. χ i * s)) (Q t)
      (conv R (pow (Poly R) f₂ t) (pow (Poly R) f₁ (ℓ - t))) (λ m u. hQ t m l u)
      (cut_conv R (t * w₂) (t * h) ((ℓ - t) * w₁) ((ℓ - t) * h) (pow (Poly R) f₂ t) (pow (Poly R) f₁ (ℓ - t)) (cut_pow R w₂ h f₂ h₂ t)
      (cut_pow R w₁ h f₁ h₁ (ℓ - t)))
      (rw (total_times s n χ) (enough t (ℓ - t) (total n χ) (t * w₂ + (ℓ - t) * w₁) (omega arith))))
    where
      less : (i : ℕ) → i < n → (x : ℕ) → x < χ i * s → x < s
      less i l x k = let u : χ i * s ≤ 1 * s = mul-le-mul_right s (most i l) in omega arith

      chosen : (i : ℕ) → i < n → 0 < χ i * s → χ i ≡ 1
      chosen i l k = go (ℕ_discrete (χ i) 0)
        where
          go : Dec (χ i ≡ 0) → χ i ≡ 1
          go (yes q) = absurd (let u : χ i * s ≡ 0 * s = ap (λ (x : ℕ). x * s) q in omega arith)
          go (no q) = let u : χ i ≤ 1 = most i l in omega arith

      enough : (t d ε W : ℕ) → t + d ≡ ℓ → s * (ε + h) + W ≤ ε * s + W + (t * h + d * h)
      enough t d ε W e =
          let u : s * h ≤ ℓ * h = mul-le-mul_right h le in
          let v : (t + d) * h ≡ ℓ * h = ap (λ (x : ℕ). x * h) e in
          omega arith
