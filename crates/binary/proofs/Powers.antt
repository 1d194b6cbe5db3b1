-- The powers of x in a binary field, and the laws of the product by exponents.
-- In order: the place of a number in a list, the test that a list holds every number below a bound, the list of the powers of x, the
-- record `Primitive` of what is computed once per field (x runs through all elements other than 0), and from it the laws of `times`,
-- the product that adds exponents.
use mathlib.Core.Path.{◌≡◌, refl, sym, ◌∙◌, ap, ap₂, subst}
use mathlib.Core.Logic.{◌≢◌, ◌⊎◌, inl, inr}
use mathlib.Core.List.{List, [], ◌∷◌}
use mathlib.Core.Bool.{Bool, true, false}
use Prim.Native.Nat.{ℕ, zero, suc, ◌+◌, ◌-◌, ◌*◌, ◌/◌, ◌%◌, ◌^◌, ◌<◌}
use native.Mathlib.Decide.{ℕ_discrete, dec_lt}
use native.Mathlib.Omega.{arith}
use native.Mathlib.Nat.{add_comm, zero-mul, one-mul, mod-lt, mod-add-div, div-eq_of_lt, pow-suc, mul-div_cancel, div-eq_of_lt-le}
use lib.Dec.{T, eqb, eqb→eq, eqb_refl}
use lib.ListN.{length, get_or}
use lib.Pow.{pow_pos, pow-lt, pow-add}
use lib.Bits.{bit_or, or_shr, or_mod, bit_xor, xor_lt}
use Rattle.binary.proofs.Doubling.{bit_cases, double, doubles, double_zero, double_lt, doubles_lt, doubles_xor, doubles_zero, doubles_add, doubles_swap, doubles_after}

-- the place of a number in a list
abbrev pub find : ℕ → List ℕ → ℕ
find a [] = 0
find a (b ∷ bs) = elim (eqb a b) [ true ↦ 0 | false ↦ suc (find a bs) ]

abbrev pub occurs : List ℕ → ℕ → Bool
occurs [] a = false
occurs (b ∷ bs) a = elim (eqb a b) [ true ↦ true | false ↦ occurs bs a ]

-- a bit set for 0 and for each number of the list: that all numbers below a bound occur is then one comparison
abbrev pub marks : List ℕ → ℕ
marks [] = 1
marks (b ∷ bs) = bit_or (2 ^ b) (marks bs)

found : (a : ℕ) (l : List ℕ) → T (occurs l a) → (find a l < length l) × (get_or l (find a l) 0 ≡ a)
found a [] t = absurd t
found a (b ∷ bs) t = go (eqb a b) refl t (found a bs)
  where
    go : (c : Bool) → eqb a b ≡ c → T (elim c [ true ↦ true | false ↦ occurs bs a ])
        → (T (occurs bs a) → (find a bs < length bs) × (get_or bs (find a bs) 0 ≡ a))
        → ((elim c [ true ↦ 0 | false ↦ suc (find a bs) ]) < length (b ∷ bs))
        × (get_or (b ∷ bs) (elim c [ true ↦ 0 | false ↦ suc (find a bs) ]) 0 ≡ a)
    go true e u ih = (omega arith, sym (eqb→eq a b (subst T (sym e) tt)))
    go false e u ih = (let h : find a bs < length bs = (ih u).0 in omega arith, (ih u).1)

-- the bits of 2 ^ b, and of 2 ^ k - 1
bit_pow : (a b : ℕ) → a ≢ b → 2 ^ b / 2 ^ a % 2 ≡ 0
bit_pow a b k = go (dec_lt b a)
  where
    go : Dec (b < a) → 2 ^ b / 2 ^ a % 2 ≡ 0
    go (yes l) = ap (λ (z : ℕ). z % 2) (div-eq_of_lt (pow-lt l))
    go (no l) =
        let j : ℕ = b - suc a in
        let e : b ≡ suc j + a = omega arith in
        let f : 2 ^ suc j ≡ 2 ^ j * 2 = pow-suc 2 j in
        ap (λ (z : ℕ). z / 2 ^ a % 2) (ap (λ (z : ℕ). 2 ^ z) e ∙ pow-add 2 (suc j) a)
        ∙ ap (λ (z : ℕ). z % 2) (mul-div_cancel (2 ^ suc j) (pow_pos a))
        ∙ omega arith

less_one : (x y : ℕ) → 0 < x → (suc y * x - 1) / x ≡ y
less_one x y h = div-eq_of_lt-le x (omega arith) (omega arith)

bit_ones : (a k : ℕ) → a < k → (2 ^ k - 1) / 2 ^ a % 2 ≡ 1
bit_ones a k l =
    let j : ℕ = k - suc a in
    let p : ℕ = 2 ^ j in
    let hp : 0 < p = pow_pos j in
    let e : k ≡ suc j + a = omega arith in
    let f : 2 ^ suc j ≡ p * 2 = pow-suc 2 j in
    let y : ℕ = p * 2 - 1 in
    let g : 2 ^ k ≡ suc y * 2 ^ a = ap (λ (z : ℕ). 2 ^ z) e ∙ pow-add 2 (suc j) a ∙ ap (λ (z : ℕ). z * 2 ^ a) (let z : 2 ^ suc j ≡ suc y = omega arith in z) in
    ap (λ (z : ℕ). (z - 1) / 2 ^ a % 2) g
    ∙ ap (λ (z : ℕ). z % 2) (less_one (2 ^ a) y (pow_pos a))
    ∙ (let z : y % 2 ≡ 1 = omega arith in z)

bit_of_or : (a x y : ℕ) → bit_or x y / 2 ^ a % 2 ≡ bit_or (x / 2 ^ a % 2) (y / 2 ^ a % 2)
bit_of_or a x y = ap (λ (z : ℕ). z % 2) (or_shr x y a) ∙ or_mod (x / 2 ^ a) (y / 2 ^ a) 1

marked : (a : ℕ) (l : List ℕ) → a ≢ 0 → marks l / 2 ^ a % 2 ≡ 1 → T (occurs l a)
marked a [] k e = absurd (let z : 1 / 2 ^ a % 2 ≡ 0 = bit_pow a 0 k in omega arith)
marked a (b ∷ bs) k e = go (eqb a b) refl (marked a bs k)
  where
    go : (c : Bool) → eqb a b ≡ c → (marks bs / 2 ^ a % 2 ≡ 1 → T (occurs bs a)) → T (elim c [ true ↦ true | false ↦ occurs bs a ])
    go true q ih = tt
    go false q ih =
        let apart : a ≢ b = λ r. subst T q (subst (λ z. T (eqb a z)) r (eqb_refl a)) in
        ih (sym (bit_of_or a (2 ^ b) (marks bs) ∙ ap (λ (z : ℕ). bit_or z (marks bs / 2 ^ a % 2)) (bit_pow a b apart)) ∙ e)

-- n numbers from a on, each the double of the one before
abbrev pub chain : ℕ → ℕ → ℕ → ℕ → List ℕ
chain w red zero a = []
chain w red (suc n) a = a ∷ chain w red n (double w red a)

-- the powers 1, x, x^2, .. of x, as many as there are elements other than 0
unfoldable pub powers : ℕ → ℕ → List ℕ
powers w red = chain w red (2 ^ suc w - 1) 1

-- what is computed once for a field: red has degree w + 1, the powers of x return to 1, and every number below 2^(w + 1) but 0 is one
pub record Primitive (w red : ℕ) : Type 0 where
  pub monic : red / 2 ^ suc w ≡ 1
  pub returns : T (eqb (doubles w red (2 ^ suc w - 1) 1) 1)
  pub all : T (eqb (marks (powers w red)) (2 ^ (2 ^ suc w) - 1))

chain_length : (w red n a : ℕ) → length (chain w red n a) ≡ n
chain_length w red zero a = refl
chain_length w red (suc n) a = ap suc (chain_length w red n (double w red a))

chain_at : (w red n a i : ℕ) → i < n → get_or (chain w red n a) i 0 ≡ doubles w red i a
unfolding doubles
chain_at w red zero a i h = absurd (let z : i < 0 = h in omega arith)
chain_at w red (suc n) a zero h = refl
chain_at w red (suc n) a (suc i) h = chain_at w red n (double w red a) i (omega arith)

-- the exponent of a: its place among the powers
abbrev pub log : ℕ → ℕ → ℕ → ℕ
log w red a = find a (powers w red)

-- the product through exponents, added modulo the number of powers
abbrev pub times : ℕ → ℕ → ℕ → ℕ → ℕ
times w red zero b = 0
times w red (suc a) zero = 0
times w red (suc a) (suc b) = get_or (powers w red) ((log w red (suc a) + log w red (suc b)) % (2 ^ suc w - 1)) 0

module _ (w red : ℕ) (P : Primitive w red) where
  abbrev D : ℕ → ℕ → ℕ
  D = doubles w red

  abbrev N : ℕ
  N = 2 ^ suc w - 1

  abbrev L : ℕ → ℕ
  L = log w red

  infixl 70 ◌·◌
  abbrev ◌·◌ : ℕ → ℕ → ℕ
  a · b = times w red a b

  pub length_powers : length (powers w red) ≡ N
  unfolding powers
  length_powers = chain_length w red (2 ^ suc w - 1) 1

  occurs_at : (a : ℕ) → a ≢ 0 → a < 2 ^ suc w → T (occurs (powers w red) a)
  occurs_at a k h =
      marked a (powers w red) k
      (ap (λ (z : ℕ). z / 2 ^ a % 2) (eqb→eq (marks (powers w red)) (2 ^ (2 ^ suc w) - 1) P.all) ∙ bit_ones a (2 ^ suc w) h)

  pub log_lt : (a : ℕ) → a ≢ 0 → a < 2 ^ suc w → L a < N
  log_lt a k h = subst (λ (n : ℕ). L a < n) length_powers (found a (powers w red) (occurs_at a k h)).0

  power_at : (i : ℕ) → i < N → get_or (powers w red) i 0 ≡ D i 1
  unfolding powers
  power_at i h = chain_at w red (2 ^ suc w - 1) 1 i h

  turn : D N 1 ≡ 1
  turn = eqb→eq _ _ P.returns

  power_log : (a : ℕ) → a ≢ 0 → a < 2 ^ suc w → D (L a) 1 ≡ a
  power_log a k h = sym (power_at (L a) (log_lt a k h)) ∙ (found a (powers w red) (occurs_at a k h)).1

  pub one_lt : 1 < 2 ^ suc w
  one_lt = let h : 0 < 2 ^ w = pow_pos w in let e : 2 ^ suc w ≡ 2 ^ w * 2 = pow-suc 2 w in omega arith

  some : 0 < N
  some = let h = one_lt in omega arith

  pub turns : (j i : ℕ) → D (i + N * j) 1 ≡ D i 1
  turns zero i = ap (λ k. D k 1) (let e : i + N * 0 ≡ i = omega arith in e)
  turns (suc j) i =
      ap (λ k. D k 1) (let e : i + N * suc j ≡ N + (i + N * j) = omega arith in e) ∙ doubles_add w red N (i + N * j) 1
      ∙ ap (D (i + N * j)) turn ∙ turns j i

  power_mod : (k : ℕ) → get_or (powers w red) (k % N) 0 ≡ D k 1
  power_mod k = power_at (k % N) (mod-lt k some) ∙ sym (turns (k / N) (k % N)) ∙ ap (λ j. D j 1) (mod-add-div k N)

  power_lt : (k : ℕ) → D k 1 < 2 ^ suc w
  power_lt k = doubles_lt w red P.monic k 1 one_lt

  -- the product with a number other than 0 is a number of doublings
  pub times_doubles : (a b : ℕ) → a ≢ 0 → a < 2 ^ suc w → b < 2 ^ suc w → a · b ≡ D (L a) b
  times_doubles zero b k ha hb = absurd (k refl)
  times_doubles (suc a) zero k ha hb = sym (doubles_zero w red (L (suc a)))
  times_doubles (suc a) (suc b) k ha hb =
      power_mod (L (suc a) + L (suc b)) ∙ ap (λ j. D j 1) (add_comm (L (suc a)) (L (suc b)))
      ∙ doubles_add w red (L (suc b)) (L (suc a)) 1
      ∙ ap (D (L (suc a))) (power_log (suc b) (λ (e : suc b ≡ 0). omega arith) hb)

  pub times_zero : (a : ℕ) → a · 0 ≡ 0
  times_zero zero = refl
  times_zero (suc a) = refl

  pub times_lt : (a b : ℕ) → a · b < 2 ^ suc w
  times_lt zero b = pow_pos (suc w)
  times_lt (suc a) zero = pow_pos (suc w)
  times_lt (suc a) (suc b) = subst (λ z. z < 2 ^ suc w) (sym (power_mod (L (suc a) + L (suc b)))) (power_lt (L (suc a) + L (suc b)))

  pub times_comm : (a b : ℕ) → a · b ≡ b · a
  times_comm zero b = sym (times_zero b)
  times_comm (suc a) zero = refl
  times_comm (suc a) (suc b) = ap (λ k. get_or (powers w red) (k % N) 0) (add_comm (L (suc a)) (L (suc b)))

  pub times_assoc : (a b c : ℕ) → a < 2 ^ suc w → b < 2 ^ suc w → c < 2 ^ suc w → (a · b) · c ≡ a · (b · c)
  times_assoc a b c ha hb hc = go (ℕ_discrete a 0) (ℕ_discrete c 0)
    where
      go : Dec (a ≡ 0) → Dec (c ≡ 0) → (a · b) · c ≡ a · (b · c)
      go (yes p) s = rw p refl
      go (no p) (yes q) = rw q (rw (times_zero b) (times_zero (a · b) ∙ sym (times_zero a)))
      go (no p) (no q) =
          times_comm (a · b) c ∙ times_doubles c (a · b) q hc (times_lt a b)
          ∙ ap (D (L c)) (times_doubles a b p ha hb)
          ∙ doubles_swap w red (L c) (L a) b
          ∙ ap (D (L a)) (sym (times_doubles c b q hc hb) ∙ times_comm c b)
          ∙ sym (times_doubles a (b · c) p ha (times_lt b c))

  pub times_one : (a : ℕ) → a < 2 ^ suc w → a · 1 ≡ a
  times_one zero h = refl
  times_one (suc a) h =
      let k : suc a ≢ 0 = λ (e : suc a ≡ 0). omega arith in
      times_doubles (suc a) 1 k h one_lt ∙ power_log (suc a) k h

  pub times_xor : (a b c : ℕ) → a < 2 ^ suc w → b < 2 ^ suc w → c < 2 ^ suc w → a · bit_xor b c ≡ bit_xor (a · b) (a · c)
  times_xor zero b c ha hb hc = refl
  times_xor (suc a) b c ha hb hc =
      let k : suc a ≢ 0 = λ (e : suc a ≡ 0). omega arith in
      times_doubles (suc a) (bit_xor b c) k ha (xor_lt (suc w) b c hb hc)
      ∙ doubles_xor w red (L (suc a)) b c
      ∙ ap₂ bit_xor (sym (times_doubles (suc a) b k ha hb)) (sym (times_doubles (suc a) c k ha hc))

  pub times_double : (a c : ℕ) → a < 2 ^ suc w → c < 2 ^ suc w → a · double w red c ≡ double w red (a · c)
  times_double zero c ha hc = sym (double_zero w red)
  times_double (suc a) c ha hc =
      let k : suc a ≢ 0 = λ (e : suc a ≡ 0). omega arith in
      times_doubles (suc a) (double w red c) k ha (double_lt w red P.monic c hc)
      ∙ sym (doubles_after w red (L (suc a)) c)
      ∙ ap (double w red) (sym (times_doubles (suc a) c k ha hc))

  pub times_bit : (t b : ℕ) → t < 2 → b < 2 ^ suc w → t · b ≡ t * b
  times_bit t b ht hb = go (bit_cases t ht)
    where
      go : (t ≡ 0) ⊎ (t ≡ 1) → t · b ≡ t * b
      go (inl p) = rw p (sym (zero-mul b))
      go (inr p) = rw p (times_comm 1 b ∙ times_one b hb ∙ sym (one-mul b))

  -- the power with the opposite exponent
  abbrev pub opposite : ℕ → ℕ
  opposite a = get_or (powers w red) ((N - L a) % N) 0

  pub opposite_is : (a : ℕ) → opposite a ≡ D (N - L a) 1
  opposite_is a = power_mod (N - L a)

  pub opposite_lt : (a : ℕ) → opposite a < 2 ^ suc w
  opposite_lt a = subst (λ z. z < 2 ^ suc w) (sym (opposite_is a)) (power_lt (N - L a))

  pub times_opposite : (a : ℕ) → a ≢ 0 → a < 2 ^ suc w → a · opposite a ≡ 1
  times_opposite a k h =
      let l : L a < N = log_lt a k h in
      times_doubles a (opposite a) k h (opposite_lt a) ∙ ap (D (L a)) (opposite_is a)
      ∙ sym (doubles_add w red (N - L a) (L a) 1)
      ∙ ap (λ j. D j 1) (let e : N - L a + L a ≡ N = omega arith in e) ∙ turn
