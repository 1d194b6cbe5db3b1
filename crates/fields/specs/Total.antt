-- From operations on elements that obey the laws of a field, to operations on all numbers.
-- In order: an operation made total (0 for an operand that is no element, and 0 for the inverse of 0), what that gives inside and outside
-- of the elements, the laws of the total operations, and the field that they make (`numbers_of`).
use Rattle.std.specs.Prelude.{◌≡◌, refl, Bool, true, false, cond, ◌&&◌, ℕ, ◌<◌, ◌≤◌, ltb}
use Rattle.std.proofs.Common.{sym, ◌∙◌, ap, ap₂, arith, lt-ltb, le-ltb, ltb-true}
use Rattle.fields.specs.Laws.{Laws}
use Rattle.fields.specs.Numbers.{Total, Numbers}

-- f on an element, and 0 else
abbrev pub on_element : ℕ → (ℕ → ℕ) → ℕ → ℕ
on_element q f a = cond (ltb a q) (f a) 0

-- f on an element other than 0, and 0 else
abbrev pub on_nonzero : ℕ → (ℕ → ℕ) → ℕ → ℕ
on_nonzero q f a = cond (ltb 0 a && ltb a q) (f a) 0

-- f on two elements, and 0 else
abbrev pub on_elements : ℕ → (ℕ → ℕ → ℕ) → ℕ → ℕ → ℕ
on_elements q f a b = cond (ltb a q && ltb b q) (f a b) 0

-- a value under two tests
module _ (x : ℕ) where
  taken : (s t : Bool) → s ≡ true → t ≡ true → cond (s && t) x 0 ≡ x
  taken s t e d = ap₂ (λ (s t : Bool). cond (s && t) x 0) e d

  left_fails : (s t : Bool) → s ≡ false → cond (s && t) x 0 ≡ 0
  left_fails s t e = ap (λ (s : Bool). cond (s && t) x 0) e

  right_fails : (s t : Bool) → t ≡ false → cond (s && t) x 0 ≡ 0
  right_fails true t e = ap (λ (t : Bool). cond t x 0) e
  right_fails false t e = refl

  small : (q : ℕ) → 0 < q → (s t : Bool) → (s ≡ true → t ≡ true → x < q) → cond (s && t) x 0 < q
  small q pos true true h = h refl refl
  small q pos true false h = pos
  small q pos false t h = pos

  -- two values that agree where the tests pass
  agree : (y : ℕ) (s t : Bool) → (s ≡ true → t ≡ true → x ≡ y) → cond (s && t) x 0 ≡ cond (s && t) y 0
  agree y true true h = h refl refl
  agree y true false h = refl
  agree y false t h = refl

module _ (q : ℕ) where
  module _ (f : ℕ → ℕ) where
    element_is : (a : ℕ) → a < q → on_element q f a ≡ f a
    element_is a h = ap (λ (t : Bool). cond t (f a) 0) (lt-ltb a q h)

    element_past : (a : ℕ) → q ≤ a → on_element q f a ≡ 0
    element_past a h = ap (λ (t : Bool). cond t (f a) 0) (le-ltb a q h)

    element_below : 0 < q → ((a : ℕ) → a < q → f a < q) → (a : ℕ) → on_element q f a < q
    element_below pos h a = small (f a) q pos true (ltb a q) (λ _ e. h a (ltb-true a q e))

    nonzero_is : (a : ℕ) → 0 < a → a < q → on_nonzero q f a ≡ f a
    nonzero_is a p h = taken (f a) (ltb 0 a) (ltb a q) (lt-ltb 0 a p) (lt-ltb a q h)

    nonzero_past : (a : ℕ) → q ≤ a → on_nonzero q f a ≡ 0
    nonzero_past a h = right_fails (f a) (ltb 0 a) (ltb a q) (le-ltb a q h)

    nonzero_below : 0 < q → ((a : ℕ) → 0 < a → a < q → f a < q) → (a : ℕ) → on_nonzero q f a < q
    nonzero_below pos h a = small (f a) q pos (ltb 0 a) (ltb a q) (λ e d. h a (ltb-true 0 a e) (ltb-true a q d))

  -- operations that agree on elements agree as total ones
  pub nonzero_agree : (f g : ℕ → ℕ) → ((a : ℕ) → 0 < a → a < q → f a ≡ g a) → (a : ℕ) → on_nonzero q f a ≡ on_nonzero q g a
  nonzero_agree f g h a = agree (f a) (g a) (ltb 0 a) (ltb a q) (λ e d. h a (ltb-true 0 a e) (ltb-true a q d))

  pub elements_agree : (f g : ℕ → ℕ → ℕ) → ((a b : ℕ) → a < q → b < q → f a b ≡ g a b)
      → (a b : ℕ) → on_elements q f a b ≡ on_elements q g a b
  elements_agree f g h a b = agree (f a b) (g a b) (ltb a q) (ltb b q) (λ e d. h a b (ltb-true a q e) (ltb-true b q d))

  module _ (f : ℕ → ℕ → ℕ) where
    elements_is : (a b : ℕ) → a < q → b < q → on_elements q f a b ≡ f a b
    elements_is a b h k = taken (f a b) (ltb a q) (ltb b q) (lt-ltb a q h) (lt-ltb b q k)

    elements_past_left : (a b : ℕ) → q ≤ a → on_elements q f a b ≡ 0
    elements_past_left a b h = left_fails (f a b) (ltb a q) (ltb b q) (le-ltb a q h)

    elements_past_right : (a b : ℕ) → q ≤ b → on_elements q f a b ≡ 0
    elements_past_right a b h = right_fails (f a b) (ltb a q) (ltb b q) (le-ltb b q h)

    elements_below : 0 < q → ((a b : ℕ) → a < q → b < q → f a b < q) → (a b : ℕ) → on_elements q f a b < q
    elements_below pos h a b = small (f a b) q pos (ltb a q) (ltb b q) (λ e d. h a b (ltb-true a q e) (ltb-true b q d))

-- the laws of the total operations
module _ {q : ℕ} {add : ℕ → ℕ → ℕ} {neg : ℕ → ℕ} {mul : ℕ → ℕ → ℕ} {inv : ℕ → ℕ} (L : Laws q add neg mul inv) where
  positive : 0 < q
  positive = let h = L.two in omega arith

  assoc : (f : ℕ → ℕ → ℕ) → ((a b : ℕ) → a < q → b < q → f a b < q)
      → ((a b c : ℕ) → a < q → b < q → c < q → f (f a b) c ≡ f a (f b c))
      → (a b c : ℕ) → a < q → b < q → c < q → on_elements q f (on_elements q f a b) c ≡ on_elements q f a (on_elements q f b c)
  assoc f small h a b c ha hb hc =
      ap (λ (x : ℕ). on_elements q f x c) (elements_is q f a b ha hb) ∙ elements_is q f (f a b) c (small a b ha hb) hc
      ∙ h a b c ha hb hc
      ∙ sym (elements_is q f a (f b c) ha (small b c hb hc)) ∙ ap (on_elements q f a) (sym (elements_is q f b c hb hc))

  comm : (f : ℕ → ℕ → ℕ) → ((a b : ℕ) → a < q → b < q → f a b ≡ f b a) → (a b : ℕ) → a < q → b < q
      → on_elements q f a b ≡ on_elements q f b a
  comm f h a b ha hb = elements_is q f a b ha hb ∙ h a b ha hb ∙ sym (elements_is q f b a hb ha)

  distributes : (a b c : ℕ) → a < q → b < q → c < q
      → on_elements q mul a (on_elements q add b c) ≡ on_elements q add (on_elements q mul a b) (on_elements q mul a c)
  distributes a b c ha hb hc =
      ap (on_elements q mul a) (elements_is q add b c hb hc) ∙ elements_is q mul a (add b c) ha (L.add_below b c hb hc)
      ∙ L.mul_add a b c ha hb hc
      ∙ sym (elements_is q add (mul a b) (mul a c) (L.mul_below a b ha hb) (L.mul_below a c ha hc))
      ∙ ap₂ (on_elements q add) (sym (elements_is q mul a b ha hb)) (sym (elements_is q mul a c ha hc))

  opposite : (a : ℕ) → a < q → on_elements q add a (on_element q neg a) ≡ 0
  opposite a h =
      ap (on_elements q add a) (element_is q neg a h) ∙ elements_is q add a (neg a) h (L.neg_below a h) ∙ L.add_neg a h

  inverse : (a : ℕ) → a < q → 0 < a → on_elements q mul a (on_nonzero q inv a) ≡ 1
  inverse a h p =
      ap (on_elements q mul a) (nonzero_is q inv a p h) ∙ elements_is q mul a (inv a) h (L.inv_below a p h) ∙ L.mul_inv a p h

  pub total_laws : Total q (on_elements q add) (on_element q neg) (on_elements q mul) (on_nonzero q inv)
  total_laws =
      record {
        two = L.two;
        add_below = elements_below q add positive L.add_below;
        neg_below = element_below q neg positive L.neg_below;
        mul_below = elements_below q mul positive L.mul_below;
        inv_below = nonzero_below q inv positive L.inv_below;
        add_past_left = elements_past_left q add;
        add_past_right = elements_past_right q add;
        neg_past = element_past q neg;
        mul_past_left = elements_past_left q mul;
        mul_past_right = elements_past_right q mul;
        inv_past = nonzero_past q inv;
        add_assoc = assoc add L.add_below L.add_assoc;
        add_comm = comm add L.add_comm;
        add_zero = λ a h. elements_is q add a 0 h positive ∙ L.add_zero a h;
        add_neg = opposite;
        mul_assoc = assoc mul L.mul_below L.mul_assoc;
        mul_comm = comm mul L.mul_comm;
        mul_one = λ a h. elements_is q mul a 1 h L.two ∙ L.mul_one a h;
        mul_inv = inverse;
        mul_add = distributes;
        inv_zero = refl;
      }

  -- the field of the total operations: the laws on elements are all that it asks for
  abbrev pub numbers_of : Numbers
  numbers_of =
      record {
        q = q;
        add = on_elements q add;
        neg = on_element q neg;
        mul = on_elements q mul;
        inv = on_nonzero q inv;
        laws = total_laws;
      }
