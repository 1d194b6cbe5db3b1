-- A valid code is a code of the decoder's theory, and the codewords of its messages are the theory's.
use Rattle.std.proofs.Common.{◌≡◌, ℕ, suc, ◌-◌, ◌<◌, List, [], ◌∷◌, length, get_or, refl, ap, ◌∙◌, arith}
use Rattle.std.proofs.lemmas.List.FromFn.{get_or-map-range_with_len}
use Rattle.algebra.specs.Poly.{ev}
use Rattle.fields.specs.Numbers.{Numbers, AllBelow, Element, elem, elem_add, elem_mul, elem_inj, pos, plus, times, ring_of, field_of}
use Rattle.decoding.specs.Code.{Code, codeword as codeword_of}
use Rattle.codes.specs.Valid.{Valid, NonZero, Distinct}
use Rattle.codes.specs.Codewords.{value, codeword, Meant, CodewordsMeant}
use Rattle.codes.proofs.Issued.{at_place}

module _ (F : Numbers) where
  -- the list as a polynomial
  abbrev read : List ℕ → ℕ → Element F
  read xs i = elem F (get_or xs i 0)

  value_below : (x : ℕ) (message : List ℕ) → value F x message < F.q
  unfolding value
  value_below x [] = pos F
  value_below x (c ∷ cs) = F.laws.add_below c (F.mul x (value F x cs))

  value_is : (x : ℕ) (message : List ℕ) → x < F.q → AllBelow F.q message
      → elem F (value F x message) ≡ ev (ring_of F) (λ (y : Element F). y) (elem F x) (length message) (read message)
  unfolding value ev
  value_is x [] h b = refl
  value_is x (c ∷ cs) h b =
      elem_add F c (F.mul x (value F x cs)) (b 0 (omega arith)) (F.laws.mul_below x (value F x cs))
      ∙ ap (plus F (elem F c))
      (elem_mul F x (value F x cs) h (value_below x cs)
      ∙ ap (times F (elem F x)) (value_is x cs h (λ i l. b (suc i) (omega arith))))

  nonzero : (n : ℕ) (xs : List ℕ) → NonZero F.q n xs → (j : ℕ) → j < n → read xs j ≡ elem F 0 → ⊥
  nonzero n xs z j h e =
      let (low, high) = z j h in
      let t : get_or xs j 0 ≡ 0 = elem_inj F (get_or xs j 0) 0 high (pos F) e in
      omega arith

  apart : (n : ℕ) (xs : List ℕ) → NonZero F.q n xs → Distinct n xs → (i j : ℕ) → i < j → j < n → read xs i ≡ read xs j → ⊥
  apart n xs z d i j h k e = d i j h k (elem_inj F (get_or xs i 0) (get_or xs j 0) (z i (omega arith)).1 (z j k).1 e)

  module _ (n k : ℕ) (points multipliers : List ℕ) (l : length points ≡ n) (V : Valid F.q n points multipliers k) where
    theory_code : Code (field_of F)
    theory_code =
        record {
          n = n;
          D = n - k;
          α = read points;
          v = read multipliers;
          distinct = apart n points V.points_non_zero V.points_distinct;
          α≢zero = nonzero n points V.points_non_zero;
          v≢zero = nonzero n multipliers V.multipliers_non_zero;
        }

    word : (message : List ℕ) → length message ≡ k → AllBelow F.q message → (j : ℕ) → j < n
        → elem F (get_or (codeword F points multipliers message) j 0) ≡ codeword_of (field_of F) theory_code k (read message) j
    unfolding theory_code
    word message m b j h =
        ap (elem F) (get_or-map-range_with_len (at_place F points multipliers message) 0 (length points) j j 0 (omega arith) (omega arith))
        ∙ elem_mul F (get_or multipliers j 0) (value F (get_or points j 0) message) (V.multipliers_non_zero j h).1 (value_below (get_or points j 0) message)
        ∙ ap (times F (read multipliers j))
        (value_is (get_or points j 0) message (V.points_non_zero j h).1 b
        ∙ ap (λ (i : ℕ). ev (ring_of F) (λ (y : Element F). y) (read points j) i (read message)) m)

    meant : Meant F n k points multipliers
    unfolding theory_code
    meant = record { code = theory_code; places = refl; checks = refl; point = λ j. refl; multiplier = λ j. refl; word = word }

pub codewords_meant : CodewordsMeant
codewords_meant F n k points multipliers l V = meant F n k points multipliers l V
