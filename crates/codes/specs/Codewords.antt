-- The codeword of a message over a field of numbers, and issuing: what refuses it, and what the result area holds after it. Then what the codeword means: it is the
-- word of the message in the decoder's theory.
use Rattle.std.specs.Prelude.{◌≡◌, ℕ, ◌-◌, ◌<◌, not, List, [], ◌∷◌, ◌++◌, map, length, take, drop, Some, None, Option, ◌==◌, nat_le, nat_lt, slice_index}
use Rattle.std.specs.List.{range_with_len}
use Rattle.fields.specs.Numbers.{Numbers, AllBelow, elem, field_of}
use Rattle.decoding.specs.Code.{Code, codeword as the_codeword}
use Rattle.faults.specs.declared.ListingFault.{ListingFault}
use Rattle.faults.specs.declared.ListingFault.TheVariants.{MessageLength, NotAnElement, ResultArea}
use Rattle.codes.specs.First.{or_else, when, mapped, first_below}
use Rattle.codes.specs.Valid.{Valid}
use Rattle.codes.specs.declared.Code.{Code as CheckedCode}

module _ (F : Numbers) where
  -- the value at x of the message c₀ + c₁ x + c₂ x² + ..
  unfoldable pub value : ℕ → List ℕ → ℕ
  value x [] = 0
  value x (c ∷ cs) = F.add c (F.mul x (value x cs))

  -- the multiplier times the value at the point, at each place
  abbrev pub codeword : List ℕ → List ℕ → List ℕ → List ℕ
  codeword points multipliers message =
      map (λ i. F.mul (slice_index multipliers i) (value (slice_index points i) message)) (range_with_len 0 (length points))

-- the codeword of a message for a checked code
abbrev pub codeword_of : Numbers → CheckedCode → List ℕ → List ℕ
codeword_of F c message = codeword F (take c.count c.points) (take c.count c.multipliers) message

-- the first place of a number that is no element
abbrev pub first_beyond : ℕ → List ℕ → Option ℕ
first_beyond q xs = first_below (length xs) (λ i. nat_le q (slice_index xs i))

abbrev pub message_fault : ℕ → ℕ → List ℕ → Option ListingFault
message_fault q k message =
    or_else (when (not (length message == k)) (MessageLength (length message)))
    (mapped (λ i. NotAnElement i (slice_index message i)) (first_beyond q message))

-- issuing a message for a code of n places with the threshold k, into an area of m numbers
abbrev pub issue_fault : ℕ → ℕ → ℕ → ℕ → List ℕ → Option ListingFault
issue_fault q n k m message = or_else (message_fault q k message) (when (nat_lt m n) (ResultArea m))

-- the word stands in front of what was beyond it; where issuing is refused, nothing changes
abbrev pub area_after : Option ListingFault → List ℕ → List ℕ → List ℕ
area_after None word area = word ++ drop (length word) area
area_after (Some e) word area = area

-- a valid code is a code of the theory, of the same places with n − k check symbols, and the codewords are its own
pub record Meant (F : Numbers) (n k : ℕ) (points multipliers : List ℕ) : Type 0 where
  pub code : Code (field_of F)
  pub places : code.n ≡ n
  pub checks : code.D ≡ n - k
  pub point : (j : ℕ) → code.α j ≡ elem F (slice_index points j)
  pub multiplier : (j : ℕ) → code.v j ≡ elem F (slice_index multipliers j)
  pub word : (message : List ℕ) → length message ≡ k → AllBelow F.q message → (j : ℕ) → j < n
      → elem F (slice_index (codeword F points multipliers message) j) ≡ the_codeword (field_of F) code k (λ i. elem F (slice_index message i)) j

abbrev pub CodewordsMeant : Type 0
CodewordsMeant =
    (F : Numbers) (n k : ℕ) (points multipliers : List ℕ) → length points ≡ n → Valid F.q n points multipliers k → Meant F n k points multipliers
