-- What a candidate tells, in this order: the blank record; that a record is that of a codeword, that its word passes the sift by a polynomial, that
-- its word is near the shares; and that an answer is the one candidate with a property.
use Rattle.std.specs.Prelude.{◌≡◌, ℕ, length, replicate, Some, None, Option}
use Rattle.decoding.specs.Code.{Code, codeword}
use Rattle.decoding.specs.Words.{Same, distance, Near}
use Rattle.decoding.specs.Sift.{Passes}
use Rattle.fields.specs.Numbers.{Numbers, AllBelow, Element, field_of}
use Rattle.polynomials.specs.Series.{poly}
use Rattle.sift.specs.Received.{Ends}
use Rattle.candidates.specs.declared.records.Candidate.{Candidate}

-- the record that stands where there is no candidate
abbrev pub blank : Candidate
blank = record { distance = 0; message = replicate 32 0; word = replicate 32 0 }

-- For the threshold k and the shares r
module _ (F : Numbers) (C : Code (field_of F)) (k : ℕ) (r : ℕ → Element F) where
  -- the word is that of the message, both have 32 numbers and zeros beyond their ends, and the distance is that of the word from the shares
  pub record Tells (c : Candidate) : Type 0 where
    pub message_long : length c.message ≡ 32
    pub message_all : AllBelow F.q c.message
    pub message_ends : Ends k c.message
    pub word_long : length c.word ≡ 32
    pub word_all : AllBelow F.q c.word
    pub word_ends : Ends C.n c.word
    pub issued : Same C.n (poly F c.word) (codeword (field_of F) C k (poly F c.message))
    pub apart : c.distance ≡ distance (field_of F) C.n r (poly F c.word)

  -- and the word passes the sift by the polynomial w, for the radius τ
  pub record Passing (τ : ℕ) (w : ℕ → Element F) (c : Candidate) : Type 0 where
    pub tells : Tells c
    pub passes : Passes (field_of F) C k τ r w (poly F c.word)

  -- and the word is a codeword within τ of the shares
  pub record Close (τ : ℕ) (c : Candidate) : Type 0 where
    pub tells : Tells c
    pub near : Near (field_of F) C k τ r (poly F c.word)

-- the candidate with the property P, of which there is only one, or that there is none
abbrev pub Only : (Candidate → Type 0) → Option Candidate → Type 0
Only P (Some c) = P c × ((z : Candidate) → P z → z ≡ c)
Only P None = (z : Candidate) → P z → ⊥
