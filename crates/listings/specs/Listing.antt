-- What a listing is to find: the candidate of a message, when it is near the shares, and the list of all that are. Here g has the points, the multipliers, the
-- threshold k and the setting (τ, s, ℓ) that a collection was opened with, and rs are the shares, one for each place.
use Rattle.std.specs.Prelude.{◌≡◌, ℕ, ◌-◌, ◌≤◌, List, ◌++◌, length, replicate}
use Rattle.fields.specs.Numbers.{Numbers, AllBelow}
use Rattle.codes.specs.Opening.{Given}
use Rattle.codes.specs.Codewords.{codeword}
use Rattle.stages.specs.Words.{distance}
use Rattle.rolls.specs.Order.{Lists}
use Rattle.candidates.specs.declared.records.Candidate.{Candidate}
use Rattle.candidates.specs.Order.{in_order}

-- the numbers and zeros after them, 32 in all
abbrev pub padded : List ℕ → List ℕ
padded xs = xs ++ replicate (32 - length xs) 0

module _ (F : Numbers) (g : Given) where
  -- the record of a message: how many shares differ from its codeword, the message, and the codeword
  abbrev pub candidate_of : (rs message : List ℕ) → Candidate
  candidate_of rs message =
      record {
        distance = distance (length g.points) rs (codeword F g.points g.multipliers message);
        message = padded message;
        word = padded (codeword F g.points g.multipliers message);
      }

  -- c is the record of a message of k elements whose codeword differs from the shares in τ places at most
  pub record Within (rs : List ℕ) (c : Candidate) : Type 0 where
    pub message : List ℕ
    pub count : length message ≡ g.threshold
    pub elements : AllBelow F.q message
    pub is : c ≡ candidate_of rs message
    pub near : c.distance ≤ g.setting.radius

  -- the records of all such messages, in order and each once, ℓ at most
  pub record Listing (rs : List ℕ) (items : List Candidate) : Type 0 where
    pub all : Lists in_order (Within rs) items
    pub few : length items ≤ g.setting.list_limit
