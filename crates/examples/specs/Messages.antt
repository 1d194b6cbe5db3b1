-- Listing by trying every message: all messages of k numbers below q, and those whose codeword is near the shares.
use Rattle.std.specs.Prelude.{ℕ, zero, suc, List, [], ◌∷◌, ◌++◌, map, length, filter, nat_le}
use Rattle.std.specs.List.{range_with_len}
use Rattle.fields.specs.Numbers.{Numbers}
use Rattle.codes.specs.Codewords.{codeword}
use Rattle.stages.specs.Words.{distance}

-- each number put before each message
unfoldable pub before_each : List ℕ → List (List ℕ) → List (List ℕ)
before_each [] ms = []
before_each (c ∷ cs) ms = map (λ (m : List ℕ). c ∷ m) ms ++ before_each cs ms

-- all messages of k numbers below q
unfoldable pub messages : ℕ → ℕ → List (List ℕ)
messages q zero = [] ∷ []
messages q (suc k) = before_each (range_with_len 0 q) (messages q k)

-- those whose codeword differs from the shares in τ places at most
unfoldable pub near : Numbers → List ℕ → List ℕ → List ℕ → ℕ → ℕ → List (List ℕ)
near F points multipliers shares k τ =
    filter (λ (m : List ℕ). nat_le (distance (length points) shares (codeword F points multipliers m)) τ) (messages F.q k)
