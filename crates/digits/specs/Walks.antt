-- Walks over digits, in this order: visits one after another, the digits that a walk may go on with, where it ends, what a leaf takes, and a
-- whole walk: visits to all these ends and to no other.
use Rattle.std.specs.Prelude.{◌≡◌, ℕ, suc, ◌<◌, List, [], ◌∷◌, length, take, drop}
use Rattle.algebra.specs.PolyRing.{Poly}
use Rattle.algebra.specs.Taylor.{taylor}
use Rattle.fields.specs.Numbers.{Numbers, AllBelow, Element, elem, ring_of}
use Rattle.rolls.specs.Order.{Has}
use Rattle.digits.specs.Runs.{term}
use Rattle.digits.specs.Digits.{Allowed}

-- visits to the lists of digits, in this order, lead from s to s'
abbrev pub Chain : {S : Type 0} → (S → List ℕ → S → Type 0) → S → List (List ℕ) → S → Type 0
Chain visits s [] s' = s ≡ s'
Chain {S} visits s (d ∷ ds) s' = (m : S) × visits s d m × Chain visits m ds s'

-- each digit, from the place t on, is allowed after those before it
abbrev pub Steps : (F : Numbers) → ℕ → ℕ → (ℕ → ℕ → Element F) → List ℕ → Type 0
Steps F ℓ t T [] = Unit {0}
Steps F ℓ t T (e ∷ es) =
    (e < F.q) × Allowed (ring_of F) ℓ t T (elem F e)
    × Steps F ℓ (suc t) (taylor (Poly (ring_of F)) (suc ℓ) (term (ring_of F) (elem F e) t) T) es

-- N digits that begin with the t digits of front and go on with allowed ones
pub record Ends (F : Numbers) (ℓ N t : ℕ) (front : List ℕ) (T : ℕ → ℕ → Element F) (ds : List ℕ) : Type 0 where
  pub long : length ds ≡ N
  pub begins : take t ds ≡ front
  pub steps : Steps F ℓ t T (drop t ds)

-- every list of N elements is taken
abbrev pub Taken : {S : Type 0} → (F : Numbers) → (S → List ℕ → Type 0) → ℕ → S → Type 0
Taken F takes N s = (ds : List ℕ) → length ds ≡ N → AllBelow F.q ds → takes s ds

-- visits to exactly the lists with the property P lead from s to s'
pub record Walked {S : Type 0} (visits : S → List ℕ → S → Type 0) (P : List ℕ → Type 0) (s s' : S) : Type 0 where
  pub leaves : List (List ℕ)
  pub chain : Chain visits s leaves s'
  pub sound : (ds : List ℕ) → Has ds leaves → P ds
  pub complete : (ds : List ℕ) → P ds → Has ds leaves
