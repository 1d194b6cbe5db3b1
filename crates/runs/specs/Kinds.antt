-- Which kind of answer each call has: what an accepted one tells, and whose fault refuses one.
use Rattle.std.specs.Prelude.{◌≡◌, ℕ, List, Some, Result, MatchResult, ⊤}
use Rattle.std.specs.List.{slice_get}
use Rattle.runs.specs.declared.Call.{Call}
use Rattle.runs.specs.declared.Call.TheVariants.{Open, Load, Enter, Withdraw, Read, List as ListAll}
use Rattle.runs.specs.declared.Outcome.{Outcome}
use Rattle.runs.specs.declared.Outcome.TheVariants.{Done, Told, Listed}
use Rattle.runs.specs.declared.CallFault.{CallFault}
use Rattle.runs.specs.declared.CallFault.TheVariants.{Collection, Sheet, Listing}

abbrev pub IsDone : Outcome → Type 0
IsDone Done = ⊤
IsDone (Told x) = ⊥
IsDone (Listed x) = ⊥

abbrev pub IsTold : Outcome → Type 0
IsTold Done = ⊥
IsTold (Told x) = ⊤
IsTold (Listed x) = ⊥

abbrev pub IsListed : Outcome → Type 0
IsListed Done = ⊥
IsListed (Told x) = ⊥
IsListed (Listed x) = ⊤

abbrev pub OfCollection : CallFault → Type 0
OfCollection (Collection f) = ⊤
OfCollection (Sheet f) = ⊥
OfCollection (Listing f) = ⊥

abbrev pub OfSheet : CallFault → Type 0
OfSheet (Collection f) = ⊥
OfSheet (Sheet f) = ⊤
OfSheet (Listing f) = ⊥

abbrev pub OfListing : CallFault → Type 0
OfListing (Collection f) = ⊥
OfListing (Sheet f) = ⊥
OfListing (Listing f) = ⊤

-- one call and its answer: a reply is the same for a fault of the collection and for the listing's fault around it, so the law on replies leaves this open
abbrev pub Befits : Call → Result Outcome CallFault → Type 0
Befits (Open o) a = MatchResult a IsDone OfCollection
Befits (Load bytes) a = MatchResult a IsDone OfSheet
Befits (Enter p v) a = MatchResult a IsDone OfCollection
Befits (Withdraw p) a = MatchResult a IsDone OfCollection
Befits (Read p) a = MatchResult a IsTold OfCollection
Befits (ListAll m w) a = MatchResult a IsListed OfListing

-- calls in their order, with the answer to each
abbrev pub EachBefits : List Call → List (Result Outcome CallFault) → Type 0
EachBefits cs os = (i : ℕ) (c : Call) (a : Result Outcome CallFault) → slice_get cs i ≡ Some c → slice_get os i ≡ Some a → Befits c a
