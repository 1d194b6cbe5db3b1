-- A leaf at its work: what it has, what it takes, and what a visit does.
use Rattle.std.specs.Prelude.{◌≡◌, ℕ, suc, ◌+◌, ◌-◌, ◌*◌, ◌<◌, ◌≤◌, Bool, List, [], length, Some, None, Option, Result}
use Rattle.fields.specs.Numbers.{Numbers, AllBelow}
use Rattle.rolls.specs.declared.slots.RollFault.{RollFault}
use Rattle.rolls.specs.Insertion.{Inserted}
use Rattle.digits.specs.Runs.{runs}
use Rattle.digits.specs.Walks.{Ends, Walked}
use Rattle.leaves.specs.declared.pairs.Pair.{Pair}
use Rattle.leaves.specs.declared.pairs.Chart.{Chart}
use Rattle.leaves.specs.Order.{in_order}
use Rattle.leaves.specs.Reached.{Reached}
use Rattle.roots.specs.declared.finding.Finder.{Finder}
use Rattle.roots.specs.Asked.{Asked, asked}

-- the chart, the form in it, its sizes and bounds, how many numbers there are to work with, and the roll
pub record Desk : Type 0 where
  pub chart : Chart
  pub form : List ℕ
  pub width : ℕ
  pub degree : ℕ
  pub w₁ : ℕ
  pub w₂ : ℕ
  pub room : ℕ
  pub slots : List Pair
  pub len : ℕ

-- the desk of a chart and of what it is asked
abbrev pub desk : Chart → Asked → ℕ → List Pair → ℕ → Desk
desk chart a room slots n =
    record { chart = chart; form = a.form; width = a.c; degree = a.ℓ; w₁ = a.w₁; w₂ = a.w₂; room = room; slots = slots; len = n }

-- the desk that a finder works at, and the loans by which it holds its roll: of the roll, and of the roll's slots
abbrev pub desk_of : {X : Type 0} → Finder X → Desk
desk_of s = desk s.chart (asked s.question) (length s.work.now) s.roll.now.slots.now s.roll.now.len

abbrev pub loans : {X : Type 0} → Finder X → ℕ × ℕ
loans s = (s.roll.ghost_name, s.roll.now.slots.ghost_name)

-- the question with f₁ and f₂ in each other's place
abbrev pub turned_asked : Asked → List ℕ → Asked
turned_asked a form = record { form = form; ℓ = a.ℓ; c = a.c; w₁ = a.w₂; w₂ = a.w₁ }

-- b asks of the form with its runs turned, the last one first, what a asks of the form
pub record Turns (F : Numbers) (a b : Asked) : Type 0 where
  pub is : b ≡ turned_asked a b.form
  pub long : length b.form ≡ (a.ℓ + 1) * a.c
  pub all : AllBelow F.q b.form
  pub same : (t : ℕ) → t ≤ a.ℓ → runs F a.c b.form t ≡ runs F a.c a.form (a.ℓ - t)

-- the same but for the roll
abbrev pub Stays : Desk → Desk → Type 0
Stays d d' =
    (d'.chart ≡ d.chart) × (d'.form ≡ d.form) × (d'.width ≡ d.width) × (d'.degree ≡ d.degree) × (d'.w₁ ≡ d.w₁) × (d'.w₂ ≡ d.w₂)
    × (d'.room ≡ d.room)

-- all is as the walk of a chart needs it: sizes within their limits, elements, and room
pub record Seated (q : ℕ) (d : Desk) : Type 0 where
  pub few : d.degree < 9
  pub short : d.width ≤ 400
  pub wide : 0 < d.width
  pub first : d.w₁ < 32
  pub second : d.w₂ < 32
  pub all : AllBelow q d.form
  pub long : length d.form ≡ (d.degree + 1) * d.width
  pub work : 3 * (d.width + d.degree * 31) ≤ d.room
  pub fits : d.len ≤ length d.slots

-- all is as a leaf needs it, and the digits are elements, as many as the bounds say
pub record Ready (q : ℕ) (d : Desk) (ds : List ℕ) : Type 0 where
  pub digits : AllBelow q ds
  pub depth : length ds ≡ suc (d.w₁ + d.w₂)
  pub first : d.w₁ < 32
  pub second : d.w₂ < 32
  pub all : AllBelow q d.form
  pub long : length d.form ≡ (d.degree + 1) * d.width
  pub wide : 0 < d.width
  pub work : 3 * (d.width + d.degree * 31) ≤ d.room
  pub fits : d.len ≤ length d.slots

-- the roll after this was found
abbrev pub Entered : Option Pair → List Pair → ℕ → List Pair → ℕ → Type 0
Entered None slots n slots' n' = (slots' ≡ slots) × (n' ≡ n)
Entered (Some p) slots n slots' n' = (r : Result Bool RollFault) × Inserted in_order p slots n r slots' n'

-- a visit: the answer of the leaf's digits is entered into the roll, and nothing else changes
pub record Visit (F : Numbers) (d : Desk) (ds : List ℕ) (d' : Desk) : Type 0 where
  pub found : Option Pair
  pub reached : Reached F d.chart d.degree d.w₁ d.w₂ (runs F d.width d.form) ds found
  pub entered : Entered found d.slots d.len d'.slots d'.len
  pub fits : d'.len ≤ length d'.slots
  pub stays : Stays d d'

-- visits to all ends of the walk over the digits of the form, and to no other, lead from this desk to a roll of these slots
abbrev pub Walks : (F : Numbers) → Desk → List Pair → ℕ → Type 0
Walks F d slots n =
    (d' : Desk) × Walked (Visit F) (Ends F d.degree (suc (d.w₁ + d.w₂)) 0 [] (runs F d.width d.form)) d d' × (d'.slots ≡ slots) × (d'.len ≡ n)
