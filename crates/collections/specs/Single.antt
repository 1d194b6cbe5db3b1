-- `Sound` has one proof at most, as the fact of a ghost field must.
use Rattle.std.specs.Prelude.{◌≡◌, ℕ, Bool, false, List, [], ◌∷◌, is_some, Some, None, Option, if◌then◌else◌}
use Rattle.std.specs.Coded.{×_prop, Unit-prop, le_prop}
use mathlib.Core.Path.{refl, sym, ap, ◌∙◌, path_j'}
use mathlib.Core.Bool.{Bool-set}
use native.Mathlib.Nat.{ℕ_set}
use Rattle.codes.specs.Opening.{Given, first_fault}
use Rattle.collections.specs.declared.Place.{Place}
use Rattle.collections.specs.declared.Place.TheVariants.{Empty, Filled}
use Rattle.collections.specs.declared.Opened.{Opened}
use Rattle.collections.specs.declared.Kept.{Kept}
use Rattle.collections.specs.Book.{Book, unopened, opened, Fits, AllFit, FairPage, Fair}
use Rattle.collections.specs.Standing.{opened_in, standing, Over, Sound}

abbrev none_by : {A : Type 0} (o : Option A) → is_some o ≡ false → o ≡ None
none_by None h = refl
none_by (Some x) h = ap (λ (b : Bool). if b then Some x else None) h

none_again : {A : Type 0} (o : Option A) (p : o ≡ None) → none_by o (ap is_some p) ≡ p
none_again {A} o p = path_j' {A = Option A} (λ x e. none_by x (ap is_some e) ≡ e) refl p

none-prop : {A : Type 0} (o : Option A) → IsProp (o ≡ None)
none-prop o p q =
    sym (none_again o p) ∙ ap (none_by o) (Bool-set (is_some o) false (ap is_some p) (ap is_some q)) ∙ none_again o q

Fits-prop : (q : ℕ) (x : Place) → IsProp (Fits q x)
Fits-prop q Empty = Unit-prop
Fits-prop q (Filled v) = le_prop

AllFit-prop : (q : ℕ) (ps : List Place) → IsProp (AllFit q ps)
AllFit-prop q [] = Unit-prop
AllFit-prop q (x ∷ ps) = ×_prop (Fits-prop q x) (AllFit-prop q ps)

FairPage-prop : (q : ℕ) (g : Given) (ps : List Place) → IsProp (FairPage q g ps)
FairPage-prop q g ps a b = λ i. record {
  passed = none-prop (first_fault q g) a.passed b.passed i;
  count = ℕ_set _ _ a.count b.count i;
  elements = AllFit-prop q ps a.elements b.elements i;
}

Fair-prop : (q : ℕ) (b : Book) → IsProp (Fair q b)
Fair-prop q unopened = Unit-prop
Fair-prop q (opened g ps) = FairPage-prop q g ps

Over-prop : (q : ℕ) (o : Option Opened) → IsProp (Over q o)
Over-prop q None = Unit-prop
Over-prop q (Some o) = ×_prop (ℕ_set _ _) le_prop

pub Sound-prop : (q : ℕ) (k : Kept) → IsProp (Sound q k)
Sound-prop q k = ×_prop (Over-prop q (opened_in k.page)) (Fair-prop q (standing k))
