-- Bytes that pass the checks have no fault.
use Rattle.std.proofs.Common.{◌≡◌, ℕ, ◌+◌, ◌*◌, ◌≤◌, Bool, false, not, ◌||◌, eqb, ltb, List, length, get_or, None, Option, ap, ◌∙◌, arith}
use Rattle.std.proofs.lemmas.Bool.Decides.{nat_tests}
use Rattle.faults.specs.declared.SheetFault.{SheetFault}
use Rattle.faults.specs.declared.SheetFault.TheVariants.{Version, Length}
use Rattle.codes.specs.First.{or_else, when}
use Rattle.sheets.specs.Sheet.{two, version_fault, length_fault, header_fault}

first_good : (len version : ℕ) → 9 ≤ len → version ≡ 1 → (ltb len 9 || not (eqb version 1)) ≡ false
first_good len version h e = grind (arith, nat_tests)

both_good : (a b c d : ℕ) → a ≡ b → c ≡ d → (not (eqb a b) || not (eqb c d)) ≡ false
both_good a b c d e f = grind (arith, nat_tests)

pub no_fault : (bs : List ℕ) → 9 ≤ length bs → get_or bs 0 0 ≡ 1 → two (get_or bs 1 0) (get_or bs 2 0) ≡ 6 + 6 * get_or bs 4 0 → length bs ≡ 9 + 6 * get_or bs 4 0 → header_fault bs ≡ None
no_fault bs long version told whole =
    let v : version_fault bs ≡ None = ap (λ (t : Bool). when t Version) (first_good (length bs) (get_or bs 0 0) long version) in
    let l : length_fault bs ≡ None =
    ap (λ (t : Bool). when t Length) (both_good (two (get_or bs 1 0) (get_or bs 2 0)) (6 + 6 * get_or bs 4 0) (length bs) (9 + 6 * get_or bs 4 0) told whole) in
    ap (λ (o : Option SheetFault). or_else o (length_fault bs)) v ∙ l
