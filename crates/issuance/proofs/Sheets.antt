-- What a sheet gives to opening, and what is issued by it.
use Rattle.std.proofs.Common.{◌≡◌, ℕ, ◌≤◌, ltb, List, length, take, Some, None, Option, sym, refl, ap, ◌∙◌}
use Rattle.std.proofs.lemmas.List.{take_at}
use Rattle.std.proofs.lemmas.List.FromFn.{length-map-range_with_len}
use Rattle.std.proofs.lemmas.Bool.{le-ltb}
use Rattle.fields.specs.Numbers.{Numbers}
use Rattle.codes.specs.First.{or_else, mapped}
use Rattle.codes.specs.Opening.{Given, first_fault, Holds}
use Rattle.codes.specs.Codewords.{codeword, codeword_of, message_fault, issue_fault, area_after}
use Rattle.codes.specs.declared.Code.{Code}
use Rattle.faults.specs.declared.CodeFault.{CodeFault}
use Rattle.faults.specs.declared.SheetFault.TheVariants.{Collection}
use Rattle.faults.specs.declared.CollectionFault.TheVariants.{Code as by_code}
use Rattle.sheets.specs.Sheet.{Sheet, given_in}
use Rattle.issuance.specs.declared.IssueFault.TheVariants.{Sheet as by_sheet, Listing}
use Rattle.issuance.specs.Issuance.{over_fault}
use Rattle.codes.proofs.Firsts.{when_false}
use Rattle.codes.proofs.Issued.{at_place}

or_else_none : {A : Type 0} (o p : Option A) → p ≡ None → or_else o p ≡ o
or_else_none None p e = e
or_else_none (Some x) p e = refl

-- 32 numbers are room for any code
pub roomy : (q n k : ℕ) (message : List ℕ) → n ≤ 32 → issue_fault q n k 32 message ≡ message_fault q k message
roomy q n k message h = or_else_none (message_fault q k message) _ (when_false (ltb 32 n) _ (le-ltb 32 n h))

-- the word of the code that was given stands in front
pub fronted : (F : Numbers) (q : ℕ) (g : Given) (c : Code) (message area word : List ℕ) → Holds q g c
    → word ≡ area_after None (codeword_of F c message) area → take (length g.points) word ≡ codeword F g.points g.multipliers message
fronted F q g c message area word h e =
    let same : codeword_of F c message ≡ codeword F g.points g.multipliers message =
    ap (λ (xs : List ℕ). codeword F xs (take c.count c.multipliers) message) h.points
    ∙ ap (λ (xs : List ℕ). codeword F g.points xs message) h.multipliers in
    ap (take (length g.points)) (e ∙ ap (λ (w : List ℕ). area_after None w area) same)
    ∙ take_at (codeword F g.points g.multipliers message) _ (length g.points)
    (length-map-range_with_len (at_place F g.points g.multipliers message) 0 (length g.points))

pub over_none : (F : Numbers) (s : Sheet) (message : List ℕ) → None ≡ first_fault F.q (given_in s) → None ≡ message_fault F.q s.threshold message
    → None ≡ over_fault F s message
over_none F s message a b =
    sym
    (ap (λ (o : Option CodeFault). or_else (mapped (λ e. by_sheet (Collection (by_code e))) o) (mapped Listing (message_fault F.q s.threshold message))) (sym a)
    ∙ ap (mapped Listing) (sym b))
