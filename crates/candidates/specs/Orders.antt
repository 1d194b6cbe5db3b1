-- The order of candidates is total, and their `cmp` goes by it.
use Rattle.std.specs.Prelude.{◌≡◌, ℕ, List, nat_lt}
use Rattle.std.specs.Cmp.{nat_cmp_total}
use Rattle.std.specs.Cmp.Lexicographic.{nat_list_cmp_total, slice_cmp}
use Rattle.std.specs.Ordering.{nat_cmp, ordering_then}
use Rattle.std.proofs.Common.{ap₂}
use Rattle.rolls.specs.Order.{Compares, TotalOrder, before, dictionary}
use Rattle.rolls.proofs.Orders.{in_turn_compares, dictionary_compares, numbers_compare}
use Rattle.candidates.specs.declared.records.Candidate.{Candidate}
use Rattle.candidates.specs.Order.{in_order}

-- the parts of a candidate but for its word
abbrev Rest : Type 0
Rest = ℕ × List ℕ

abbrev rest : Candidate → Rest
rest c = (c.distance, c.message)

rest_compares : Compares (λ (a b : Rest). ordering_then (nat_cmp a.0 b.0) (slice_cmp nat_cmp a.1 b.1)) (λ (a b : Rest). before (nat_lt a.0 b.0) (nat_lt b.0 a.0) (dictionary a.1 b.1))
rest_compares =
    in_turn_compares nat_cmp_total numbers_compare dictionary_compares (λ (a : Rest). a.0) (λ (a : Rest). a.1) (λ a b e f. ap₂ (λ (x : ℕ) (y : List ℕ). (x, y)) e f)

by_parts : (c d : Candidate) → c.word ≡ d.word → rest c ≡ rest d → c ≡ d
by_parts c d e f = ap₂ (λ (w : List ℕ) (x : Rest). record { distance = x.0; message = x.1; word = w }) e f

-- candidates with the same parts are the same
pub same_parts : (c d : Candidate) → c.word ≡ d.word → c.distance ≡ d.distance → c.message ≡ d.message → c ≡ d
same_parts c d e f h = by_parts c d e (ap₂ (λ (x : ℕ) (y : List ℕ). (x, y)) f h)

pub candidates_compare : Compares (λ c d. ordering_then (slice_cmp nat_cmp c.word d.word) (ordering_then (nat_cmp c.distance d.distance) (slice_cmp nat_cmp c.message d.message))) in_order
candidates_compare = in_turn_compares nat_list_cmp_total dictionary_compares rest_compares (λ (c : Candidate). c.word) rest by_parts

pub in_order_total : TotalOrder in_order
in_order_total = candidates_compare.order
