-- Pairs are in total order, and their `cmp` goes by it.
use Rattle.std.specs.Prelude.{◌≡◌}
use Rattle.std.specs.Cmp.Lexicographic.{nat_list_cmp_total, slice_cmp}
use Rattle.std.specs.Ordering.{nat_cmp, ordering_then}
use Rattle.std.proofs.Common.{ap₂}
use Rattle.rolls.specs.Order.{Compares, TotalOrder}
use Rattle.rolls.proofs.Orders.{in_turn_compares, dictionary_compares}
use Rattle.leaves.specs.declared.pairs.Pair.{Pair}
use Rattle.leaves.specs.Order.{in_order}

same : (p q : Pair) → p.first ≡ q.first → p.second ≡ q.second → p ≡ q
same p q e f = ap₂ (λ x y. let r : Pair = record { first = x; second = y } in r) e f

pub pairs_compare : Compares (λ p q. ordering_then (slice_cmp nat_cmp p.first q.first) (slice_cmp nat_cmp p.second q.second)) in_order
pairs_compare =
    in_turn_compares nat_list_cmp_total dictionary_compares dictionary_compares (λ (p : Pair). p.first) (λ (p : Pair). p.second) same

pub pair_order : TotalOrder in_order
pair_order = pairs_compare.order
