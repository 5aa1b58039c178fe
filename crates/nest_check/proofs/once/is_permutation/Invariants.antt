use Rattle.std.proofs.Common.{◌≡◌, ◌<◌, ℕ, take, false, slice_index_or, vec_len}
use Rattle.std.specs.Prelude.{◌==◌}
use Rattle.std.specs.List.{list_any}
use Rattle.net_graph.specs.Chain.{IsRoute}
use Rattle.nest_check.proofs.once.is_permutation.Given as goal

abbrev pub invariant-loop-number : goal.invariant-loop-number
invariant-loop-number l =
    (vec_len l.seen ≡ l.n)
    × IsRoute l.n (take l.number-index l.numbers)
    × ((k : ℕ) → k < l.n → slice_index_or l.seen.items k false
    ≡ list_any (λ y. y == k) (take l.number-index l.numbers))
