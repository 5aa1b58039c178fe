use Rattle.std.proofs.Common.{◌≡◌, ◌+◌, ◌-◌}
use Rattle.std.specs.List.{list_any, range_with_len}
use Rattle.icl_elab.specs.Bindings.{is_bound}
use Rattle.icl_elab.proofs.bindings.OpenBindings.binds_some.Given as goal

abbrev pub invariant-loop-k : goal.invariant-loop-k
invariant-loop-k l = list_any (is_bound l.self l.part) (range_with_len (l.low + l.k) (l.count - l.k))
    ≡ list_any (is_bound l.self l.part) (range_with_len l.low l.count)
