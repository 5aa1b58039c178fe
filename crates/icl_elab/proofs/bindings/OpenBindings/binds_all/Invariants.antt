use Rattle.std.proofs.Common.{◌≡◌, ◌-◌}
use Rattle.std.specs.List.{list_all, range_with_len}
use Rattle.icl_elab.specs.Bindings.{is_bound}
use Rattle.icl_elab.proofs.bindings.OpenBindings.binds_all.Given as goal

abbrev pub invariant-loop-pos : goal.invariant-loop-pos
invariant-loop-pos l = list_all (is_bound l.self l.part) (range_with_len l.pos (l.wide - l.pos))
    ≡ list_all (is_bound l.self l.part) (range_with_len 0 l.wide)
