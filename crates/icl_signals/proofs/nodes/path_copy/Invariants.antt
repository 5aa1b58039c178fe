use Rattle.std.proofs.Common.{◌≡◌, map, take}
use Rattle.icl_signals.proofs.nodes.path_copy.Given as goal

abbrev pub invariant-loop-name : goal.invariant-loop-name
invariant-loop-name l = map (λ name. name.items) l.all.items
    ≡ map (λ name. name.items) (take l.name-index l.path)
