use Rattle.std.proofs.Common.{◌≡◌, map}
use Rattle.std.specs.List.{range_with_len}
use Rattle.icl_elab.specs.Bindings.{ref_at}
use Rattle.icl_elab.proofs.bindings.Bindings.all_refs.Given as goal

abbrev pub invariant-loop-pos : goal.invariant-loop-pos
invariant-loop-pos l = l.refs.items ≡ map (ref_at l.self l.part) (range_with_len 0 l.pos)
