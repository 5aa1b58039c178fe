use Rattle.std.proofs.Common.{◌≡◌, ◌+◌, map, drop}
use Rattle.std.specs.Prelude.{sum_by}
use Rattle.icl_references.specs.Roles.{part_width, seen_part}
use Rattle.icl_signals.proofs.wiring.with_parts.Given as goal

abbrev pub invariant-loop-part : goal.invariant-loop-part
invariant-loop-part l = l.sum + sum_by part_width (map seen_part (drop l.part-index l.parts))
    ≡ l.count + sum_by part_width (map seen_part l.parts)
