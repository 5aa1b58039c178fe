use Rattle.std.proofs.Common.{◌≡◌, map, drop}
use Rattle.table_file.specs.Tables.{has_twice, target}
use Rattle.table_lines.specs.SeenSaid.{seen_set}
use Rattle.table_file.proofs.names.set_twice.Given as goal

abbrev pub invariant-loop-i : goal.invariant-loop-i
invariant-loop-i l =
    has_twice (map (λ x. target x.slot) (map seen_set (drop l.i l.sets)))
    ≡ has_twice (map (λ x. target x.slot) (map seen_set l.sets))
