use Rattle.std.proofs.Common.{◌≡◌, map, drop}
use Rattle.table_file.specs.Tables.{stands_in, target}
use Rattle.table_lines.specs.SeenSaid.{seen_set}
use Rattle.table_file.proofs.names.is_target.Given as goal

abbrev pub invariant-loop-x : goal.invariant-loop-x
invariant-loop-x l =
    stands_in l.name (map (λ x. target x.slot) (map seen_set (drop l.x-index l.sets)))
    ≡ stands_in l.name (map (λ x. target x.slot) (map seen_set l.sets))
