use Rattle.std.proofs.Common.{◌≡◌, map, drop}
use Rattle.std.specs.Prelude.{◌||◌}
use Rattle.std.specs.List.{list_any}
use Rattle.instruments.specs.Seen.{seen_model}
use Rattle.table_file.specs.Tables.{no_slot, no_amount}
use Rattle.table_lines.specs.SeenSaid.{seen_set}
use Rattle.table_file.proofs.names.any_set_fault.Given as goal

abbrev pub invariant-loop-x : goal.invariant-loop-x
invariant-loop-x l =
    list_any (λ x. no_slot (seen_model l.m) x.slot || no_amount (seen_model l.m) x.amount)
    (map seen_set (drop l.x-index l.sets)) ≡ list_any
    (λ x. no_slot (seen_model l.m) x.slot || no_amount (seen_model l.m) x.amount) (map seen_set l.sets)
