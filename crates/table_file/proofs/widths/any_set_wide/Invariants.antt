use Rattle.std.proofs.Common.{◌≡◌, map, drop}
use Rattle.std.specs.List.{list_any}
use Rattle.instruments.specs.Seen.{seen_model}
use Rattle.table_file.specs.Tables.{amount_wide, slot_width}
use Rattle.table_lines.specs.SeenSaid.{seen_set}
use Rattle.table_file.proofs.widths.any_set_wide.Given as goal

abbrev pub invariant-loop-x : goal.invariant-loop-x
invariant-loop-x l =
    list_any (λ x. amount_wide (seen_model l.m) (slot_width (seen_model l.m) x.slot) x.amount)
    (map seen_set (drop l.x-index l.sets)) ≡ list_any (λ x. amount_wide (seen_model l.m)
    (slot_width (seen_model l.m) x.slot) x.amount) (map seen_set l.sets)
