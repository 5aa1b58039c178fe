use Rattle.std.proofs.Common.{◌≡◌, map, take}
use Rattle.instruments.specs.Seen.{seen_model}
use Rattle.table_file.specs.Tables.{set_said}
use Rattle.table_lines.specs.SeenSaid.{seen_set}
use Rattle.table_file.proofs.adding.sets_said.Given as goal

abbrev pub invariant-loop-x : goal.invariant-loop-x
invariant-loop-x l = l.all.items ≡ map (set_said (seen_model l.m)) (map seen_set (take l.x-index l.sets))
