use Rattle.std.proofs.Common.{◌≡◌, map, take}
use Rattle.instruments.specs.Seen.{seen_model}
use Rattle.table_file.specs.Tables.{cond_said}
use Rattle.table_lines.specs.SeenSaid.{seen_cond}
use Rattle.table_file.proofs.adding.conds_said.Given as goal

abbrev pub invariant-loop-c : goal.invariant-loop-c
invariant-loop-c l = l.all.items ≡ map (cond_said (seen_model l.m)) (map seen_cond (take l.c-index l.conds))
