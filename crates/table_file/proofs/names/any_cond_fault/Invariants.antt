use Rattle.std.proofs.Common.{◌≡◌, map, drop}
use Rattle.std.specs.Prelude.{not, is_some}
use Rattle.std.specs.List.{list_any}
use Rattle.instruments.specs.Seen.{seen_model}
use Rattle.table_file.specs.Tables.{cond_operand}
use Rattle.table_lines.specs.SeenSaid.{seen_cond}
use Rattle.table_file.proofs.names.any_cond_fault.Given as goal

abbrev pub invariant-loop-c : goal.invariant-loop-c
invariant-loop-c l =
    list_any (λ c. not (is_some (cond_operand (seen_model l.m) c))) (map seen_cond (drop l.c-index l.conds))
    ≡ list_any (λ c. not (is_some (cond_operand (seen_model l.m) c))) (map seen_cond l.conds)
