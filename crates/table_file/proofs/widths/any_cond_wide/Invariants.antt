use Rattle.std.proofs.Common.{◌≡◌, map, drop}
use Rattle.std.specs.List.{list_any}
use Rattle.instruments.specs.Seen.{seen_model}
use Rattle.table_lines.specs.Words.{is_wide}
use Rattle.table_file.specs.Tables.{cond_width}
use Rattle.table_lines.specs.SeenSaid.{seen_cond}
use Rattle.table_file.proofs.widths.any_cond_wide.Given as goal

abbrev pub invariant-loop-c : goal.invariant-loop-c
invariant-loop-c l =
    list_any (λ c. is_wide (cond_width (seen_model l.m) c) c.number) (map seen_cond (drop l.c-index l.conds))
    ≡ list_any (λ c. is_wide (cond_width (seen_model l.m) c) c.number) (map seen_cond l.conds)
