use Rattle.std.proofs.Common.{◌≡◌, ◌∷◌, [], map, drop, get_or, suc, ◌+◌, ◌≤◌, length}
use Rattle.std.specs.List.{list_any, list_all}
use Rattle.net_graph.specs.Nets.{path_of}
use Rattle.instruments.specs.Seen.{seen_port, seen_out, seen_model}
use Rattle.table_file.specs.Tables.{same_path, seen_table}
use Rattle.bench_file.specs.Fits.{in_port, out_port, model_out_port, same_port, among, inst_path, table_named}
use Rattle.bench_file.specs.Fits.{missing, names_one, extra, models_from, misfit, name_texts}
use Rattle.bench_file.proofs.fitting.ports_misfit.Given as goal

abbrev pub invariant-loop-i : goal.invariant-loop-i
invariant-loop-i l =
    misfit (models_from l.net (map seen_table l.tables) l.i (drop l.i l.net.insts.items))
    ≡ misfit (models_from l.net (map seen_table l.tables) 0 l.net.insts.items)
