use Rattle.std.proofs.Common.{◌≡◌, ◌∷◌, [], map, drop, get_or, suc, ◌+◌, ◌≤◌, length}
use Rattle.std.specs.List.{list_any, list_all}
use Rattle.net_graph.specs.Nets.{path_of}
use Rattle.instruments.specs.Seen.{seen_port, seen_out, seen_model}
use Rattle.table_file.specs.Tables.{same_path, seen_table}
use Rattle.bench_file.specs.Fits.{in_port, out_port, model_out_port, same_port, among, inst_path, table_named}
use Rattle.bench_file.specs.Fits.{missing, names_one, extra, models_from, misfit}
use Rattle.bench_file.proofs.fitting.input_has_def.Given as goal

abbrev pub invariant-loop-x : goal.invariant-loop-x
invariant-loop-x l =
    among (map seen_port (drop l.x-index l.ins)) (in_port l.port)
    ≡ among (map seen_port l.ins) (in_port l.port)
