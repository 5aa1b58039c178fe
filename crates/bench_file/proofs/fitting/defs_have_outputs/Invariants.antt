use Rattle.std.proofs.Common.{◌≡◌, ◌∷◌, [], map, drop, get_or, suc, ◌+◌, ◌≤◌, length}
use Rattle.std.specs.List.{list_any, list_all}
use Rattle.net_graph.specs.Nets.{path_of}
use Rattle.instruments.specs.Seen.{seen_port, seen_out, seen_model}
use Rattle.table_file.specs.Tables.{same_path, seen_table}
use Rattle.bench_file.specs.Fits.{in_port, out_port, model_out_port, same_port, among, inst_path, table_named}
use Rattle.bench_file.specs.Fits.{missing, names_one, extra, models_from, misfit}
use Rattle.bench_file.proofs.fitting.defs_have_outputs.Given as goal

abbrev pub invariant-loop-x : goal.invariant-loop-x
invariant-loop-x l =
    list_all (among (map out_port l.ports)) (map model_out_port (map seen_out (drop l.x-index l.outs)))
    ≡ list_all (among (map out_port l.ports)) (map model_out_port (map seen_out l.outs))
