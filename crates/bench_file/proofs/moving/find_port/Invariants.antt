use Rattle.std.proofs.Common.{◌≡◌, map, drop}
use Rattle.table_file.specs.Tables.{named_from, named}
use Rattle.bench_file.specs.Fits.{in_port, input_names}
use Rattle.bench_file.proofs.moving.find_port.Given as goal

abbrev pub invariant-loop-i : goal.invariant-loop-i
invariant-loop-i l =
    named_from l.i l.name (input_names (map in_port (drop l.i l.ports)))
    ≡ named l.name (input_names (map in_port l.ports))
