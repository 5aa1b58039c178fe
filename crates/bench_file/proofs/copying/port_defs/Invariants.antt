use Rattle.std.proofs.Common.{◌≡◌, map, take}
use Rattle.instruments.specs.Seen.{seen_port}
use Rattle.bench_file.specs.Fits.{in_port}
use Rattle.bench_file.proofs.copying.port_defs.Given as goal

abbrev pub invariant-loop-port : goal.invariant-loop-port
invariant-loop-port l = map seen_port l.all.items ≡ map in_port (take l.port-index l.ports)
