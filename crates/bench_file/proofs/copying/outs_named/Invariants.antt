use Rattle.std.proofs.Common.{◌≡◌, map, take}
use Rattle.instruments.specs.Seen.{seen_out}
use Rattle.bench_file.specs.Fits.{out_port, out_named}
use Rattle.bench_file.proofs.copying.outs_named.Given as goal

abbrev pub invariant-loop-port : goal.invariant-loop-port
invariant-loop-port l = map seen_out l.all.items
    ≡ map (λ port. out_named (map seen_out l.outs) port.name) (map out_port (take l.port-index l.ports))
