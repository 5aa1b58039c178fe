use Rattle.std.proofs.Common.{◌≡◌, drop, map}
use Rattle.std.specs.List.{list_all}
use Rattle.net_graph.specs.Path.{is_in}
use Rattle.least_clocks.proofs.first.read_are_on.Given as goal

abbrev pub invariant-loop-read : goal.invariant-loop-read
invariant-loop-read l =
    list_all (is_in l.path) (map (λ r. r.bit.reg) (drop l.read-index l.reads))
    ≡ list_all (is_in l.path) (map (λ r. r.bit.reg) l.reads)
