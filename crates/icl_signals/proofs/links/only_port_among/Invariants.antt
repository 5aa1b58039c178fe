use Rattle.std.proofs.Common.{◌≡◌, drop}
use Rattle.std.specs.Prelude.{filter}
use Rattle.icl_references.specs.Roles.{part_at, seen_hier}
use Rattle.icl_signals.specs.Connecting.{passes, only}
use Rattle.icl_signals.specs.Links.{test_of_side, only_with}
use Rattle.icl_signals.proofs.links.only_port_among.Given as goal

abbrev pub invariant-loop-port : goal.invariant-loop-port
invariant-loop-port l = only_with l.found (filter (λ port. passes (test_of_side l.side)
    (part_at (seen_hier l.hier) l.cell port)) (drop l.port-index l.ports))
    ≡ only (filter (λ port. passes (test_of_side l.side) (part_at (seen_hier l.hier) l.cell port)) l.ports)
