use Rattle.std.proofs.Common.{◌≡◌, drop}
use Rattle.std.specs.List.{list_any}
use Rattle.net_graph.specs.Path.{is_select}
use Rattle.svf_audit.proofs.scan.some_select.Given as goal

abbrev pub invariant-loop-bit : goal.invariant-loop-bit
invariant-loop-bit l = list_any (is_select l.net) (drop l.bit-index l.bits)
    ≡ list_any (is_select l.net) l.bits
