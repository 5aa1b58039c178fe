use Rattle.std.proofs.Common.{◌≡◌, drop}
use Rattle.std.specs.Prelude.{not, ◌||◌}
use Rattle.std.specs.List.{list_all}
use Rattle.net_graph.specs.Path.{is_select}
use Rattle.svf_audit.specs.Audit.{is_written}
use Rattle.svf_audit.proofs.scan.are_written.Given as goal

abbrev pub invariant-loop-bit : goal.invariant-loop-bit
invariant-loop-bit l =
    list_all (λ b. not (not (is_select l.net b)) || is_written l.writes b) (drop l.bit-index l.bits)
    ≡ list_all (λ b. not (not (is_select l.net b)) || is_written l.writes b) l.bits
