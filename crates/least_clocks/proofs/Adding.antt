-- Rows around registers that a round asks for.
use Rattle.std.specs.Prelude.{List, map, not, filter}
use Rattle.net_graph.specs.declared.branch.Branch.{Branch}
use Rattle.net_graph.specs.declared.step.ReadBit.{ReadBit}
use Rattle.net_graph.specs.declared.step.WriteBit.{WriteBit}
use Rattle.net_graph.specs.Signals.{Holds}
use Rattle.net_tree.specs.Form.{Items}
use Rattle.svf_audit.specs.Work.{has_value}
use Rattle.least_clocks.specs.Least.{rows_around}

-- around the registers of which writes change a bit, and of those that are read
abbrev pub changed_rows : Items → Holds → List WriteBit → List Branch
changed_rows form holds ws =
    rows_around form (map (λ w. w.bit.reg) (filter (λ w. not (has_value holds w)) ws))

abbrev pub read_rows : Items → List ReadBit → List Branch
read_rows form rs = rows_around form (map (λ r. r.bit.reg) rs)
