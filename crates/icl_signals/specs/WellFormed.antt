-- The network of every well formed hierarchy is well formed (IEEE 1687-2014, ICL): the law.
use Rattle.std.specs.Prelude.{◌≡◌, ℕ, List, Ok}
use Rattle.icl_references.specs.Roles.{CellOf}
use Rattle.icl_elab.specs.WellFormed.{IsHierarchy}
use Rattle.net_graph.specs.declared.net.Net.{Net}
use Rattle.net_graph.specs.Nets.{IsNet}
use Rattle.icl_signals.specs.Connecting.{network}

abbrev pub NetsAreWellFormed : Type 0
NetsAreWellFormed = (cells : List CellOf) (link instr : List ℕ) (net : Net) → IsHierarchy cells
    → network cells link instr ≡ Ok net → IsNet net
