-- One move of a trace back from the network's output, where one mux may be stuck.
use Rattle.std.specs.Prelude.{ℕ, List, Option, None, Some}
use Rattle.net_graph.specs.declared.branch.Branch.{Branch}
use Rattle.net_graph.specs.declared.net.Net.{Net}
use Rattle.net_graph.specs.declared.net.Point.{Point}
use Rattle.net_graph.specs.declared.net.Point.TheVariants.{Entry, Reg, Mux}
use Rattle.net_graph.specs.Path.{reg_source, mux_source, route_of}
use Rattle.net_graph.specs.Signals.{Holds}
use Rattle.net_graph.specs.Stuck.{stuck_route, stuck_source}

-- what a mux passes on, where none is stuck, or one
abbrev pub source_of : Net → Option Branch → Holds → ℕ → Option Point
source_of net None holds = mux_source net holds
source_of net (Some b) holds = stuck_source net b holds

-- the registers of the active path then
abbrev pub route_where : Net → Option Branch → Holds → List ℕ
route_where net None holds = route_of net holds
route_where net (Some b) holds = stuck_route net b holds

-- what is met next, going back from a point; the entry is stayed at
abbrev pub before : Net → (ℕ → Option Point) → Point → Option Point
before net source Entry = Some Entry
before net source (Reg r) = Some (reg_source net r)
before net source (Mux m) = source m
