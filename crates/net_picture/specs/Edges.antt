-- The edges of a network's graph: one from each scan source to what it feeds, and one from each select bit's
-- register to its multiplexer (IEEE 1687-2014, ICL: ScanInSource, ScanOutPort, ScanMux, SelectedBy).
use Rattle.std.specs.Prelude.{◌≡◌, ℕ, ◌==◌, nat_lt, Bool, true, false, cond, List, [], ◌∷◌, ◌++◌, filter}
use Rattle.std.specs.Prelude.{length, map}
use Rattle.std.specs.List.{flat_map, range_with_len}
use Rattle.net_graph.specs.declared.net.BitId.{BitId}
use Rattle.net_graph.specs.declared.net.Net.{Net}
use Rattle.net_graph.specs.declared.net.Point.{Point}
use Rattle.net_graph.specs.declared.net.Point.TheVariants.{Entry, Reg, Mux}
use Rattle.net_graph.specs.Path.{reg_source, rows_of}
use Rattle.net_tree.specs.Lawful.{selects_of}
use Rattle.net_picture.specs.Dot.{row_source}
use Rattle.net_picture.specs.Labels.{short_values}

-- scan-in, scan-out, a register or a multiplexer, by its number
pub data Node : Type 0 where
  Tdi : Node
  Tdo : Node
  Register : ℕ → Node
  Multiplexer : ℕ → Node

-- a scan source, that of a row with what is written of its select values, or a select bit
pub data Link : Type 0 where
  Source : Link
  Row : List ℕ → Link
  Select : Link

pub record Edge : Type 0 where
  pub from : Node
  pub to : Node
  pub link : Link

abbrev pub node_of : Point → Node
node_of Entry = Tdi
node_of (Reg r) = Register r
node_of (Mux m) = Multiplexer m

abbrev pub edge_to_register : Net → ℕ → Edge
edge_to_register net r = record { from = node_of (reg_source net r); to = Register r; link = Source }

abbrev pub edge_of_row : Net → ℕ → ℕ → Edge
edge_of_row net m q =
    record { from = node_of (row_source net m q); to = Multiplexer m; link = Row (short_values net m q) }

abbrev pub edge_of_select : ℕ → BitId → Edge
edge_of_select m b = record { from = Register b.reg; to = Multiplexer m; link = Select }

-- of each row, and of each select bit
abbrev pub edges_to_mux : Net → ℕ → List Edge
edges_to_mux net m =
    map (edge_of_row net m) (range_with_len 0 (length (rows_of net m)))
    ++ map (edge_of_select m) (selects_of net m)

abbrev pub edge_to_scan_out : Net → Edge
edge_to_scan_out net = record { from = node_of net.out; to = Tdo; link = Source }

-- those to registers, to multiplexers, and to scan-out
abbrev pub edges : Net → List Edge
edges net =
    map (edge_to_register net) (range_with_len 0 (length net.regs.items)) ++
    (flat_map (edges_to_mux net) (range_with_len 0 (length net.muxes.items)) ++ edge_to_scan_out net ∷ [])

-- ---- each source once, and no others

abbrev pub same_node : Node → Node → Bool
same_node Tdi Tdi = true
same_node Tdi Tdo = false
same_node Tdi (Register b) = false
same_node Tdi (Multiplexer b) = false
same_node Tdo Tdi = false
same_node Tdo Tdo = true
same_node Tdo (Register b) = false
same_node Tdo (Multiplexer b) = false
same_node (Register a) Tdi = false
same_node (Register a) Tdo = false
same_node (Register a) (Register b) = a == b
same_node (Register a) (Multiplexer b) = false
same_node (Multiplexer a) Tdi = false
same_node (Multiplexer a) Tdo = false
same_node (Multiplexer a) (Register b) = false
same_node (Multiplexer a) (Multiplexer b) = a == b

abbrev pub edges_into : Node → List Edge → List Edge
edges_into to es = filter (λ e. same_node to e.to) es

-- what feeds a node: a register and scan-out have one source, a multiplexer one for each row, in their order,
-- and its select bits
abbrev pub sources : Net → Node → List Edge
sources net Tdi = []
sources net Tdo = edge_to_scan_out net ∷ []
sources net (Register r) = cond (nat_lt r (length net.regs.items)) (edge_to_register net r ∷ []) []
sources net (Multiplexer m) = cond (nat_lt m (length net.muxes.items)) (edges_to_mux net m) []

abbrev pub EdgesAreSources : Type 0
EdgesAreSources = (net : Net) (to : Node) → edges_into to (edges net) ≡ sources net to
