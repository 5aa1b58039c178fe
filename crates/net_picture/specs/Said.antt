-- What the text of a network's graph says: its nodes and its edges, and which of them are in colour.
use Rattle.std.specs.Prelude.{◌≡◌, ℕ, Bool, List, [], ◌∷◌, ◌++◌, codes, cond, length, map, Option}
use Rattle.std.specs.List.{flat_map, range_with_len}
use Rattle.net_graph.specs.declared.net.BitId.{BitId}
use Rattle.net_graph.specs.declared.net.Net.{Net}
use Rattle.net_graph.specs.declared.net.Point.{Point}
use Rattle.net_graph.specs.declared.net.Point.TheVariants.{Reg, Mux}
use Rattle.net_graph.specs.Path.{is_in, route_of, rows_of}
use Rattle.net_graph.specs.PathNames.{mux_path}
use Rattle.net_graph.specs.Signals.{Holds}
use Rattle.net_tree.specs.Lawful.{selects_of}
use Rattle.net_picture.specs.Edges.{Node, Tdi, Tdo, Register, Multiplexer, Edge, edge_to_register}
use Rattle.net_picture.specs.Edges.{edge_of_row, edge_of_select, edge_to_scan_out, edges}
use Rattle.net_picture.specs.Labels.{register_label}
use Rattle.net_picture.specs.Met.{is_marked, is_mux_met, is_row_met}
use Rattle.net_picture.specs.Plan.{has_path}

-- none or grey, that of the active path, that of what is marked, or another one
pub data Colour : Type 0 where
  Plain : Colour
  Orange : Colour
  Red : Colour
  Other : Colour

-- a line begins or ends the graph, says that there is a node with this label, or an edge, is a comment, or
-- can't be read
pub data Said : Type 0 where
  Begins : Said
  Ends : Said
  HasNode : Node → List ℕ → Colour → Said
  HasEdge : Edge → Colour → Said
  Comment : List ℕ → Said
  Unread : List ℕ → Said

abbrev pub edge_colour : Bool → Colour
edge_colour active = cond active Orange Plain

-- what is marked is red, on the active path or not
abbrev pub node_colour : Bool → Bool → Colour
node_colour marked active = cond marked Red (edge_colour active)

-- a register and its edge are in colour exactly where it is on the active path
abbrev pub said_register : Net → Holds → Option Point → ℕ → Said
said_register net holds marked r =
    HasNode (Register r) (register_label net r)
    (node_colour (is_marked marked (Reg r)) (is_in (route_of net holds) r))

abbrev pub said_to_register : Net → Holds → ℕ → Said
said_to_register net holds r = HasEdge (edge_to_register net r) (edge_colour (is_in (route_of net holds) r))

-- a multiplexer exactly where it is on the active path, the edge of a row where this is selected, too
abbrev pub said_mux : Net → Holds → Option Point → ℕ → Said
said_mux net holds marked m =
    HasNode (Multiplexer m) (mux_path net m) (node_colour (is_marked marked (Mux m)) (is_mux_met net holds m))

abbrev pub said_row : Net → Holds → ℕ → ℕ → Said
said_row net holds m q = HasEdge (edge_of_row net m q) (edge_colour (is_row_met net holds m q))

abbrev pub said_select : ℕ → BitId → Said
said_select m b = HasEdge (edge_of_select m b) Plain

abbrev pub said_to_mux : Net → Holds → ℕ → List Said
said_to_mux net holds m =
    map (said_row net holds m) (range_with_len 0 (length (rows_of net m)))
    ++ map (said_select m) (selects_of net m)

-- that to scan-out where there is an active path
abbrev pub said_to_scan_out : Net → Holds → Said
said_to_scan_out net holds = HasEdge (edge_to_scan_out net) (edge_colour (has_path net holds))

-- each register and each multiplexer is a node, once
abbrev pub said_nodes : Net → Holds → Option Point → List Said
said_nodes net holds marked =
    HasNode Tdi (codes "TDI") Plain ∷ HasNode Tdo (codes "TDO") Plain
    ∷ (map (said_register net holds marked) (range_with_len 0 (length net.regs.items))
    ++ map (said_mux net holds marked) (range_with_len 0 (length net.muxes.items)))

abbrev pub said_edges : Net → Holds → List Said
said_edges net holds =
    map (said_to_register net holds) (range_with_len 0 (length net.regs.items))
    ++ (flat_map (said_to_mux net holds) (range_with_len 0 (length net.muxes.items))
    ++ said_to_scan_out net holds ∷ [])

abbrev pub said : Net → Holds → Option Point → List Said
said net holds marked = Begins ∷ (said_nodes net holds marked ++ (said_edges net holds ++ Ends ∷ []))

-- the edges among what is said are those of the network
abbrev pub edge_in : Said → List Edge
edge_in Begins = []
edge_in Ends = []
edge_in (HasNode node label colour) = []
edge_in (HasEdge edge colour) = edge ∷ []
edge_in (Comment text) = []
edge_in (Unread line) = []

abbrev pub EdgesAreSaid : Type 0
EdgesAreSaid = (net : Net) (holds : Holds) (marked : Option Point)
    → flat_map edge_in (said net holds marked) ≡ edges net
