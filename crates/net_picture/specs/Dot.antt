-- The text of a network as a graph (Graphviz, DOT): a node for each register and multiplexer, an edge from
-- each scan source, a dashed one from each select bit.
use Rattle.std.specs.Prelude.{ℕ, ◌&&◌, Bool, List, [], ◌++◌, codes, cond, decimal, get_or, length, map}
use Rattle.std.specs.Prelude.{Option}
use Rattle.std.specs.List.{flat_map}
use Rattle.net_graph.specs.declared.net.BitId.{BitId}
use Rattle.net_graph.specs.declared.net.Net.{Net}
use Rattle.net_graph.specs.declared.net.Point.{Point}
use Rattle.net_graph.specs.declared.net.Point.TheVariants.{Entry, Reg, Mux}
use Rattle.net_graph.specs.Path.{reg_source, row_of, rows_of}
use Rattle.net_graph.specs.PathNames.{mux_path}
use Rattle.net_graph.specs.Signals.{Holds}
use Rattle.net_list.specs.Listing.{lines_from}
use Rattle.net_tree.specs.Lawful.{selects_of}
use Rattle.net_picture.specs.Labels.{register_label, short_values}
use Rattle.net_picture.specs.Layout.{is_selected_row}
use Rattle.net_picture.specs.Met.{met, is_marked, is_on_path}
use Rattle.net_picture.specs.Plan.{has_path}

-- the name of a node: tdi, a register or a multiplexer by its number
abbrev pub node_letters : Point → List ℕ
node_letters Entry = codes "tdi"
node_letters (Reg r) = codes "r"
node_letters (Mux m) = codes "m"

abbrev pub node_number : Point → List ℕ
node_number Entry = []
node_number (Reg r) = decimal r
node_number (Mux m) = decimal m

-- a node that is marked is red, one on the active path thick
abbrev pub node_style : Bool → Bool → List ℕ
node_style marked active =
    cond marked (codes ", style=filled, fillcolor=\"#ffb3b3\", color=\"#e00000\", penwidth=3")
    (cond active (codes ", color=\"#d55e00\", penwidth=3") [])

abbrev pub edge_style : Bool → List ℕ
edge_style active = cond active (codes "color=\"#d55e00\", penwidth=3") (codes "color=\"#868e96\"")

-- a node: the letters and the number of its name, its label, its form and its style
unfoldable pub node_text : List ℕ → ℕ → List ℕ → List ℕ → List ℕ → List ℕ
node_text letters number label form style =
    letters ++ (decimal number
    ++ (codes " [label=\"" ++ (label ++ (form ++ (style ++ (codes "];\n" ++ []))))))

abbrev pub register_node : Net → Option Point → List Point → ℕ → List ℕ
register_node net marked points r =
    node_text (codes "  r") r (register_label net r) (codes "\"")
    (node_style (is_marked marked (Reg r)) (is_on_path points (Reg r)))

abbrev pub mux_node : Net → Option Point → List Point → ℕ → List ℕ
mux_node net marked points m =
    node_text (codes "  m") m (mux_path net m) (codes "\", shape=trapezium, orientation=270")
    (node_style (is_marked marked (Mux m)) (is_on_path points (Mux m)))

-- an edge from a source to a register
unfoldable pub register_edge : Net → List Point → ℕ → List ℕ
register_edge net points r =
    codes "  " ++ (node_letters (reg_source net r) ++ (node_number (reg_source net r) ++ (codes " -> r"
    ++ (decimal r ++ (codes " [" ++ (edge_style (is_on_path points (Reg r)) ++ (codes "];\n" ++ [])))))))

-- the source of row q
abbrev pub row_source : Net → ℕ → ℕ → Point
row_source net m q = get_or (map (λ row. row.from) (rows_of net m)) q Entry

-- an edge to a multiplexer: the letters and the number of its source, its select values and its style
unfoldable pub labelled_edge : List ℕ → List ℕ → ℕ → List ℕ → List ℕ → List ℕ
labelled_edge letters number m values style =
    codes "  " ++ (letters ++ (number ++ (codes " -> m" ++ (decimal m
    ++ (codes " [label=\"" ++ (values ++ (codes "\", " ++ (style ++ (codes "];\n" ++ [])))))))))

-- an edge from the source of row q to its multiplexer
abbrev pub row_edge : Net → Bool → ℕ → ℕ → List ℕ
row_edge net active m q =
    labelled_edge (node_letters (row_source net m q)) (node_number (row_source net m q)) m
    (short_values net m q) (edge_style active)

-- the edge of the row that is selected is on the active path where its multiplexer is
abbrev pub row_line : Net → Bool → Option ℕ → ℕ → ℕ → List ℕ
row_line net active selected m q = row_edge net (active && is_selected_row selected q) m q

-- an edge from a select bit's register
unfoldable pub select_edge : ℕ → BitId → List ℕ
select_edge m b =
    codes "  r" ++ (decimal b.reg ++ (codes " -> m"
    ++ (decimal m ++ (codes " [style=dashed, color=\"#868e96\", constraint=false];\n" ++ []))))

abbrev pub mux_edges : Net → Holds → List Point → ℕ → List ℕ
mux_edges net holds points m =
    lines_from (row_line net (is_on_path points (Mux m)) (row_of net holds m) m) 0 (length (rows_of net m))
    ++ flat_map (select_edge m) (selects_of net m)

unfoldable pub output_edge : Net → Bool → List ℕ
output_edge net active =
    codes "  " ++ (node_letters net.out
    ++ (node_number net.out ++ (codes " -> tdo [" ++ (edge_style active ++ (codes "];\n}\n" ++ [])))))

unfoldable pub dot_head : List ℕ
dot_head =
    codes "digraph net {\n  rankdir=LR;\n  node [shape=box, fontname=\"monospace\", fontsize=10];\n  edge [fontname=\"monospace\", fontsize=9];\n  tdi [label=\"TDI\", shape=cds];\n  tdo [label=\"TDO\", shape=cds];\n"

abbrev pub graph_text : Net → Holds → Bool → Option Point → List Point → List ℕ
graph_text net holds on marked points =
    dot_head ++ (lines_from (register_node net marked points) 0 (length net.regs.items)
    ++ (lines_from (mux_node net marked points) 0 (length net.muxes.items)
    ++ (lines_from (register_edge net points) 0 (length net.regs.items)
    ++ (lines_from (mux_edges net holds points) 0 (length net.muxes.items) ++ output_edge net on))))

-- the network, with what is on the active path of a state, and one thing that is marked
abbrev pub dot_text : Net → Holds → Option Point → List ℕ
dot_text net holds marked = graph_text net holds (has_path net holds) marked (met net holds)
