-- What is read in a graph's text is what its network has.
use Rattle.std.proofs.Common.{◌≡◌, ℕ, zero, suc, ◌+◌, ◌-◌, ◌<◌, ◌≤◌, ◌^◌, Bool, true, false, List, [], ◌∷◌}
use Rattle.std.proofs.Common.{◌++◌, Option, length, take, drop, map, get_or, refl, sym, ap, ◌∙◌, subst, arith}
use Rattle.std.proofs.Common.{append_assoc, append-nil, decimal, cond}
use Rattle.std.specs.Prelude.{◌==◌, ◌&&◌, ◌*◌, All, IsTrue, codes, nat_le}
use Rattle.std.specs.List.{flat_map, range_with_len}
use Rattle.std.specs.Option.{option_map}
use Rattle.std.proofs.lemmas.Grind.{flat_map-append}
use Rattle.std.proofs.lemmas.List.Elements.{All-head, All-nil, All-tail}
use Rattle.ij_bits.specs.BitLists.{bit}
use Rattle.ij_bits.specs.Room.{Listed}
use Rattle.ij_bits.specs.declared.tern.Tern.{Tern}
use Rattle.ij_text.specs.Words.{is_name}
use Rattle.net_graph.specs.declared.net.BitId.{BitId}
use Rattle.net_graph.specs.declared.net.Mux.{Mux as MuxOf}
use Rattle.net_graph.specs.declared.net.Net.{Net}
use Rattle.net_graph.specs.declared.net.Node.{Node as NodeOf}
use Rattle.net_graph.specs.declared.net.Point.{Point}
use Rattle.net_graph.specs.declared.net.Point.TheVariants.{Entry, Reg, Mux}
use Rattle.net_graph.specs.declared.net.Reg.{Reg as RegOf}
use Rattle.net_graph.specs.declared.net.Row.{Row as RowOf}
use Rattle.net_graph.specs.declared.net.Thing.{Thing}
use Rattle.net_graph.specs.Named.{IsBitOf, IsPointOf, thing_of, width_of}
use Rattle.net_graph.specs.Nets.{IsNet, IsMux, IsReg, IsRow, IsThing}
use Rattle.net_graph.specs.Path.{reg_source, row_of, rows_of}
use Rattle.net_graph.specs.PathNames.{mux_path, node_names, with_dot}
use Rattle.net_graph.specs.Signals.{Holds}
use Rattle.net_graph.proofs.Tracing.{reg_count}
use Rattle.net_graph.proofs.Widths.{register_there}
use Rattle.net_list.specs.Drivers.{index_of, register_path}
use Rattle.net_list.specs.Forms.{items, tern_digit, tern_digits, tern_text}
use Rattle.net_list.specs.Listing.{lines_from}
use Rattle.net_tree.specs.Lawful.{selects_of}
use Rattle.net_picture.specs.Dot.{dot_head, dot_text, edge_style, labelled_edge, mux_edges, mux_node}
use Rattle.net_picture.specs.Dot.{node_letters, node_number, node_style, node_text, output_edge}
use Rattle.net_picture.specs.Dot.{register_edge, register_node, row_line, row_source, select_edge}
use Rattle.net_picture.specs.Plan.{has_path}
use Rattle.net_picture.specs.Edges.{Node, Tdi, Tdo, Register, Multiplexer, Link, Source, Row, Select, Edge}
use Rattle.net_picture.specs.Edges.{node_of, edge_to_register, edge_of_row, edge_of_select, edges_to_mux}
use Rattle.net_picture.specs.Edges.{edge_to_scan_out, edges}
use Rattle.net_picture.specs.Labels.{ends_of, range_if, range_of, range_text, register_label, row_values}
use Rattle.net_picture.specs.Labels.{short, short_values}
use Rattle.net_picture.specs.Layout.{is_selected_row}
use Rattle.net_picture.specs.Met.{met, is_marked, is_on_path, is_mux_met}
use Rattle.net_picture.specs.ReadGraph.{read_graph}
use Rattle.net_picture.specs.Said.{Colour, Plain, Orange, Red, Said, Begins, Ends, HasNode, HasEdge}
use Rattle.net_picture.specs.Said.{edge_colour, node_colour, said_register, said_to_register, said_mux}
use Rattle.net_picture.specs.Said.{said_row, said_select, said_to_mux, said_to_scan_out, said, edge_in}
use Rattle.net_picture.proofs.Back.{register_met}
use Rattle.net_picture.proofs.Reading.{IsPlainByte, IsPlain, without, plain_both, plain_if, plain_take}
use Rattle.net_picture.proofs.Reading.{plain_drop, decimal_plain, number_again, name_plain, Reads, reads_none}
use Rattle.net_picture.proofs.Reading.{reads_both, IsWord, IsAttribute, IsTail, reads_edge, reads_node}
use Rattle.net_picture.proofs.Reading.{plain_style, dashed, labelled, labelled_alone, by_test}

-- ---- labels

names_plain : (names : List (Listed ℕ))
    → All (λ name. IsTrue (is_name name.items)) names → IsPlain (flat_map with_dot names)
names_plain [] all = tt
names_plain (name ∷ names) all =
    plain_both (with_dot name) (flat_map with_dot names)
    (plain_both name.items (46 ∷ []) (name_plain name.items
    (All-head (λ (n : Listed ℕ). IsTrue (is_name n.items)) name names all)) ((omega arith, refl), tt))
    (names_plain names (All-tail (λ (n : Listed ℕ). IsTrue (is_name n.items)) name names all))

nodes_plain : (nodes : List NodeOf) (n : ℕ)
    → All (λ node. All (λ name. IsTrue (is_name name.items)) node.path.items) nodes
    → IsPlain (flat_map with_dot (get_or (map (λ node. node.path.items) nodes) n []))
nodes_plain [] n all = tt
nodes_plain (node ∷ nodes) zero all =
    names_plain node.path.items
    (All-head (λ (x : NodeOf). All (λ name. IsTrue (is_name name.items)) x.path.items) node nodes all)
nodes_plain (node ∷ nodes) (suc n) all =
    nodes_plain nodes n
    (All-tail (λ (x : NodeOf). All (λ name. IsTrue (is_name name.items)) x.path.items) node nodes all)

things_plain : (net : Net) (things : List Thing) (t : ℕ) → All (IsThing net) things
    → IsPlain (get_or (map (λ thing. thing.name.items) things) t [])
things_plain net [] t all = tt
things_plain net (thing ∷ things) zero all =
    name_plain thing.name.items (All-head (IsThing net) thing things all).named
things_plain net (thing ∷ things) (suc t) all =
    things_plain net things t (All-tail (IsThing net) thing things all)

mux_names_plain : (net : Net) (muxes : List MuxOf) (m : ℕ) → All (IsMux net) muxes
    → IsPlain (get_or (map (λ mux. mux.name.items) muxes) m [])
mux_names_plain net [] m all = tt
mux_names_plain net (mux ∷ muxes) zero all =
    name_plain mux.name.items (All-head (IsMux net) mux muxes all).named
mux_names_plain net (mux ∷ muxes) (suc m) all =
    mux_names_plain net muxes m (All-tail (IsMux net) mux muxes all)

mux_plain : (net : Net) (m : ℕ) → IsNet net → IsPlain (mux_path net m)
mux_plain net m n =
    plain_both (flat_map with_dot (node_names net (get_or (map (λ mux. mux.node) net.muxes.items) m 0)))
    (get_or (map (λ mux. mux.name.items) net.muxes.items) m [])
    (nodes_plain net.nodes.items (get_or (map (λ mux. mux.node) net.muxes.items) m 0) n.path_names)
    (mux_names_plain net net.muxes.items m n.muxes)

path_plain : (net : Net) (r : ℕ) → IsNet net → IsPlain (register_path net r)
path_plain net r n =
    let t = thing_of net r in
    plain_both (flat_map with_dot (node_names net (get_or (map (λ thing. thing.node) net.things.items) t 0)))
    (get_or (map (λ thing. thing.name.items) net.things.items) t [])
    (nodes_plain net.nodes.items (get_or (map (λ thing. thing.node) net.things.items) t 0) n.path_names)
    (things_plain net net.things.items t n.things)

range_plain : (left right : ℕ) → IsPlain (range_of left right)
unfolding range_of
range_plain left right =
    let open_plain : IsPlain (codes "[") = ((omega arith, refl), tt) in
    let colon : IsPlain (codes ":") = ((omega arith, refl), tt) in
    let close : IsPlain (codes "]") = ((omega arith, refl), tt) in
    plain_both (codes "[") (decimal left ++ (codes ":" ++ (decimal right ++ (codes "]" ++ [])))) open_plain
    (plain_both (decimal left) (codes ":" ++ (decimal right ++ (codes "]" ++ []))) (decimal_plain left)
    (plain_both (codes ":") (decimal right ++ (codes "]" ++ [])) colon
    (plain_both (decimal right) (codes "]" ++ []) (decimal_plain right) close)))

label_plain : (net : Net) (r : ℕ) → IsNet net → IsPlain (register_label net r)
label_plain net r n =
    plain_both (register_path net r) (range_if net r) (path_plain net r n)
    (plain_if (width_of net r == 1) [] (range_text net r) tt (range_plain (index_of net
    (record { reg = r; pos = width_of net r - 1 })) (index_of net (record { reg = r; pos = 0 }))))

digit_plain : (t : Tern) (p : ℕ) → IsPlainByte (tern_digit t p)
digit_plain t p = cases (bit t.care.items p) (bit t.value.items p)
  where
    cases : (care value : Bool) → IsPlainByte (cond care (cond value 49 48) 120)
    cases true true = (omega arith, refl)
    cases true false = (omega arith, refl)
    cases false value = (omega arith, refl)

digits_plain : (t : Tern) (n : ℕ) → IsPlain (tern_digits t n)
digits_plain t zero = tt
digits_plain t (suc n) = (digit_plain t n, digits_plain t n)

values_plain : (before : List ℕ) (ts : List Tern) → IsPlain before
    → IsPlain (items tern_text (codes "|") before ts)
values_plain before [] plain = tt
values_plain before (t ∷ ts) plain =
    plain_both before (tern_text t ++ items tern_text (codes "|") (codes "|") ts) plain
    (plain_both (tern_text t) (items tern_text (codes "|") (codes "|") ts)
    (digits_plain t (length t.value.items)) (values_plain (codes "|") ts ((omega arith, refl), tt)))

row_plain : (rows : List RowOf) (q : ℕ) → IsPlain (row_values rows q)
row_plain [] q = tt
row_plain (row ∷ rows) zero = values_plain [] row.values.items tt
row_plain (row ∷ rows) (suc q) = row_plain rows q

short_plain : (h : ℕ) (text : List ℕ) → IsPlain text → IsPlain (short h text)
unfolding ends_of
short_plain h text plain =
    let back = drop (length text - h) text in
    let dots : IsPlain (codes "..") = ((omega arith, refl), ((omega arith, refl), tt)) in
    let back_plain : IsPlain (back ++ []) = plain_both back [] (plain_drop (length text - h) text plain) tt in
    plain_if (nat_le (length text) (2 * h + 2)) text (ends_of (take h text) back) plain
    (plain_both (take h text) (codes ".." ++ (back ++ [])) (plain_take h text plain)
    (plain_both (codes "..") (back ++ []) dots back_plain))

-- ---- points

small : (r n : ℕ) → r < n → n ≤ 4096 → r < 2 ^ 64
small r n less few = omega (arith, less, few)

register_word : (net : Net) (r : ℕ) → IsNet net
    → r < length net.regs.items → IsWord 114 (decimal r) (Register r)
register_word net r n less = record {
  no_feed = (refl, without 10 (decimal r) (omega arith) (decimal_plain r));
  no_blank = (refl, without 32 (decimal r) (omega arith) (decimal_plain r));
  no_keyword = refl;
  named = ap (λ (o : Option ℕ). option_map Register o)
      (number_again r (small r (length net.regs.items) less (reg_count net n)));
}

mux_word : (net : Net) (m : ℕ) → IsNet net → m < length net.muxes.items
    → IsWord 109 (decimal m) (Multiplexer m)
mux_word net m n less = record {
  no_feed = (refl, without 10 (decimal m) (omega arith) (decimal_plain m));
  no_blank = (refl, without 32 (decimal m) (omega arith) (decimal_plain m));
  no_keyword = refl;
  named = ap (λ (o : Option ℕ). option_map Multiplexer o)
      (number_again m (small m (length net.muxes.items) less (omega (arith, n.few_muxes))));
}

tdi_word : IsWord 116 (codes "di") Tdi
tdi_word = record {
  no_feed = by_test 10 (codes "tdi") refl;
  no_blank = by_test 32 (codes "tdi") refl;
  no_keyword = refl;
  named = refl;
}

tdo_word : IsWord 116 (codes "do") Tdo
tdo_word = record {
  no_feed = by_test 10 (codes "tdo") refl;
  no_blank = by_test 32 (codes "tdo") refl;
  no_keyword = refl;
  named = refl;
}

module _ (net : Net) (n : IsNet net) where
  from_point : (p : Point) → IsPointOf net p
      → (b : ℕ) (ys text label : List ℕ) (to : Node) (link : Link) (colour : Colour)
      → IsWord b ys to → IsAttribute text link label colour
      → Reads (codes "  "
      ++ (node_letters p ++ (node_number p ++ (32 ∷ 45 ∷ 62 ∷ 32 ∷ b ∷ (ys ++ 32 ∷ 91 ∷ text)))))
      (HasEdge (record { from = node_of p; to = to; link = link }) colour ∷ [])
  from_point Entry there b ys text label to link colour t a =
      reads_edge 116 b (codes "di") ys text label Tdi to link colour tdi_word t a
  from_point (Reg r) there b ys text label to link colour t a =
      reads_edge 114 b (decimal r) ys text label (Register r) to link colour (register_word net r n there) t a
  from_point (Mux m) there b ys text label to link colour t a =
      reads_edge 109 b (decimal m) ys text label (Multiplexer m) to link colour (mux_word net m n there) t a

  sources_there : (regs : List RegOf) (r : ℕ) → All (IsReg net) regs
      → IsPointOf net (get_or (map (λ reg. reg.from) regs) r Entry)
  sources_there [] r all = tt
  sources_there (reg ∷ regs) zero all = (All-head (IsReg net) reg regs all).source
  sources_there (reg ∷ regs) (suc r) all = sources_there regs r (All-tail (IsReg net) reg regs all)

  rows_there : (width : ℕ) (rows : List RowOf) (q : ℕ) → All (IsRow net width) rows
      → IsPointOf net (get_or (map (λ row. row.from) rows) q Entry)
  rows_there width [] q all = tt
  rows_there width (row ∷ rows) zero all = (All-head (IsRow net width) row rows all).source
  rows_there width (row ∷ rows) (suc q) all =
      rows_there width rows q (All-tail (IsRow net width) row rows all)

  muxes_there : (muxes : List MuxOf) (m q : ℕ) → All (IsMux net) muxes → IsPointOf net
      (get_or (map (λ row. row.from) (get_or (map (λ mux. mux.rows.items) muxes) m [])) q Entry)
  muxes_there [] m q all = tt
  muxes_there (mux ∷ muxes) zero q all =
      rows_there (length mux.select.items) mux.rows.items q (All-head (IsMux net) mux muxes all).rows
  muxes_there (mux ∷ muxes) (suc m) q all = muxes_there muxes m q (All-tail (IsMux net) mux muxes all)

  selects_there : (muxes : List MuxOf) (m : ℕ) → All (IsMux net) muxes
      → All (IsBitOf net) (get_or (map (λ mux. mux.select.items) muxes) m [])
  selects_there [] m all = All-nil (IsBitOf net)
  selects_there (mux ∷ muxes) zero all = (All-head (IsMux net) mux muxes all).select
  selects_there (mux ∷ muxes) (suc m) all = selects_there muxes m (All-tail (IsMux net) mux muxes all)

  -- ---- edges

  read_register_edge : (points : List Point) (r : ℕ)
      → r < length net.regs.items → Reads (register_edge net points r)
      (HasEdge (edge_to_register net r) (edge_colour (is_on_path points (Reg r))) ∷ [])
  unfolding register_edge
  read_register_edge points r less =
      let style = edge_style (is_on_path points (Reg r)) ++ (codes "];\n" ++ []) in
      from_point (reg_source net r) (sources_there net.regs.items r n.regs) 114 (decimal r) style []
      (Register r) Source (edge_colour (is_on_path points (Reg r)))
      (register_word net r n less) (plain_style (is_on_path points (Reg r)))

  edge_tail : (active : Bool) → IsTail (edge_style active ++ (codes "];\n" ++ [])) (edge_colour active)
  edge_tail true = record {
    rest = codes "color=\"#d55e00\", penwidth=3];";
    found = record { key = codes "color"; value = codes "#d55e00"; is_last = false }
        ∷ record { key = codes "penwidth"; value = codes "3"; is_last = true } ∷ [];
    ended = record { ended = refl; free = by_test 10 (codes "color=\"#d55e00\", penwidth=3];") refl };
    found_are = refl;
    no_label = λ v. refl;
    colour_is = refl;
  }
  edge_tail false = record {
    rest = codes "color=\"#868e96\"];";
    found = record { key = codes "color"; value = codes "#868e96"; is_last = true } ∷ [];
    ended = record { ended = refl; free = by_test 10 (codes "color=\"#868e96\"];") refl };
    found_are = refl;
    no_label = λ v. refl;
    colour_is = refl;
  }

  read_labelled_edge : (p : Point) → IsPointOf net p → (m : ℕ) → m < length net.muxes.items
      → (values : List ℕ) (active : Bool) → IsPlain values
      → Reads (labelled_edge (node_letters p) (node_number p) m values (edge_style active)) (HasEdge
      (record { from = node_of p; to = Multiplexer m; link = Row values }) (edge_colour active) ∷ [])
  unfolding labelled_edge
  read_labelled_edge p there m less values active plain =
      let style = edge_style active ++ (codes "];\n" ++ []) in
      from_point p there 109 (decimal m) (codes "label=\"" ++ (values ++ (codes "\", " ++ style))) values
      (Multiplexer m) (Row values) (edge_colour active) (mux_word net m n less)
      (labelled values plain style (edge_colour active) (edge_tail active))

  read_row_line : (active : Bool) (selected : Option ℕ) (m q : ℕ) → m < length net.muxes.items
      → Reads (row_line net active selected m q)
      (HasEdge (edge_of_row net m q) (edge_colour (active && is_selected_row selected q)) ∷ [])
  read_row_line active selected m q less =
      read_labelled_edge (row_source net m q) (muxes_there net.muxes.items m q n.muxes) m less
      (short_values net m q) (active && is_selected_row selected q)
      (short_plain 7 (row_values (rows_of net m) q) (row_plain (rows_of net m) q))

  read_select_edge : (m : ℕ) (b : BitId) → m < length net.muxes.items → IsBitOf net b
      → Reads (select_edge m b) (said_select m b ∷ [])
  unfolding select_edge
  read_select_edge m b less there =
      let text = codes "style=dashed, color=\"#868e96\", constraint=false];\n" ++ [] in
      from_point (Reg b.reg) (register_there net b there) 109 (decimal m) text []
      (Multiplexer m) Select Plain (mux_word net m n less) dashed

  -- the last edge has the end of the text after it
  read_output : (on : Bool) (p : Point) → IsPointOf net p → Reads (codes "  " ++ (node_letters p
      ++ (node_number p ++ (codes " -> tdo [" ++ (edge_style on ++ (codes "];\n}\n" ++ []))))))
      (HasEdge (record { from = node_of p; to = Tdo; link = Source }) (edge_colour on) ∷ Ends ∷ [])
  read_output on p there = cases p there
    where
      text : List ℕ
      text = edge_style on ++ (codes "];\n" ++ [])

      last : Reads (codes "}\n") (Ends ∷ [])
      last = λ rest. refl

      tail : List ℕ
      tail = 32 ∷ 45 ∷ 62 ∷ 32 ∷ 116 ∷ (codes "do" ++ 32 ∷ 91 ∷ text)

      edge : Node → Said
      edge from = HasEdge (record { from = from; to = Tdo; link = Source }) (edge_colour on)

      after : List ℕ → List ℕ
      after t = 32 ∷ 45 ∷ 62 ∷ 32 ∷ 116 ∷ (codes "do" ++ 32 ∷ 91 ∷ t)

      closed : after text ++ codes "}\n" ≡ after (edge_style on ++ (codes "];\n}\n" ++ []))
      closed = ap after (append_assoc (edge_style on) (codes "];\n" ++ []) (codes "}\n"))

      -- letters and digits before it
      numbered : (letter : ℕ) (digits : List ℕ) (from : Node)
          → Reads (32 ∷ 32 ∷ letter ∷ (digits ++ tail)) (edge from ∷ [])
          → Reads (32 ∷ 32 ∷ letter ∷ (digits ++ after (edge_style on ++ (codes "];\n}\n" ++ []))))
          (edge from ∷ Ends ∷ [])
      numbered letter digits from reads =
          subst (λ (t : List ℕ). Reads (32 ∷ 32 ∷ letter ∷ t) (edge from ∷ Ends ∷ []))
          (append_assoc digits tail (codes "}\n") ∙ ap (λ (t : List ℕ). digits ++ t) closed)
          (reads_both (32 ∷ 32 ∷ letter ∷ (digits ++ tail)) (codes "}\n")
          (edge from ∷ []) (Ends ∷ []) reads last)

      cases : (p : Point) → IsPointOf net p → Reads (codes "  " ++ (node_letters p
          ++ (node_number p ++ (codes " -> tdo [" ++ (edge_style on ++ (codes "];\n}\n" ++ []))))))
          (edge (node_of p) ∷ Ends ∷ [])
      cases Entry there = numbered 116 (codes "di") Tdi (from_point Entry there 116 (codes "do") text
          [] Tdo Source (edge_colour on) tdo_word (plain_style on))
      cases (Reg r) there =
          numbered 114 (decimal r) (Register r) (from_point (Reg r) there 116 (codes "do") text [] Tdo Source
          (edge_colour on) tdo_word (plain_style on))
      cases (Mux m) there =
          numbered 109 (decimal m) (Multiplexer m) (from_point (Mux m) there 116 (codes "do") text
          [] Tdo Source (edge_colour on) tdo_word (plain_style on))

  read_output_edge : (on : Bool)
      → Reads (output_edge net on) (HasEdge (edge_to_scan_out net) (edge_colour on) ∷ Ends ∷ [])
  unfolding output_edge
  read_output_edge on = read_output on net.out n.output

  -- ---- nodes

  -- what comes after a label, and what it says of colour
  abbrev ReadsStyle : List ℕ → Colour → Type 0
  ReadsStyle after colour = (label : List ℕ) → IsPlain label
      → IsAttribute (codes "label=\"" ++ (label ++ after)) (Row label) label colour

  register_style : (marked active : Bool) → ReadsStyle
      (codes "\"" ++ (node_style marked active ++ (codes "];\n" ++ []))) (node_colour marked active)
  register_style true active label plain = labelled label plain
      (codes "style=filled, fillcolor=\"#ffb3b3\", color=\"#e00000\", penwidth=3];\n") Red (record {
        rest = codes "style=filled, fillcolor=\"#ffb3b3\", color=\"#e00000\", penwidth=3];";
        found = record { key = codes "style"; value = codes "filled"; is_last = false }
            ∷ record { key = codes "fillcolor"; value = codes "#ffb3b3"; is_last = false }
            ∷ record { key = codes "color"; value = codes "#e00000"; is_last = false }
            ∷ record { key = codes "penwidth"; value = codes "3"; is_last = true } ∷ [];
        ended = record {
          ended = refl;
          free =
              by_test 10 (codes "style=filled, fillcolor=\"#ffb3b3\", color=\"#e00000\", penwidth=3];") refl;
        };
        found_are = refl;
        no_label = λ v. refl;
        colour_is = refl;
      })
  register_style false true label plain =
      labelled label plain (codes "color=\"#d55e00\", penwidth=3];\n") Orange (record {
        rest = codes "color=\"#d55e00\", penwidth=3];";
        found = record { key = codes "color"; value = codes "#d55e00"; is_last = false }
            ∷ record { key = codes "penwidth"; value = codes "3"; is_last = true } ∷ [];
        ended = record { ended = refl; free = by_test 10 (codes "color=\"#d55e00\", penwidth=3];") refl };
        found_are = refl;
        no_label = λ v. refl;
        colour_is = refl;
      })
  register_style false false label plain = labelled_alone label plain

  mux_style : (marked active : Bool) → ReadsStyle (codes "\", shape=trapezium, orientation=270"
      ++ (node_style marked active ++ (codes "];\n" ++ []))) (node_colour marked active)
  mux_style true active label plain = labelled label plain (codes
      "shape=trapezium, orientation=270, style=filled, fillcolor=\"#ffb3b3\", color=\"#e00000\", penwidth=3];\n")
      Red (record {
        rest = codes
            "shape=trapezium, orientation=270, style=filled, fillcolor=\"#ffb3b3\", color=\"#e00000\", penwidth=3];";
        found = record { key = codes "shape"; value = codes "trapezium"; is_last = false }
            ∷ record { key = codes "orientation"; value = codes "270"; is_last = false }
            ∷ record { key = codes "style"; value = codes "filled"; is_last = false }
            ∷ record { key = codes "fillcolor"; value = codes "#ffb3b3"; is_last = false }
            ∷ record { key = codes "color"; value = codes "#e00000"; is_last = false }
            ∷ record { key = codes "penwidth"; value = codes "3"; is_last = true } ∷ [];
        ended = record {
          ended = refl;
          free = by_test 10 (codes
              "shape=trapezium, orientation=270, style=filled, fillcolor=\"#ffb3b3\", color=\"#e00000\", penwidth=3];")
              refl;
        };
        found_are = refl;
        no_label = λ v. refl;
        colour_is = refl;
      })
  mux_style false true label plain = labelled label plain
      (codes "shape=trapezium, orientation=270, color=\"#d55e00\", penwidth=3];\n") Orange (record {
        rest = codes "shape=trapezium, orientation=270, color=\"#d55e00\", penwidth=3];";
        found = record { key = codes "shape"; value = codes "trapezium"; is_last = false }
            ∷ record { key = codes "orientation"; value = codes "270"; is_last = false }
            ∷ record { key = codes "color"; value = codes "#d55e00"; is_last = false }
            ∷ record { key = codes "penwidth"; value = codes "3"; is_last = true } ∷ [];
        ended = record {
          ended = refl;
          free =
              by_test 10 (codes "shape=trapezium, orientation=270, color=\"#d55e00\", penwidth=3];") refl;
        };
        found_are = refl;
        no_label = λ v. refl;
        colour_is = refl;
      })
  mux_style false false label plain =
      labelled label plain (codes "shape=trapezium, orientation=270];\n") Plain (record {
        rest = codes "shape=trapezium, orientation=270];";
        found = record { key = codes "shape"; value = codes "trapezium"; is_last = false }
            ∷ record { key = codes "orientation"; value = codes "270"; is_last = true } ∷ [];
        ended = record { ended = refl; free = by_test 10 (codes "shape=trapezium, orientation=270];") refl };
        found_are = refl;
        no_label = λ v. refl;
        colour_is = refl;
      })

  read_node : (letter k : ℕ) (node : Node) (label form style : List ℕ) (colour : Colour)
      → IsWord letter (decimal k) node → IsPlain label
      → ReadsStyle (form ++ (style ++ (codes "];\n" ++ []))) colour
      → Reads (node_text (32 ∷ 32 ∷ letter ∷ []) k label form style) (HasNode node label colour ∷ [])
  unfolding node_text
  read_node letter k node label form style colour word plain reads =
      reads_node letter (decimal k) (codes "label=\"" ++ (label ++ (form ++ (style ++ (codes "];\n" ++ [])))))
      label node (Row label) colour word (reads label plain)

  read_register_node : (marked : Option Point) (points : List Point) (r : ℕ) → r < length net.regs.items
      → Reads (register_node net marked points r) (HasNode (Register r) (register_label net r)
      (node_colour (is_marked marked (Reg r)) (is_on_path points (Reg r))) ∷ [])
  read_register_node marked points r less =
      let active = is_on_path points (Reg r) in
      let red = is_marked marked (Reg r) in
      read_node 114 r (Register r) (register_label net r) (codes "\"") (node_style red active)
      (node_colour red active) (register_word net r n less)
      (label_plain net r n) (register_style red active)

  read_mux_node : (marked : Option Point) (points : List Point) (m : ℕ) → m < length net.muxes.items
      → Reads (mux_node net marked points m) (HasNode (Multiplexer m) (mux_path net m)
      (node_colour (is_marked marked (Mux m)) (is_on_path points (Mux m))) ∷ [])
  read_mux_node marked points m less =
      let active = is_on_path points (Mux m) in
      let red = is_marked marked (Mux m) in
      read_node 109 m (Multiplexer m) (mux_path net m) (codes "\", shape=trapezium, orientation=270")
      (node_style red active) (node_colour red active) (mux_word net m n less)
      (mux_plain net m n) (mux_style red active)

  -- ---- many lines

  read_lines : (line : ℕ → List ℕ) (found : ℕ → List Said) (i k : ℕ)
      → ((j : ℕ) → j < i + k → Reads (line j) (found j))
      → Reads (lines_from line i k) (flat_map found (range_with_len i k))
  read_lines line found i zero each = reads_none
  read_lines line found i (suc k) each =
      let next : suc i ≡ i + 1 = omega arith in
      let rest : Reads (lines_from line (suc i) k) (flat_map found (range_with_len (suc i) k)) =
      read_lines line found (suc i) k (λ j less. each j (omega (arith, less))) in
      reads_both (line i) (lines_from line (suc i) k) (found i)
      (flat_map found (range_with_len (i + 1) k)) (each i (omega arith))
      (subst (λ (at : ℕ). Reads (lines_from line (suc i) k) (flat_map found (range_with_len at k))) next rest)

  one_each : {T : Type 0} (f : T → Said) (xs : List T) → flat_map (λ x. f x ∷ []) xs ≡ map f xs
  one_each f [] = refl
  one_each f (x ∷ xs) = ap (λ (es : List Said). f x ∷ es) (one_each f xs)

  -- this many lines, one for each number
  read_each : (line : ℕ → List ℕ) (found : ℕ → Said) (k : ℕ)
      → ((j : ℕ) → j < k → Reads (line j) (found j ∷ []))
      → Reads (lines_from line 0 k) (map found (range_with_len 0 k))
  read_each line found k each =
      subst (Reads (lines_from line 0 k)) (one_each found (range_with_len 0 k))
      (read_lines line (λ j. found j ∷ []) 0 k (λ j less. each j (omega (arith, less))))

  read_selects : (m : ℕ) (bits : List BitId) → m < length net.muxes.items → All (IsBitOf net) bits
      → Reads (flat_map (select_edge m) bits) (map (said_select m) bits)
  read_selects m [] less all = reads_none
  read_selects m (b ∷ bits) less all =
      reads_both (select_edge m b) (flat_map (select_edge m) bits)
      (said_select m b ∷ []) (map (said_select m) bits)
      (read_select_edge m b less (All-head (IsBitOf net) b bits all))
      (read_selects m bits less (All-tail (IsBitOf net) b bits all))

  read_mux_edges : (holds : Holds) (m : ℕ) → m < length net.muxes.items
      → Reads (mux_edges net holds (met net holds) m) (said_to_mux net holds m)
  read_mux_edges holds m less =
      let active = is_mux_met net holds m in
      let selected = row_of net holds m in
      let count = length (rows_of net m) in
      reads_both (lines_from (row_line net active selected m) 0 count)
      (flat_map (select_edge m) (selects_of net m)) (map (said_row net holds m) (range_with_len 0 count))
      (map (said_select m) (selects_of net m))
      (read_each (row_line net active selected m) (said_row net holds m) count
      (λ q below. read_row_line active selected m q less))
      (read_selects m (selects_of net m) less (selects_there net.muxes.items m n.muxes))

  read_head : Reads dot_head (Begins ∷ HasNode Tdi (codes "TDI") Plain ∷ HasNode Tdo (codes "TDO") Plain ∷ [])
  unfolding dot_head
  read_head = λ rest. refl

  -- ---- the whole text

  module _ (holds : Holds) (marked : Option Point) where
    register_line : (r : ℕ) → r < length net.regs.items
        → Reads (register_node net marked (met net holds) r) (said_register net holds marked r ∷ [])
    register_line r less =
        subst (λ (b : Bool). Reads (register_node net marked (met net holds) r)
        (HasNode (Register r) (register_label net r) (node_colour (is_marked marked (Reg r)) b) ∷ []))
        (register_met net holds r)
        (read_register_node marked (met net holds) r less)

    register_edge_line : (r : ℕ) → r < length net.regs.items
        → Reads (register_edge net (met net holds) r) (said_to_register net holds r ∷ [])
    register_edge_line r less =
        subst (λ (b : Bool). Reads (register_edge net (met net holds) r)
        (HasEdge (edge_to_register net r) (edge_colour b) ∷ [])) (register_met net holds r)
        (read_register_edge (met net holds) r less)

    read_dot : Reads (dot_text net holds marked) (said net holds marked)
    read_dot =
        let regs = length net.regs.items in
        let muxes = length net.muxes.items in
        let ps = met net holds in
        let nodes = lines_from (register_node net marked ps) 0 regs in
        let funnels = lines_from (mux_node net marked ps) 0 muxes in
        let to_regs = lines_from (register_edge net ps) 0 regs in
        let to_muxes = lines_from (mux_edges net holds ps) 0 muxes in
        let out = output_edge net (has_path net holds) in
        let head : List Said = Begins ∷ HasNode Tdi (codes "TDI") Plain
        ∷ HasNode Tdo (codes "TDO") Plain ∷ [] in
        let one = map (said_register net holds marked) (range_with_len 0 regs) in
        let two = map (said_mux net holds marked) (range_with_len 0 muxes) in
        let three = map (said_to_register net holds) (range_with_len 0 regs) in
        let four = flat_map (said_to_mux net holds) (range_with_len 0 muxes) in
        let five : List Said = said_to_scan_out net holds ∷ Ends ∷ [] in
        let all : head ++ (one ++ (two ++ (three ++ (four ++ five)))) ≡ said net holds marked =
        ap (λ (xs : List Said). head ++ xs)
        (sym (append_assoc one two (three ++ (four ++ five)))
        ∙ ap (λ (xs : List Said). (one ++ two) ++ xs) (ap (λ (xs : List Said). three ++ xs)
        (sym (append_assoc four (said_to_scan_out net holds ∷ []) (Ends ∷ [])))
        ∙ sym (append_assoc three (four ++ said_to_scan_out net holds ∷ []) (Ends ∷ [])))) in
        subst (Reads (dot_text net holds marked)) all
        (reads_both dot_head (nodes ++ (funnels ++ (to_regs ++ (to_muxes ++ out)))) head
        (one ++ (two ++ (three ++ (four ++ five)))) read_head
        (reads_both nodes (funnels ++ (to_regs ++ (to_muxes ++ out))) one (two ++ (three ++ (four ++ five)))
        (read_each (register_node net marked ps) (said_register net holds marked) regs register_line)
        (reads_both funnels (to_regs ++ (to_muxes ++ out)) two (three ++ (four ++ five)) (read_each (mux_node
        net marked ps) (said_mux net holds marked) muxes (λ m less. read_mux_node marked ps m less))
        (reads_both to_regs (to_muxes ++ out) three (four ++ five)
        (read_each (register_edge net ps) (said_to_register net holds) regs register_edge_line)
        (reads_both to_muxes out four five (read_lines (mux_edges net holds ps)
        (said_to_mux net holds) 0 muxes (λ m below. read_mux_edges holds m (omega (arith, below))))
        (read_output_edge (has_path net holds)))))))

pub graph_read : (net : Net) (holds : Holds) (marked : Option Point) → IsNet net
    → read_graph (dot_text net holds marked) ≡ said net holds marked
graph_read net holds marked n =
    ap read_graph (sym (append-nil (dot_text net holds marked)))
    ∙ read_dot net n holds marked [] ∙ append-nil (said net holds marked)

-- ---- the edges among what is said

edges_of : {T : Type 0} (f : T → Said) (g : T → Edge) (xs : List T) → ((x : T) → edge_in (f x) ≡ g x ∷ [])
    → flat_map edge_in (map f xs) ≡ map g xs
edges_of f g [] each = refl
edges_of f g (x ∷ xs) each =
    ap (λ (es : List Edge). es ++ flat_map edge_in (map f xs)) (each x)
    ∙ ap (λ (es : List Edge). g x ∷ es) (edges_of f g xs each)

no_edges : {T : Type 0} (f : T → Said) (xs : List T)
    → ((x : T) → edge_in (f x) ≡ []) → flat_map edge_in (map f xs) ≡ []
no_edges f [] each = refl
no_edges f (x ∷ xs) each =
    ap (λ (es : List Edge). es ++ flat_map edge_in (map f xs)) (each x) ∙ no_edges f xs each

mux_edges_of : (net : Net) (holds : Holds) (ms : List ℕ)
    → flat_map edge_in (flat_map (said_to_mux net holds) ms) ≡ flat_map (edges_to_mux net) ms
mux_edges_of net holds [] = refl
mux_edges_of net holds (m ∷ ms) =
    let count = range_with_len 0 (length (rows_of net m)) in
    flat_map-append edge_in (said_to_mux net holds m) (flat_map (said_to_mux net holds) ms)
    ∙ ap (λ (es : List Edge). es ++ flat_map edge_in (flat_map (said_to_mux net holds) ms))
    (flat_map-append edge_in (map (said_row net holds m) count) (map (said_select m) (selects_of net m))
    ∙ ap (λ (es : List Edge). es ++ flat_map edge_in (map (said_select m) (selects_of net m)))
    (edges_of (said_row net holds m) (edge_of_row net m) count (λ q. refl))
    ∙ ap (λ (es : List Edge). map (edge_of_row net m) count ++ es)
    (edges_of (said_select m) (edge_of_select m) (selects_of net m) (λ b. refl)))
    ∙ ap (λ (es : List Edge). edges_to_mux net m ++ es) (mux_edges_of net holds ms)

pub edges_said : (net : Net) (holds : Holds) (marked : Option Point)
    → flat_map edge_in (said net holds marked) ≡ edges net
edges_said net holds marked =
    let regs = range_with_len 0 (length net.regs.items) in
    let muxes = range_with_len 0 (length net.muxes.items) in
    let nodes : List Said = map (said_register net holds marked) regs
    ++ map (said_mux net holds marked) muxes in
    let last : List Said = said_to_scan_out net holds ∷ [] in
    let to_muxes : List Said = flat_map (said_to_mux net holds) muxes in
    let to_regs : List Said = map (said_to_register net holds) regs in
    let none : flat_map edge_in nodes ≡ [] =
    flat_map-append edge_in (map (said_register net holds marked) regs)
    (map (said_mux net holds marked) muxes)
    ∙ ap (λ (es : List Edge). es ++ flat_map edge_in (map (said_mux net holds marked) muxes))
    (no_edges (said_register net holds marked) regs (λ r. refl))
    ∙ no_edges (said_mux net holds marked) muxes (λ m. refl) in
    flat_map-append edge_in nodes ((to_regs ++ (to_muxes ++ last)) ++ Ends ∷ [])
    ∙ ap (λ (es : List Edge). es ++ flat_map edge_in ((to_regs ++ (to_muxes ++ last)) ++ Ends ∷ [])) none
    ∙ flat_map-append edge_in (to_regs ++ (to_muxes ++ last)) (Ends ∷ [])
    ∙ append-nil (flat_map edge_in (to_regs ++ (to_muxes ++ last)))
    ∙ flat_map-append edge_in to_regs (to_muxes ++ last)
    ∙ ap (λ (es : List Edge). es ++ flat_map edge_in (to_muxes ++ last))
    (edges_of (said_to_register net holds) (edge_to_register net) regs (λ r. refl))
    ∙ ap (λ (es : List Edge). map (edge_to_register net) regs ++ es)
    (flat_map-append edge_in to_muxes last
    ∙ ap (λ (es : List Edge). es ++ edge_to_scan_out net ∷ []) (mux_edges_of net holds muxes))
