-- Worked examples, by hand.
use Rattle.std.specs.Prelude.{◌≡◌, true, false, [], ◌∷◌, codes, Some, refl}
use Rattle.net_tree.specs.Form.{Items, Nothing, RegThen, MuxThen, NoRow, RowThen}
use Rattle.net_picture.specs.declared.shape.Shape.TheVariants.{Register, Mux, Values, Wire}
use Rattle.net_picture.specs.Drawing.{drawing_by, shapes_of}
use Rattle.net_picture.specs.Edges.{Tdi, Tdo, Source}
use Rattle.net_picture.specs.Labels.{ends_of, short}
use Rattle.net_picture.specs.Plan.{Plan}
use Rattle.net_picture.specs.ReadGraph.{read_graph}
use Rattle.net_picture.specs.Rows.{row_colours}
use Rattle.net_picture.specs.Said.{Orange, HasEdge, Comment, Unread}

-- one register, whose box is 84 wide
abbrev flat : Plan
flat = record { boxes = 84 ∷ []; muxes = [] }

flat_shapes : shapes_of true flat (RegThen 0 Nothing)
    ≡ Wire 48 36 48 66 36 true ∷ Register 0 66 36 84 true ∷ Wire 150 36 150 168 36 true ∷ []
flat_shapes = refl

flat_width : (drawing_by true flat (RegThen 0 Nothing)).width ≡ 216
flat_width = refl

flat_height : (drawing_by true flat (RegThen 0 Nothing)).height ≡ 72
flat_height = refl

-- a register after an insertion bit, which is closed
abbrev closed : Plan
closed =
    record { boxes = 49 ∷ 49 ∷ []; muxes = record { values = 16; name = 34; row = Some 0 } ∷ [] }

abbrev sib : Items
sib = MuxThen 0 (RowThen Nothing (RowThen (RegThen 0 Nothing) NoRow)) (RegThen 1 Nothing)

sib_shapes : shapes_of true closed sib ≡
    Wire 48 36 48 66 36 true ∷ Wire 66 36 74 82 36 true ∷ Wire 66 36 74 82 76 false
    ∷ Wire 82 76 82 100 76 false ∷ Register 0 100 76 49 false
    ∷ Mux 0 165 36 40 true ∷ Wire 82 36 82 165 36 true ∷ Values 0 0 165 36 ∷ Wire 165 36 172 179 36 true
    ∷ Wire 149 76 149 165 76 false ∷ Values 0 1 165 76
    ∷ Wire 179 36 179 213 36 true ∷ Wire 213 36 213 231 36 true
    ∷ Register 1 231 36 49 true ∷ Wire 280 36 280 298 36 true ∷ []
sib_shapes = refl

-- a third box on a line of 1000 units is on the next one
abbrev wide : Plan
wide = record { boxes = 500 ∷ 500 ∷ 40 ∷ []; muxes = [] }

wide_shapes : shapes_of true wide (RegThen 0 (RegThen 1 (RegThen 2 Nothing))) ≡
    Wire 48 36 48 66 36 true ∷ Register 0 66 36 500 true
    ∷ Wire 566 36 566 584 36 true ∷ Register 1 584 36 500 true
    ∷ Wire 1084 36 1093 48 56 true ∷ Wire 48 56 48 48 82 true ∷ Wire 48 82 48 66 82 true
    ∷ Register 2 66 82 40 true ∷ Wire 106 82 106 124 82 true ∷ []
wide_shapes = refl

-- labels
cut_label : short 3 (codes "core.uart.R") ≡ codes "cor..t.R"
unfolding ends_of
cut_label = refl

whole_label : short 3 (codes "uart.R.x") ≡ codes "uart.R.x"
whole_label = refl

-- of the two rows of the insertion bit the first is in colour
row_in_colour : row_colours 0 0 (shapes_of true closed sib) ≡ true ∷ []
row_in_colour = refl

row_without_colour : row_colours 0 1 (shapes_of true closed sib) ≡ false ∷ []
row_without_colour = refl

-- a comment, and an edge with two colours, of which the last counts
read_edge : read_graph (codes "// why\n  tdi -> tdo [color=\"#868e96\", color=\"#d55e00\"];\n")
    ≡ Comment (codes "why") ∷ HasEdge (record { from = Tdi; to = Tdo; link = Source }) Orange ∷ []
read_edge = refl

-- a chain of edges can't be read
read_chain : read_graph (codes "tdi -> tdo -> tdi [color=\"#868e96\"];\n")
    ≡ Unread (codes "tdi -> tdo -> tdi [color=\"#868e96\"];") ∷ []
read_chain = refl
