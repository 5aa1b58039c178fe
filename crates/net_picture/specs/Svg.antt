-- The text of a drawing: scalable vector graphics (W3C, SVG 1.1), in two layers, the active path on top.
use Rattle.std.specs.Prelude.{ℕ, ◌/◌, Bool, true, false, List, [], ◌∷◌, ◌++◌, codes, cond, decimal}
use Rattle.std.specs.List.{flat_map}
use Rattle.ij_bits.specs.BitLists.{same_bit}
use Rattle.net_graph.specs.declared.net.Net.{Net}
use Rattle.net_graph.specs.PathNames.{mux_path}
use Rattle.net_graph.specs.Signals.{Holds}
use Rattle.net_tree.specs.Form.{Items}
use Rattle.net_list.specs.declared.format.ListFormat.TheVariants.{Text}
use Rattle.net_list.specs.Lines.{reset_text, rows_text, muxes_selected_by, selects_of_text, selects_text}
use Rattle.net_list.specs.Lines.{width_text}
use Rattle.net_picture.specs.declared.drawing.View.{View}
use Rattle.net_picture.specs.declared.shape.Shape.{Shape}
use Rattle.net_picture.specs.declared.shape.Shape.TheVariants.{Register, Mux, Values, Wire}
use Rattle.net_picture.specs.Captures.{captures_text}
use Rattle.net_picture.specs.Drawing.{Drawing, drawing_of}
use Rattle.net_picture.specs.Labels.{register_label, short_mux, short_register, short_values}

-- a register's tooltip: its path, bits and reset value, the multiplexers in which it selects, and the outputs
-- of instruments that it captures
abbrev pub register_title : Net → ℕ → List ℕ
register_title net r =
    register_label net r ++ (width_text Text net r
    ++ (codes " reset " ++ (reset_text net r ++ (selects_text Text net r ++ captures_text net r))))

-- a multiplexer's tooltip: its path, what selects, and its rows
abbrev pub mux_title : Net → ℕ → List ℕ
mux_title net m =
    mux_path net m
    ++ (codes "\nselect " ++ (selects_of_text Text net m ++ (codes "\n" ++ rows_text Text net m)))

-- a class of the style sheet, and another one on the active path
abbrev pub class_text : Bool → List ℕ → List ℕ → List ℕ
class_text active on off = cond active on off

-- a box is round at its ends where its register selects
abbrev pub corner_radius : List ℕ → ℕ
corner_radius [] = 3
corner_radius (m ∷ ms) = 13

-- a box with its tooltip and its label
unfoldable pub box_text : List ℕ → List ℕ → List ℕ → ℕ → ℕ → ℕ → ℕ → List ℕ
box_text title label class round x y width =
    codes "<g transform=\"translate(" ++ (decimal x ++ (codes " " ++ (decimal y ++ (codes ")\"><title>"
    ++ (title ++ (codes "</title><rect class=\"" ++ (class ++ (codes "\" y=\"-13\" width=\"" ++ (decimal
    width ++ (codes "\" height=\"26\" rx=\"" ++ (decimal round ++ (codes "\"/><text class=\"n\" x=\"" ++
    (decimal (width / 2) ++ (codes "\" y=\"4\">" ++ (label ++ (codes "</text></g>\n" ++ []))))))))))))))))

abbrev pub register_text : Net → ℕ → ℕ → ℕ → ℕ → Bool → List ℕ
register_text net r x y width active =
    box_text (register_title net r) (short_register net r)
    (class_text active (codes "b a") (codes "b")) (corner_radius (muxes_selected_by net r)) x y width

-- a funnel with its tooltip and its label
unfoldable pub funnel_text : List ℕ → List ℕ → List ℕ → ℕ → ℕ → ℕ → List ℕ
funnel_text title label class x y height =
    codes "<g transform=\"translate(" ++ (decimal x ++ (codes " "
    ++ (decimal y ++ (codes ")\"><title>" ++ (title ++ (codes "</title><path class=\"" ++ (class ++ (codes
    "\" d=\"M0-13l14 6v" ++ (decimal height ++ (codes "v14l-14 6z\"/><text class=\"m\" x=\"18\" y=\"12\">"
    ++ (label ++ (codes "</text></g>\n" ++ []))))))))))))

abbrev pub mux_text : Net → ℕ → ℕ → ℕ → ℕ → Bool → List ℕ
mux_text net m x y height active =
    funnel_text (mux_title net m) (short_mux net m) (class_text active (codes "f a") (codes "f")) x y height

unfoldable pub values_text : Net → ℕ → ℕ → ℕ → ℕ → List ℕ
values_text net m q x y =
    codes "<text class=\"v\" x=\"" ++ (decimal x ++ (codes "\" y=\"" ++ (decimal y
    ++ (codes "\" dx=\"-4\" dy=\"-4\">" ++ (short_values net m q ++ (codes "</text>\n" ++ []))))))

unfoldable pub wire_text : ℕ → ℕ → ℕ → ℕ → ℕ → Bool → List ℕ
wire_text x y turn to_x to_y active =
    codes "<path class=\"" ++ (class_text active (codes "w a") (codes "w")
    ++ (codes "\" d=\"M" ++ (decimal x ++ (codes " " ++ (decimal y ++ (codes "H" ++ (decimal turn
    ++ (codes "V" ++ (decimal to_y ++ (codes "H" ++ (decimal to_x ++ (codes "\"/>\n" ++ []))))))))))))

abbrev pub shape_text : Net → Shape → List ℕ
shape_text net (Register r x y width active) = register_text net r x y width active
shape_text net (Mux m x y height active) = mux_text net m x y height active
shape_text net (Values m q x y) = values_text net m q x y
shape_text net (Wire x y turn to_x to_y active) = wire_text x y turn to_x to_y active

-- whether a shape is on the active path
abbrev pub is_active : Shape → Bool
is_active (Register r x y width active) = active
is_active (Mux m x y height active) = active
is_active (Values m q x y) = false
is_active (Wire x y turn to_x to_y active) = active

-- the shapes of a layer
abbrev pub text_in_layer : Net → Bool → Shape → List ℕ
text_in_layer net layer shape = cond (same_bit (is_active shape) layer) (shape_text net shape) []

abbrev pub layer_text : Net → Bool → List Shape → List ℕ
layer_text net layer shapes = flat_map (text_in_layer net layer) shapes

-- colours for light and for dark pages; the active path is thick, so that it is told apart without colours,
-- too
unfoldable pub style_text : List ℕ
style_text =
    codes "<style>text{fill:#212529}.p{fill:#fff}.w{fill:none;stroke-linecap:square}.w,.b,.f{stroke:#868e96;stroke-width:1.5}.b{fill:#f8f9fa}.f{fill:#e7f0f8}.w.a,.b.a,.f.a{stroke:#d55e00;stroke-width:3}.b.a{fill:#fff1e0}.n{text-anchor:middle}.v{font-size:9px;text-anchor:end}.m{font-size:9px}@media(prefers-color-scheme:dark){text{fill:#e6edf3}.p{fill:#0d1117}.w,.b,.f{stroke:#8b949e}.b{fill:#161b22}.f{fill:#10263d}.w.a,.b.a,.f.a{stroke:#ff9e4a}.b.a{fill:#3d2410}}</style>\n"

-- the size of the view
unfoldable pub size_text : ℕ → ℕ → List ℕ
size_text width height =
    codes "<svg xmlns=\"http://www.w3.org/2000/svg\" width=\"" ++ (decimal width
    ++ (codes "\" height=\"" ++ (decimal height ++ (codes "\" viewBox=\"0 0 " ++ (decimal width ++ (codes
    " " ++ (decimal height ++ (codes "\" font-family=\"monospace\" font-size=\"11\">\n" ++ []))))))))

-- the ground, and the names of the two ends
unfoldable pub ends_text : ℕ → ℕ → List ℕ
ends_text x y =
    codes "<rect class=\"p\" width=\"100%\" height=\"100%\"/>\n<text x=\"20\" y=\"40\">TDI</text>\n<text x=\""
    ++ (decimal x
    ++ (codes "\" y=\"" ++ (decimal y ++ (codes "\" dx=\"6\" dy=\"4\">TDO</text>\n" ++ []))))

abbrev pub view_text : Net → View → List Shape → List ℕ
view_text net v shapes =
    size_text v.width v.height ++ (style_text ++ (ends_text v.x v.y
    ++ (layer_text net false shapes ++ (layer_text net true shapes ++ codes "</svg>\n"))))

abbrev pub drawing_text : Net → Drawing → List ℕ
drawing_text net d =
    view_text net (record { width = d.width; height = d.height; x = d.x; y = d.y }) d.shapes

-- a network in a state
abbrev pub svg_text : Net → Items → Holds → List ℕ
svg_text net form holds = drawing_text net (drawing_of net holds form)
