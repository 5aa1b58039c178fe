-- The lines of a register, a multiplexer and an instrument (IEEE 1687-2014, ICL: ScanRegister, ScanMux,
-- Instance).
use Rattle.std.specs.Prelude.{ℕ, zero, suc, ◌==◌, Bool, List, [], ◌++◌, codes, filter, get_or, length, map}
use Rattle.std.specs.List.{list_any, range_with_len}
use Rattle.net_graph.specs.declared.branch.Branch.{Branch}
use Rattle.net_graph.specs.declared.net.BitId.{BitId}
use Rattle.net_graph.specs.declared.net.Net.{Net}
use Rattle.net_graph.specs.declared.net.Point.TheVariants.{Reg, Mux}
use Rattle.net_graph.specs.declared.net.PortIn.{PortIn}
use Rattle.net_graph.specs.declared.net.PortOut.{PortOut}
use Rattle.net_graph.specs.declared.net.Row.{Row}
use Rattle.net_graph.specs.Named.{width_of}
use Rattle.net_graph.specs.Path.{rows_of}
use Rattle.net_graph.specs.PathNames.{instance_path, mux_path}
use Rattle.net_tree.specs.Form.{Items}
use Rattle.net_tree.specs.Lawful.{selects_of}
use Rattle.net_tree.specs.Places.{place_of}
use Rattle.path_planner.specs.Settling.{values_of}
use Rattle.net_list.specs.declared.format.ListFormat.{ListFormat}
use Rattle.net_list.specs.Drivers.{bit_name, drivers, register_path}
use Rattle.net_list.specs.Fewest.{fewest_scans}
use Rattle.net_list.specs.Forms.{text_or_json, counted, items, listed, values_text, tern_text}

-- a name, in JSON in quotes (34)
abbrev pub quoted : ListFormat → List ℕ → List ℕ
quoted f name = text_or_json f [] (codes "\"") ++ (name ++ text_or_json f [] (codes "\""))

-- a row, by its mux and its select values
abbrev pub branch_text : ListFormat → Net → Branch → List ℕ
branch_text f net b =
    text_or_json f [] (codes "[\"") ++ (mux_path net b.mux ++ (text_or_json f (codes "=") (codes "\",\"")
    ++ (values_text (values_of net b) ++ text_or_json f [] (codes "\"]"))))

-- the rows around an item, outermost first
abbrev pub place_text : ListFormat → Net → List Branch → List ℕ
place_text f net place = listed f (codes " in ") (codes ",\"in\":[") (branch_text f net) place

-- whether a bit of the register selects in the mux
abbrev pub selects_in : Net → ℕ → ℕ → Bool
selects_in net r m = list_any (λ b. b.reg == r) (selects_of net m)

-- the muxes in which the register selects
abbrev pub muxes_selected_by : Net → ℕ → List ℕ
muxes_selected_by net r = filter (selects_in net r) (range_with_len 0 (length net.muxes.items))

abbrev pub selects_text : ListFormat → Net → ℕ → List ℕ
selects_text f net r =
    listed f (codes " selects ") (codes ",\"selects\":[") (λ m. quoted f (mux_path net m)) (muxes_selected_by net r)

-- the reset value, with an x for each bit that has none
abbrev pub reset_text : Net → ℕ → List ℕ
reset_text net r = get_or (map (λ reg. tern_text reg.reset) net.regs.items) r []

abbrev pub width_text : ListFormat → Net → ℕ → List ℕ
width_text f net r = counted f (codes " bits ") (codes "\",\"bits\":") (width_of net r)

-- a register with its place, and in how many scans it is reached
abbrev pub register_text : ListFormat → Net → ℕ → List Branch → ℕ → List ℕ
register_text f net r place scans =
    text_or_json f (codes "register ") (codes "{\"register\":\"")
    ++ (register_path net r ++ (width_text f net r ++ (text_or_json f (codes " reset ") (codes ",\"reset\":\"")
    ++ (reset_text net r ++ (counted f (codes " depth ") (codes "\",\"depth\":") (length place)
    ++ (counted f (codes " scans ") (codes ",\"scans\":") scans
    ++ (place_text f net place ++ (selects_text f net r ++ text_or_json f (codes "\n") (codes "}\n")))))))))

abbrev pub register_line : ListFormat → Net → Items → ℕ → List ℕ
register_line f net form r = register_text f net r (place_of form (Reg r)) (fewest_scans net form r)

-- the select bits, the highest first
abbrev pub select_bits : ListFormat → Net → List ℕ → List BitId → ℕ → List ℕ
select_bits f net before bits zero = []
select_bits f net before bits (suc n) =
    before ++ (quoted f (bit_name net (get_or bits n (record { reg = 0; pos = 0 })))
    ++ select_bits f net (text_or_json f (codes " ") (codes ",")) bits n)

-- a row's select values: in text on a line of its own, after the mux
abbrev pub row_text : ListFormat → Net → ℕ → Row → List ℕ
row_text f net m row =
    text_or_json f (codes "row ") (codes "\"") ++ (text_or_json f (mux_path net m ++ codes "=") []
    ++ (values_text row.values.items ++ text_or_json f (codes "\n") (codes "\"")))

abbrev pub rows_text : ListFormat → Net → ℕ → List ℕ
rows_text f net m = items (row_text f net m) (text_or_json f [] (codes ",")) [] (rows_of net m)

abbrev pub selects_of_text : ListFormat → Net → ℕ → List ℕ
selects_of_text f net m = select_bits f net [] (selects_of net m) (length (selects_of net m))

abbrev pub row_count_text : ListFormat → Net → ℕ → List ℕ
row_count_text f net m = counted f (codes " rows ") (codes "\",\"rows\":") (length (rows_of net m))

abbrev pub mux_text : ListFormat → Net → ℕ → ℕ → List ℕ
mux_text f net m depth =
    text_or_json f (codes "mux ") (codes "{\"mux\":\"")
    ++ (mux_path net m ++ (row_count_text f net m ++ (text_or_json f (codes " select ") (codes ",\"select\":[")
    ++ (selects_of_text f net m ++ (counted f (codes " depth ") (codes "],\"depth\":") depth ++ (text_or_json f
    (codes "\n") (codes ",\"values\":[") ++ (rows_text f net m ++ text_or_json f [] (codes "]}\n"))))))))

abbrev pub mux_line : ListFormat → Net → Items → ℕ → List ℕ
mux_line f net form m = mux_text f net m (length (place_of form (Mux m)))

-- a data input, with what drives it, and a data output
abbrev pub input_text : ListFormat → Net → PortIn → List ℕ
input_text f net port =
    text_or_json f (codes "in ") (codes "{\"port\":\"") ++ (port.name.items ++ (counted f (codes " ")
    (codes "\",\"bits\":") (length port.bits.items) ++ (text_or_json f (codes " from ") (codes ",\"from\":\"")
    ++ (drivers net port.bits.items (length port.bits.items) ++ text_or_json f [] (codes "\"}")))))

abbrev pub output_text : ListFormat → PortOut → List ℕ
output_text f port =
    text_or_json f (codes "out ") (codes "{\"port\":\"") ++ (port.name.items
    ++ (counted f (codes " ") (codes "\",\"bits\":") port.width ++ text_or_json f [] (codes "}")))

-- ports, in JSON in two lists
abbrev pub port_lists : ListFormat → Net → List PortIn → List PortOut → List ℕ
port_lists f net ins outs =
    let between = text_or_json f (codes " ") (codes ",") in
    let first = text_or_json f (codes " ") [] in
    text_or_json f [] (codes ",\"in\":[") ++ (items (input_text f net) between first ins ++ (text_or_json f []
    (codes "],\"out\":[") ++ (items (output_text f) between first outs ++ text_or_json f [] (codes "]"))))

abbrev pub ports_text : ListFormat → Net → ℕ → List ℕ
ports_text f net i =
    port_lists f net (get_or (map (λ inst. inst.ins.items) net.insts.items) i [])
    (get_or (map (λ inst. inst.outs.items) net.insts.items) i [])

-- an instrument, by its node
abbrev pub instrument_path : Net → ℕ → List ℕ
instrument_path net i = instance_path net (get_or (map (λ inst. inst.node) net.insts.items) i 0)

abbrev pub instrument_line : ListFormat → Net → ℕ → List ℕ
instrument_line f net i =
    text_or_json f (codes "instrument ") (codes "{\"instrument\":\"") ++ (instrument_path net i
    ++ (text_or_json f [] (codes "\"") ++ (ports_text f net i ++ text_or_json f (codes "\n") (codes "}\n"))))
