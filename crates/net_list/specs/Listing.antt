-- What a network has, one thing a line: each register, multiplexer and instrument once, in the network's
-- order, and totals.
use Rattle.std.specs.Prelude.{ℕ, zero, suc, List, [], ◌++◌, codes, length, map, sum}
use Rattle.net_graph.specs.Chain.{chain}
use Rattle.net_graph.specs.declared.net.Net.{Net}
use Rattle.net_graph.specs.Path.{route_of}
use Rattle.net_graph.specs.Resets.{start_holds}
use Rattle.net_tree.specs.Form.{Items}
use Rattle.net_list.specs.declared.format.ListFormat.{ListFormat}
use Rattle.net_list.specs.Forms.{text_or_json, counted}
use Rattle.net_list.specs.Lines.{register_line, mux_line, instrument_line}

-- the lines of n things from number i on
abbrev pub lines_from : (ℕ → List ℕ) → ℕ → ℕ → List ℕ
lines_from line i zero = []
lines_from line i (suc n) = line i ++ lines_from line (suc i) n

-- the bits of all registers, and of those on the active path at power-up
abbrev pub bit_count : Net → ℕ
bit_count net = sum (map (λ reg. reg.width) net.regs.items)

abbrev pub start_path_bits : Net → ℕ
start_path_bits net = length (chain (route_of net (start_holds net)) (start_holds net))

-- the line of these numbers
abbrev pub totals_text : ListFormat → ℕ → ℕ → ℕ → ℕ → ℕ → List ℕ
totals_text f regs bits muxes insts path =
    counted f (codes "network registers ") (codes "{\"network\":{\"registers\":") regs ++ (counted f
    (codes " bits ") (codes ",\"bits\":") bits ++ (counted f (codes " muxes ") (codes ",\"muxes\":") muxes
    ++ (counted f (codes " instruments ") (codes ",\"instruments\":") insts ++ (counted f
    (codes " path at reset ") (codes ",\"path\":") path ++ text_or_json f (codes "\n") (codes "}}\n")))))

abbrev pub totals_line : ListFormat → Net → List ℕ
totals_line f net =
    totals_text f (length net.regs.items) (bit_count net) (length net.muxes.items)
    (length net.insts.items) (start_path_bits net)

abbrev pub list_text : ListFormat → Net → Items → List ℕ
list_text f net form =
    lines_from (register_line f net form) 0 (length net.regs.items)
    ++ (lines_from (mux_line f net form) 0 (length net.muxes.items)
    ++ (lines_from (instrument_line f net) 0 (length net.insts.items) ++ totals_line f net))
