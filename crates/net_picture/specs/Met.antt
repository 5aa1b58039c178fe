-- What is met on the active scan path of a state (IEEE 1687-2014: active scan path).
use Rattle.std.specs.Prelude.{◌≡◌, ℕ, zero, suc, ◌+◌, ◌&&◌, Bool, false, List, [], ◌∷◌, cond, length, Option}
use Rattle.std.specs.Prelude.{Some, None}
use Rattle.std.specs.List.{flat_map, list_any}
use Rattle.net_graph.specs.declared.net.Net.{Net}
use Rattle.net_graph.specs.declared.net.Point.{Point}
use Rattle.net_graph.specs.declared.net.Point.TheVariants.{Entry, Reg, Mux}
use Rattle.net_graph.specs.Path.{mux_source, reg_source, route_of, row_of}
use Rattle.net_graph.specs.Signals.{Holds}
use Rattle.net_tree.specs.Places.{same_point}
use Rattle.net_picture.specs.Layout.{is_selected_row}
use Rattle.net_picture.specs.Plan.{has_path}

-- what comes before a point on the active path; nothing before scan-in, or before a multiplexer that is in
-- none of its rows
abbrev pub before : Net → Holds → Point → Option Point
before net holds Entry = None
before net holds (Reg r) = Some (reg_source net r)
before net holds (Mux m) = mux_source net holds m

-- what is met on the active path back to scan-in in at most n moves, the one nearest scan-out first
abbrev pub met_from : Net → Holds → ℕ → Option Point → List Point
met_from net holds zero p = []
met_from net holds (suc n) None = []
met_from net holds (suc n) (Some p) = p ∷ met_from net holds n (before net holds p)

abbrev pub trace_back : Net → Holds → List Point
trace_back net holds = met_from net holds (length net.regs.items + length net.muxes.items) (Some net.out)

-- the same where there is an active path, and else nothing
abbrev pub met : Net → Holds → List Point
met net holds = cond (has_path net holds) (trace_back net holds) []

abbrev pub is_on_path : List Point → Point → Bool
is_on_path points p = list_any (same_point p) points

-- whether a point is the one that is marked
abbrev pub is_marked : Option Point → Point → Bool
is_marked None p = false
is_marked (Some q) p = same_point q p

-- a multiplexer is on the active path, and one of its rows where it is the one that is selected, too
abbrev pub is_mux_met : Net → Holds → ℕ → Bool
is_mux_met net holds m = is_on_path (met net holds) (Mux m)

abbrev pub is_row_met : Net → Holds → ℕ → ℕ → Bool
is_row_met net holds m q = is_mux_met net holds m && is_selected_row (row_of net holds m) q

-- the registers among points
abbrev pub register_at : Point → List ℕ
register_at Entry = []
register_at (Reg r) = r ∷ []
register_at (Mux m) = []

-- the registers that are met are those of the active path
abbrev pub MetIsPath : Type 0
MetIsPath = (net : Net) (holds : Holds) → flat_map register_at (met net holds) ≡ route_of net holds
