-- What is on every active path through some rows of multiplexers
-- (IEEE 1687-2014: scan segments, ScanMux, segment insertion bits).
use Rattle.std.specs.Prelude.{ℕ, zero, suc, ◌+◌, ◌==◌, ◌&&◌, Bool, cond, List, [], ◌∷◌, length}
use Rattle.std.specs.List.{list_all, list_any}
use Rattle.net_graph.specs.declared.branch.Branch.{Branch}
use Rattle.net_graph.specs.declared.net.Net.{Net}
use Rattle.net_graph.specs.declared.net.Point.TheVariants.{Reg}
use Rattle.net_graph.specs.Named.{width_of}
use Rattle.net_tree.specs.Form.{Items}
use Rattle.net_tree.specs.Places.{place_of}

abbrev pub same_branch : Branch → Branch → Bool
same_branch a b = (a.mux == b.mux) && (a.row == b.row)

-- whether a row is one of some
abbrev pub is_one_of : List Branch → Branch → Bool
is_one_of rows b = list_any (same_branch b) rows

-- whether all rows around a register are passed: so the register is on each path that passes these rows
abbrev pub is_inside : Items → (Branch → Bool) → ℕ → Bool
is_inside form passed r = list_all passed (place_of form (Reg r))

-- the bits of such registers, of the first n of the network
abbrev pub bits_inside : Net → Items → (Branch → Bool) → ℕ → ℕ
bits_inside net form passed zero = 0
bits_inside net form passed (suc r) =
    bits_inside net form passed r + cond (is_inside form passed r) (width_of net r) 0

-- of all registers
abbrev pub bits_within_rows : Net → Items → (Branch → Bool) → ℕ
bits_within_rows net form passed = bits_inside net form passed (length net.regs.items)

-- the bits of the registers of a path
abbrev pub bits_along : Net → List ℕ → ℕ
bits_along net [] = 0
bits_along net (r ∷ rs) = width_of net r + bits_along net rs
