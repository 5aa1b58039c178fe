-- Opening the muxes that a group needs: in one scan each of them that can be set is set.
use Rattle.std.specs.Prelude.{◌≡◌, ℕ, ◌==◌, Bool, true, false, not, ◌&&◌, ◌||◌, List, [], ◌∷◌, map, get_or}
use Rattle.std.specs.Prelude.{Option, Some, None}
use Rattle.std.specs.List.{list_all}
use Rattle.ij_bits.specs.BitLists.{same_bit}
use Rattle.net_graph.specs.declared.branch.Branch.{Branch}
use Rattle.net_graph.specs.declared.net.Net.{Net}
use Rattle.ij_bits.specs.declared.tern.Tern.{Tern}
use Rattle.net_graph.specs.declared.net.BitId.{BitId}
use Rattle.net_graph.specs.SeenSteps.{SeenGroup}
use Rattle.net_graph.specs.Signals.{Holds, hold_at}
use Rattle.net_graph.specs.Held.{set_hold}
use Rattle.net_graph.specs.Path.{row_of, rows_of, route_of, is_in}
use Rattle.net_tree.specs.Form.{Items}
use Rattle.net_graph.specs.Groups.{registers_of}
use Rattle.net_tree.specs.Needs.{needs}
use Rattle.net_tree.specs.Lawful.{selects_of}

-- whether a value agrees with what is held at the select bits off the path; an x agrees with both
abbrev pub agrees_off_path : Holds → List ℕ → List BitId → List Bool → List Bool → Bool
agrees_off_path holds path [] vs cs = true
agrees_off_path holds path (b ∷ bs) [] cs = true
agrees_off_path holds path (b ∷ bs) (v ∷ vs) [] = true
agrees_off_path holds path (b ∷ bs) (v ∷ vs) (c ∷ cs) =
    (is_in path b.reg || (not c || same_bit v (hold_at holds b))) && agrees_off_path holds path bs vs cs

-- the first value of a row that agrees
abbrev pub first_value : Holds → List ℕ → List BitId → List Tern → Option Tern
first_value holds path bs [] = None
first_value holds path bs (t ∷ ts) =
    elim (agrees_off_path holds path bs t.value.items t.care.items) [
      | true ↦ Some t
      | false ↦ first_value holds path bs ts
    ]

-- the select bits on the path take a value, an x as 0
abbrev pub set_selects : List ℕ → List BitId → List Bool → Holds → Holds
set_selects path [] vs holds = holds
set_selects path (b ∷ bs) [] holds = holds
set_selects path (b ∷ bs) (v ∷ vs) holds =
    set_selects path bs vs (elim (is_in path b.reg) [ true ↦ set_hold holds b v | false ↦ holds ])

abbrev pub values_of : Net → Branch → List Tern
values_of net b = get_or (map (λ row. row.values.items) (rows_of net b.mux)) b.row []

-- one needed row, judged by what is held before the scan
abbrev pub settle_row : Net → Holds → List ℕ → Branch → Holds → Holds
settle_row net before path b holds =
    elim (first_value before path (selects_of net b.mux) (values_of net b))
    [ Some t ↦ set_selects path (selects_of net b.mux) t.value.items holds | None ↦ holds ]

abbrev pub is_in_row : Net → Holds → Branch → Bool
is_in_row net holds b = elim (row_of net holds b.mux) [ Some q ↦ q == b.row | None ↦ false ]

abbrev pub settle_rows : Net → Holds → List ℕ → List Branch → Holds → Holds
settle_rows net before path [] holds = holds
settle_rows net before path (b ∷ bs) holds =
    settle_rows net before path bs
    (elim (is_in_row net before b) [ true ↦ holds | false ↦ settle_row net before path b holds ])

-- each needed mux that isn't in its row takes the first value of that row that agrees off the path
abbrev pub settle : Net → List Branch → Holds → Holds
settle net bs holds = settle_rows net holds (route_of net holds) bs holds

abbrev pub all_on : Net → List ℕ → Holds → Bool
all_on net regs holds = list_all (is_in (route_of net holds)) regs

-- settlings, one after the other, until every named register is on the path
abbrev pub IsOpening : Net → Items → SeenGroup → Holds → List Holds → Type 0
IsOpening net form g holds [] = all_on net (registers_of g) holds ≡ true
IsOpening net form g holds (h ∷ hs) =
    (all_on net (registers_of g) holds ≡ false)
    × (h ≡ settle net (needs form g) holds) × IsOpening net form g h hs
