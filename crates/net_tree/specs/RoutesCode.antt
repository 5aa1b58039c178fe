-- A code for routes as contracts see them, so that a struct may have one as its value.
use Rattle.std.specs.Prelude.{ℕ, List, Option, refl}
use Rattle.std.specs.Coded.{Coded, code_by, coded×, coded_ℕ, coded_list, coded_option}
use Rattle.net_graph.specs.declared.net.BitId.{BitId}
use Rattle.net_graph.specs.declared.row_table.OneBit.{OneBit}
use Rattle.net_tree.specs.Routes.{Routed}

abbrev pub bit_parts : BitId → ℕ × ℕ
bit_parts b = (b.reg, b.pos)

abbrev pub bit_from : ℕ × ℕ → BitId
bit_from (reg, pos) = record { reg = reg; pos = pos }

abbrev pub bit_code : Coded BitId
bit_code = code_by (ℕ × ℕ) (coded× coded_ℕ coded_ℕ) bit_parts bit_from (λ _. refl)

abbrev pub RowParts : Type 0
RowParts = BitId × (Option ℕ × Option ℕ)

abbrev pub row_parts : OneBit → RowParts
row_parts r = (r.bit, (r.zero, r.one))

abbrev pub row_from : RowParts → OneBit
row_from (bit, (zero, one)) = record { bit = bit; zero = zero; one = one }

abbrev pub row_code : Coded OneBit
row_code = code_by RowParts
    (coded× bit_code (coded× (coded_option coded_ℕ) (coded_option coded_ℕ))) row_parts row_from (λ _. refl)

abbrev pub RouteParts : Type 0
RouteParts = List ℕ × (ℕ × List (Option OneBit))

abbrev pub route_parts : Routed → RouteParts
route_parts r = (r.items, (r.spare, r.rows))

abbrev pub route_from : RouteParts → Routed
route_from (items, (spare, rows)) = record { items = items; spare = spare; rows = rows }

abbrev pub route_code : Coded Routed
route_code = code_by RouteParts (coded× (coded_list coded_ℕ)
    (coded× coded_ℕ (coded_list (coded_option row_code)))) route_parts route_from (λ _. refl)
