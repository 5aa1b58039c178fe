-- The multiplexers of the network of a hierarchy are well formed.
use Rattle.std.proofs.Common.{◌≡◌, ◌≤◌, ℕ, List, map, length, Ok, sym, ap, subst, ◌∙◌, arith}
use Rattle.std.specs.Prelude.{All, IsTrue}
use Rattle.std.specs.List.{AllByRecursion}
use Rattle.std.proofs.lemmas.List.{length-map}
use Rattle.std.proofs.lemmas.List.Elements.{All-from_recursion}
use Rattle.ij_bits.specs.declared.tern.Tern.{Tern}
use Rattle.ij_text.specs.declared.Place.{Place}
use Rattle.ij_text.specs.Numbers.{tern_bits}
use Rattle.ij_text.specs.Words.{is_name}
use Rattle.icl_declarations.specs.Values.{OpenBits}
use Rattle.icl_elab.specs.WellFormed.{is_mux, HasRows, IsCell}
use Rattle.icl_references.specs.declared.hier.Ref.{Ref}
use Rattle.icl_references.specs.Roles.{Choice, AScanMux, CellOf, part_width}
use Rattle.icl_elab.specs.Laws.{IsRefOf, IsChoice, IsRole, AreWired}
use Rattle.net_graph.specs.declared.net.BitId.{BitId}
use Rattle.net_graph.specs.declared.net.Mux.{Mux}
use Rattle.net_graph.specs.declared.net.Net.{Net}
use Rattle.net_graph.specs.declared.net.Row.{Row}
use Rattle.net_graph.specs.Named.{IsBitOf}
use Rattle.net_graph.specs.Nets.{IsRow, IsMux}
use Rattle.icl_signals.specs.declared.wires.Wire.{Wire}
use Rattle.icl_signals.specs.Moves.{Entry}
use Rattle.icl_signals.specs.Connecting.{entries_that, select_from, row_from, mux_of}
use Rattle.icl_signals.proofs.Joined.{part_wired}
use Rattle.icl_signals.proofs.Paired.{paired_length, paired_maps, paired_all, each_paired}
use Rattle.icl_signals.proofs.Paired.{all_and, all_in_map, all_weaker}
use Rattle.icl_signals.proofs.EntryNumbers.{IsKept, all_kept_known}
use Rattle.icl_signals.proofs.NetParts.{IsNetOf, mux_is, row_is}
use Rattle.icl_signals.proofs.NetSignals.{IsShaped, select_there, scan_there}
use Rattle.icl_signals.proofs.PartFacts.{cell_below, part_named}
use Rattle.icl_signals.proofs.RowsApart.{one_row_with}
use Rattle.ij_text.proofs.Numbers.{tern_length}

module _ (cells : List CellOf) (entry : Wire) (net : Net) (shaped : IsShaped cells entry net)
    (wired : AreWired cells) (named : AllByRecursion IsCell cells) where
  abbrev IsWideRow : ℕ → Choice → Type 0
  IsWideRow width c = IsChoice (IsRefOf cells) width c × (1 ≤ length c.values)

  row_good : (at : Place) (width : ℕ) (c : Choice) (row : Row) → IsWideRow width c
      → row_from cells entry at c ≡ Ok row
      → IsRow net width row
  row_good at width c row k h =
      let r = row_is cells entry at c row h in
      let long : length c.values ≡ length row.values.items =
      ap length r.values ∙ length-map row.values.items tern_bits in
      let some = k.1 in
      let wide : AllByRecursion (λ (v : OpenBits). length v ≡ width) (map tern_bits row.values.items) =
      subst (AllByRecursion (λ (v : OpenBits). length v ≡ width)) r.values k.0.0 in
      record {
        some_values = omega (arith, some, long);
        values = All-from_recursion (λ (v : Tern). length v.value.items ≡ width) row.values.items
            (all_weaker (λ (v : Tern). length (tern_bits v) ≡ width) (λ v. length v.value.items ≡ width)
            (λ v e. sym (tern_length v) ∙ e) row.values.items
            (all_in_map tern_bits (λ (v : OpenBits). length v ≡ width) row.values.items wide));
        source = scan_there cells entry net shaped at c.source row.from r.from;
      }

  pub mux_good : (e : Entry) (mux : Mux) → IsKept cells is_mux e
      → mux_of cells entry e ≡ Ok mux → IsMux net mux
  mux_good e mux k h =
      let m = mux_is cells entry e mux h in
      let part = part_wired cells wired e.cell e.part e.what k.0 in
      let role : IsRole (IsRefOf cells) (part_width e.what) (AScanMux m.select m.rows) =
      subst (IsRole (IsRefOf cells) (part_width e.what)) m.role part.role in
      let names = part_named cells named e.cell e.part e.what k.0 in
      let has : HasRows (AScanMux m.select m.rows) = subst HasRows m.role names.rows in
      let R = λ (r : Ref) (b : BitId). select_from cells entry e.what.at r ≡ Ok b in
      let S = λ (c : Choice) (row : Row). row_from cells entry e.what.at c ≡ Ok row in
      let bits = each_paired (select_from cells entry e.what.at) m.select mux.select.items m.bits in
      let rows = each_paired (row_from cells entry e.what.at) m.rows mux.rows.items m.sources in
      let width = paired_length R m.select mux.select.items bits in
      let long = paired_length S m.rows mux.rows.items rows in
      let at_least_one_bit = has.0 in
      let some_rows = has.1 in
      let few_rows = has.2 in
      let below = cell_below cells e.cell e.part e.what k.0 in
      let node = m.node in
      let nodes = shaped.nodes in
      let values = paired_maps S (λ (c : Choice). c.values) (λ (row : Row). map tern_bits row.values.items)
      (λ c row g. (row_is cells entry e.what.at c row g).values) m.rows mux.rows.items rows in
      record {
        named = subst (λ (n : List ℕ). IsTrue (is_name n)) m.name names.name;
        at_least_one_bit = omega (arith, at_least_one_bit, width);
        select = All-from_recursion (IsBitOf net) mux.select.items
            (paired_all (IsRefOf cells) R (IsBitOf net) (λ r b g d. select_there cells entry net shaped wired
            e.what.at r b g d) m.select mux.select.items role.0 bits);
        some_rows = omega (arith, some_rows, long);
        few_rows = omega (arith, few_rows, long);
        rows = All-from_recursion (IsRow net (length mux.select.items)) mux.rows.items
            (paired_all (IsWideRow (length mux.select.items)) S (IsRow net (length mux.select.items))
            (row_good e.what.at (length mux.select.items)) m.rows mux.rows.items
            (subst (λ n. AllByRecursion (IsWideRow n) m.rows) width
            (all_and (IsChoice (IsRefOf cells) (length m.select))
            (λ (c : Choice). 1 ≤ length c.values) m.rows role.1 has.3)) rows);
        one_row = one_row_with m.rows mux.rows.items role.2 values;
        node = omega (arith, below, node, nodes);
      }

pub muxes_good : (cells : List CellOf) (net : Net) (n : IsNetOf cells net)
    → IsShaped cells n.entry net → AreWired cells
    → AllByRecursion IsCell cells → All (IsMux net) net.muxes.items
muxes_good cells net n shaped wired named =
    All-from_recursion (IsMux net) net.muxes.items
    (paired_all (IsKept cells is_mux)
    (λ (e : Entry) (m : Mux). mux_of cells n.entry e ≡ Ok m) (IsMux net)
    (mux_good cells n.entry net shaped wired named)
    (entries_that is_mux cells) net.muxes.items (all_kept_known cells is_mux)
    (each_paired (mux_of cells n.entry) (entries_that is_mux cells) net.muxes.items n.muxes))
