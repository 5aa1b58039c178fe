use Rattle.std.proofs.Common.{◌≡◌, ◌∙◌, sym, ap, subst}
use Rattle.std.specs.Prelude.{flat_map}
use Rattle.net_graph.specs.Held.{AreHolds}
use Rattle.net_graph.specs.Path.{select_bits}
use Rattle.net_graph.specs.Resets.{zero_holds}
use Rattle.net_graph.specs.Signals.{Holds}
use Rattle.net_graph.specs.declared.net.Mux.{Mux}
use Rattle.net_graph.proofs.Widths.{zeros_held}
use Rattle.nest_check.specs.Uses.{Selected, HaveFlags, no_flags, note, note_select_bits, selected_of}
use Rattle.nest_check.proofs.BitUses.{note_all_fits}
use Rattle.nest_check.proofs.Folding.{fold_piece}
use Rattle.nest_check.proofs.uses.selecting_bits.Goals as goal

abbrev selected : Holds → Holds → Selected
selected once twice = record { once = once; twice = twice }

pub loop-mux-init : goal.loop-mux-init
loop-mux-init c =
    let net = c.args.net.now in
    let muxes = c.as_slice-mux-items.result.now in
    let once : c.in_ok-zeros.field-0 ≡ zero_holds net = c.in_ok-zeros.ensures in
    let twice : c.in_ok-zeros-2.field-0 ≡ zero_holds net = c.in_ok-zeros-2.ensures in (
      (subst (AreHolds net) (sym once) (zeros_held net), subst (AreHolds net) (sym twice) (zeros_held net)),
      ap
          (λ h. note_select_bits (selected h c.in_ok-zeros-2.field-0) (flat_map (λ mux. mux.select.items)
          muxes)) once
          ∙ ap (λ h. note_select_bits (selected (zero_holds net) h) (flat_map (λ mux. mux.select.items)
          muxes)) twice
          ∙
          ap (λ l. note_select_bits (no_flags net) (flat_map (λ mux. mux.select.items) l))
          c.as_slice-mux-items.ensures,
    )

pub loop-mux-preserved : goal.loop-mux-preserved
loop-mux-preserved c =
    let net = c.args.net.now in
    let select = c.as_slice.result.now in (
      subst (HaveFlags net) (sym c.note_select_bits.ensures)
          (note_all_fits net select (selected_of c.loop-mux.selecting) c.loop-mux.invariant.0),
      fold_piece note (λ (mux : Mux). mux.select.items) c.as_slice-mux-items.result.now c.loop-mux.mux-index
          c.mux-item.result (selected_of c.loop-mux.selecting) (selected_of c.note_select_bits.new.self)
          (note_select_bits (no_flags net) (select_bits net)) c.loop-mux-test.true
          (c.note_select_bits.ensures ∙ ap (note_select_bits (selected_of c.loop-mux.selecting))
          (c.as_slice.ensures ∙ ap (λ (mux : Mux). mux.select.items) c.mux-item.is)) c.loop-mux.invariant.1,
    )
