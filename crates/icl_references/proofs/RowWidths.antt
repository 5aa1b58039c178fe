-- The values of rows are as wide as the select.
use Rattle.std.proofs.Common.{◌≡◌, ℕ, List, [], length, Ok, subst}
use Rattle.ij_text.specs.declared.Place.{Place}
use Rattle.icl_lexer.specs.Values.{SeenRow}
use Rattle.icl_declarations.specs.Faults.{each}
use Rattle.icl_declarations.specs.Values.{OpenBits}
use Rattle.icl_declarations.specs.Widths.{value_in}
use Rattle.icl_declarations.proofs.ValueWidths.{value_wide}
use Rattle.icl_frames.proofs.Answering.{both, each_all, ok_is}
use Rattle.icl_frames.specs.FirstPass.{Frame}
use Rattle.icl_references.specs.Muxes.{row_in}
use Rattle.icl_references.specs.Names.{Here}
use Rattle.icl_references.specs.Overlaps.{AreRowsAlike, AreWide}
use Rattle.icl_references.specs.Roles.{Choice}
use Rattle.icl_references.specs.Signals.{scan_signal}

module _ (frames : List Frame) (here : Here) (at : Place) (width : ℕ) where
  row_wide : (r : SeenRow) (c : Choice) → row_in frames here at width r ≡ Ok c → AreWide width c.values
  unfolding row_in
  row_wide r c h =
      let a = both (each (value_in here.frame.params at width) r.values) _ c h in
      let b = both (scan_signal frames here r.source) _ c a.then' in
      subst (λ (x : Choice). AreWide width x.values)
      (ok_is (record { values = a.first; source = b.first }) c b.then')
      (each_all (value_in here.frame.params at width) (λ (v : OpenBits). length v ≡ width)
      (λ es bits g. value_wide here.frame.params at width es bits g) r.values a.first a.is)

  pub rows_alike : (rows : List SeenRow) (choices : List Choice)
      → each (row_in frames here at width) rows ≡ Ok choices → AreRowsAlike [] choices
  rows_alike rows choices h = record {
    width = width;
    values_wide = tt;
    rows_wide = each_all (row_in frames here at width) (λ (c : Choice). AreWide width c.values)
        (λ r c g. row_wide r c g) rows choices h;
  }
