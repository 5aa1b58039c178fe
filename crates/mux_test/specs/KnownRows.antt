-- The row that each mux is in, noted once (IEEE 1687-2014, ICL: ScanMux, SelectedBy).
use Rattle.std.specs.Prelude.{◌≡◌, ◌<◌, ℕ, None, length, slice_index_or}
use Rattle.net_graph.specs.declared.net.Net.{Net}
use Rattle.net_graph.specs.Path.{row_of}
use Rattle.net_graph.specs.RowTables.{AreRows}
use Rattle.net_graph.specs.Signals.{Holds}
use Rattle.mux_test.specs.declared.known.KnownRows.{KnownRows}

-- the rows of a network's muxes, and a place for each mux
pub record HasKnownRoom (net : Net) (known : KnownRows) : Type 0 where
  pub table : AreRows net known.table
  pub long : length known.rows.items ≡ length net.muxes.items

-- and in it the row that the mux is in
pub record AreKnown (net : Net) (holds : Holds) (known : KnownRows) : Type 0 where
  pub room : HasKnownRoom net known
  pub right : (m : ℕ) → m < length net.muxes.items
      → slice_index_or known.rows.items m None ≡ row_of net holds m
