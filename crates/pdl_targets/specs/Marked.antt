-- The bits that select a row of a mux, and those of a queue, marked in a table.
pub use Rattle.net_graph.specs.MarkedSelects.{is_marked, AreSelects}
pub use Rattle.net_graph.specs.Numbered.{AreNumbered, bits_compared, bits_written, first_bit, first_bits}
