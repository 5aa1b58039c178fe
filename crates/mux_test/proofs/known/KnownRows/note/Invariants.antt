use Rattle.std.proofs.Common.{◌≡◌, ◌<◌, ℕ, None, get_or}
use Rattle.net_graph.specs.Path.{row_of}
use Rattle.mux_test.specs.KnownRows.{HasKnownRoom}
use Rattle.mux_test.proofs.known.KnownRows.note.Given as goal

abbrev pub invariant-loop-mux : goal.invariant-loop-mux
invariant-loop-mux l =
    record {
      room : HasKnownRoom l.net l.self;
      right : (m : ℕ) → m < l.mux → get_or l.self.rows.items m None ≡ row_of l.net l.holds m;
    }
