use Rattle.std.proofs.Common.{◌≡◌, ◌+◌, ◌≤◌, length}
use Rattle.mux_test.proofs.known.rows_room.Given as goal

abbrev pub invariant-loop-mux : goal.invariant-loop-mux
invariant-loop-mux l =
    record {
      long : length l.rows.items ≡ l._mux;
      within : l._mux ≤ length l.net.muxes.items;
      room : length l.net.muxes.items ≤ l._mux + l.rows.spare;
    }
