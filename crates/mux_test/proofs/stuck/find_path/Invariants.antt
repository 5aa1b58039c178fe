use Rattle.std.proofs.Common.{◌≡◌, ◌+◌, ◌-◌, ◌≤◌, length}
use Rattle.net_graph.specs.Named.{IsPointOf}
use Rattle.mux_test.proofs.StuckPaths.{IsTraced}
use Rattle.mux_test.proofs.stuck.find_path.Given as goal

abbrev pub invariant-loop-turn : goal.invariant-loop-turn
invariant-loop-turn l =
    record {
      there : IsPointOf l.net l.at;
      few : length l.path.items ≤ length l.net.regs.items;
      room : length l.path.items + l.path.spare ≡ length l.fn.path.items + l.fn.path.spare;
      traced : IsTraced l.net l.stuck l.holds
          (length l.net.regs.items + length l.net.muxes.items - l._turn) l.at l.path.items;
    }
