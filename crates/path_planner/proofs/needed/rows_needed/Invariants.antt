use Rattle.std.proofs.Common.{◌≡◌, ◌++◌, ℕ, false, length, drop}
use Rattle.std.specs.Prelude.{flat_map, replicate}
use Rattle.net_graph.specs.declared.net.Point.TheVariants as point
use Rattle.net_tree.specs.Places.{place_of}
use Rattle.path_planner.specs.FirstRows.{first_rows}
use Rattle.path_planner.proofs.needed.rows_needed.Given as goal

abbrev pub invariant-loop-reg : goal.invariant-loop-reg
invariant-loop-reg l =
    let place = λ (r : ℕ). place_of l.tree (point.Reg r) in
    record {
      rows : l.rows.items ++ first_rows l.done.items (flat_map place (drop l.reg-index l.regs))
          ≡ first_rows (replicate (length l.net.muxes.items) false) (flat_map place l.regs);
      long : length l.done.items ≡ length l.net.muxes.items;
    }
