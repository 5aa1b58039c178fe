use Rattle.std.proofs.Common.{◌∙◌}
use Rattle.path_planner.proofs.FirstRows.{next_rows}
use Rattle.path_planner.proofs.needed.rows_needed.Goals as goal

pub loop-reg-preserved : goal.loop-reg-preserved
loop-reg-preserved c =
    record {
      rows = next_rows _ c.args.regs.now c.loop-reg.reg-index _ c.loop-reg.rows.items
          c.add_around.new.rows.items _ c.loop-reg.done.items c.add_around.new.done.items c.loop-reg-test.true
          c.loop-reg.invariant.rows c.in_ok-add_around.ensures.rows c.in_ok-add_around.ensures.done;
      long = c.add_around.ensures.long ∙ c.loop-reg.invariant.long;
    }
