use Rattle.net_graph.specs.SeenSteps.{seen_group}
use Rattle.path_planner.proofs.Repeats.{both_added}
use Rattle.path_planner.proofs.registers.registers_named.Goals as goal

pub returns : goal.returns
returns c =
    both_added (seen_group c.args.group.now) c.as_slice.result.now c.as_slice-2.result.now
    c.new-regs.result.items c.add_written.new.regs.items c.add_read.new.regs.items c.as_slice.ensures
    c.as_slice-2.ensures c.new-regs.ensures c.in_ok-add_written.ensures c.in_ok-add_read.ensures
