use Rattle.std.proofs.Common.{sym, subst}
use Rattle.net_graph.specs.Held.{AreHolds}
use Rattle.net_graph.specs.declared.net.Sig.TheVariants.{Absent}
use Rattle.nest_check.specs.Uses.{driving, driving_all}
use Rattle.nest_check.proofs.BitUses.{driving_fits}
use Rattle.nest_check.proofs.Folding.{fold_item}
use Rattle.nest_check.proofs.uses.flag_port.Goals as goal

pub loop-input-preserved : goal.loop-input-preserved
loop-input-preserved c = (
  subst (AreHolds c.args.net.now) (sym c.flag_input.ensures)
      (driving_fits c.args.net.now c.loop-input.flags _ c.loop-input.invariant.0),
  fold_item driving c.as_slice-input-items.result.now c.loop-input.input-index Absent c.loop-input.flags
      c.flag_input.new.flags (driving_all c.args.flags.now c.args.port.now.bits.items)
      c.loop-input-test.true c.flag_input.ensures c.loop-input.invariant.1,
)
