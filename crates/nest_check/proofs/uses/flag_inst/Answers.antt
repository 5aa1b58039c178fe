use Rattle.std.proofs.Common.{◌∙◌, sym, ap, subst}
use Rattle.net_graph.specs.Held.{AreHolds}
use Rattle.nest_check.specs.Uses.{driving, driving_all, inputs_of}
use Rattle.nest_check.proofs.BitUses.{driving_all_fits}
use Rattle.nest_check.proofs.Folding.{fold_piece}
use Rattle.nest_check.proofs.uses.flag_inst.Goals as goal

pub loop-port-preserved : goal.loop-port-preserved
loop-port-preserved c = (
  subst (AreHolds c.args.net.now) (sym c.flag_port.ensures) (driving_all_fits c.args.net.now
      c.port-item.result.bits.items c.loop-port.flags c.loop-port.invariant.0),
  fold_piece driving (λ port. port.bits.items) c.as_slice-port-items.result.now c.loop-port.port-index
      c.port-item.result c.loop-port.flags c.flag_port.new.flags
      (driving_all c.args.flags.now (inputs_of c.args.inst.now)) c.loop-port-test.true (c.flag_port.ensures
      ∙ ap (λ port. driving_all c.loop-port.flags port.bits.items) c.port-item.is) c.loop-port.invariant.1,
)
