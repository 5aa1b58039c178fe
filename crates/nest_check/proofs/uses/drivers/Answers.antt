use Rattle.std.proofs.Common.{◌∙◌, sym, ap, subst}
use Rattle.std.specs.Prelude.{flat_map}
use Rattle.net_graph.specs.Held.{AreHolds}
use Rattle.net_graph.specs.Resets.{zero_holds}
use Rattle.net_graph.proofs.Widths.{zeros_held}
use Rattle.nest_check.specs.Uses.{driving, driving_all, inputs, inputs_of}
use Rattle.nest_check.proofs.BitUses.{driving_all_fits}
use Rattle.nest_check.proofs.Folding.{fold_piece}
use Rattle.nest_check.proofs.uses.drivers.Goals as goal

pub loop-inst-init : goal.loop-inst-init
loop-inst-init c =
    let net = c.args.net.now in (
      subst (AreHolds net) (sym c.in_ok-flags.ensures) (zeros_held net),
      ap (λ h. driving_all h (flat_map inputs_of c.as_slice-inst-items.result.now)) c.in_ok-flags.ensures
          ∙ ap (λ l. driving_all (zero_holds net) (flat_map inputs_of l)) c.as_slice-inst-items.ensures,
    )

pub loop-inst-preserved : goal.loop-inst-preserved
loop-inst-preserved c =
    let net = c.args.net.now in (
      subst (AreHolds net) (sym c.flag_inst.ensures)
          (driving_all_fits net (inputs_of c.inst-item.result) c.loop-inst.flags c.loop-inst.invariant.0),
      fold_piece driving inputs_of c.as_slice-inst-items.result.now c.loop-inst.inst-index
          c.inst-item.result c.loop-inst.flags c.flag_inst.new.flags
          (driving_all (zero_holds net) (inputs net)) c.loop-inst-test.true (c.flag_inst.ensures
          ∙ ap (λ inst. driving_all c.loop-inst.flags (inputs_of inst)) c.inst-item.is)
          c.loop-inst.invariant.1,
    )
