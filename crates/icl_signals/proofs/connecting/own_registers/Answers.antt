use Rattle.std.proofs.Common.{ap, ◌∙◌, map}
use Rattle.icl_elab.specs.WellFormed.{is_register}
use Rattle.icl_references.specs.Roles.{seen_hier}
use Rattle.icl_signals.specs.TrueEnds.{seen_entry}
use Rattle.icl_signals.proofs.Placed.{placed}
use Rattle.icl_signals.proofs.connecting.own_registers.Goals as goal

pub registers-regs-requires-clause-placed : goal.registers-regs-requires-clause-placed
registers-regs-requires-clause-placed c =
    placed (seen_hier c.args.wiring.now.hier.now) is_register c.as_slice.result.now
    (ap (map seen_entry) c.as_slice.ensures.value ∙ c.in_ok-parts.ensures)
