use Rattle.std.proofs.Common.{sym, subst}
use Rattle.path_planner.specs.Scannable.{IsScannable}
use Rattle.path_planner.proofs.Starting.{reset_scannable}
use Rattle.run_report.proofs.scans.note_step_reads.Goals as goal

pub returns-in-Reset-clause-scannable : goal.returns-in-Reset-clause-scannable
returns-in-Reset-clause-scannable c =
    subst (IsScannable c.args.net.now) (sym c.reset.ensures) (reset_scannable c.args.net.now c.args.tree.now
    c.requires.network.lawful c.args.holds.now c.requires.scannable)
