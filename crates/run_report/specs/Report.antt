-- What is printed of a procedure that is run: the report of the play of its SVF, in which each compare that
-- differs names its iRead (IEEE 1687-2014, PDL level 0: iRead; Serial Vector Format, revision E).
use Rattle.std.specs.Prelude.{◌≡◌, ℕ, List, Option}
use Rattle.bench_report.specs.Report.{named_report}
use Rattle.headline.specs.Retargeting.{PlannedStep}
use Rattle.ij_io.specs.Bytes.{Adds, AddsPart}
use Rattle.instruments.specs.Seen.{SeenModel}
use Rattle.net_graph.specs.declared.device.Device.{Device}
use Rattle.net_graph.specs.declared.net.Net.{Net}
use Rattle.net_graph.specs.Resets.{start_holds}
use Rattle.net_graph.specs.SeenSteps.{SeenStep}
use Rattle.net_tree.specs.Form.{Items}
use Rattle.run_report.specs.Places.{places, read_at}
use Rattle.retargeter.specs.Plans.{AreStepsOf}
use Rattle.svf_writer.specs.SeenCommands.{SeenCommand}

-- the iRead of a compare is that which is at its place, whatever plans of the bit steps were found
pub record IsRunReport (net : Net) (form : Items) (device : Device) (models : List SeenModel)
    (steps : List SeenStep) (commands : List SeenCommand) (report : List ℕ) : Type 0 where
  pub plans : List PlannedStep
  pub planned : AreStepsOf net form (start_holds net) steps plans
  pub text : report ≡ named_report (read_at (places net plans)) net device models commands

module _ (net : Net) (form : Items) (device : Device) (models : List SeenModel) (steps : List SeenStep)
    (commands : List SeenCommand) (old new : Option (List ℕ)) where
  -- exactly such a report is added
  abbrev pub WritesReport : Type 0
  WritesReport = (report : List ℕ)
      → IsRunReport net form device models steps commands report → Adds old new report

  -- some first bytes of it are added
  abbrev pub WritesReportPart : Type 0
  WritesReportPart = (report : List ℕ)
      → IsRunReport net form device models steps commands report → AddsPart old new report
