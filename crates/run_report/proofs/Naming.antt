-- The report with the names of a look-up, as the report of a run.
use Rattle.std.proofs.Common.{◌≡◌, sym, subst, refl, ℕ, List, Option}
use Rattle.bench_report.specs.Report.{Names, named_report}
use Rattle.ij_io.specs.Bytes.{Adds, AddsPart}
use Rattle.instruments.specs.Seen.{SeenModel}
use Rattle.net_graph.specs.declared.device.Device.{Device}
use Rattle.net_graph.specs.declared.net.Net.{Net}
use Rattle.net_graph.specs.SeenSteps.{SeenStep}
use Rattle.net_tree.specs.Form.{Items}
use Rattle.run_report.specs.Places.{places, read_at}
use Rattle.run_report.specs.Procedure.{AreReadNames, Procedure}
use Rattle.run_report.specs.Report.{IsRunReport, WritesReport, WritesReportPart}
use Rattle.svf_writer.specs.SeenCommands.{SeenCommand}

module _ (net : Net) (form : Items) (device : Device) (models : List SeenModel) (steps : List SeenStep)
    (commands : List SeenCommand) (old new : Option (List ℕ)) (p : Procedure)
    (is : p ≡ record { net = net; form = form; steps = steps }) where
  named : (report : List ℕ) (r : IsRunReport net form device models steps commands report)
      → AreReadNames p (read_at (places net r.plans))
  named report r =
      subst (λ (q : Procedure). AreReadNames q (read_at (places net r.plans))) (sym is)
      (record { plans = r.plans; planned = r.planned; named = λ scan bit. refl })

  pub writes : ((names : Names) → AreReadNames p names
      → Adds old new (named_report names net device models commands))
      → WritesReport net form device models steps commands old new
  writes whole report r = subst (λ (t : List ℕ). Adds old new t) (sym r.text)
      (whole (read_at (places net r.plans)) (named report r))

  pub writes_part : ((names : Names) → AreReadNames p names
      → AddsPart old new (named_report names net device models commands))
      → WritesReportPart net form device models steps commands old new
  writes_part part report r = subst (λ (t : List ℕ). AddsPart old new t) (sym r.text)
      (part (read_at (places net r.plans)) (named report r))
