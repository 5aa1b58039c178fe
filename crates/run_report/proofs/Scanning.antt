-- Plans of a group can be scanned, one after the other.
use Rattle.std.proofs.Common.{List, [], ◌∷◌, sym, subst}
use Rattle.std.specs.Prelude.{map}
use Rattle.net_graph.specs.declared.net.Net.{Net}
use Rattle.net_graph.specs.SeenSteps.{SeenGroup}
use Rattle.net_graph.specs.Signals.{Holds}
use Rattle.net_graph.specs.Writes.{write_all}
use Rattle.net_tree.specs.declared.plan.ScanPlan.{ScanPlan}
use Rattle.net_tree.specs.Form.{Items}
use Rattle.net_tree.specs.ScanPlans.{seen_plan}
use Rattle.path_planner.specs.Opening.{CanOpen}
use Rattle.path_planner.specs.Plans.{ArePlans, AreScans}
use Rattle.path_planner.specs.Scannable.{IsScannable}
use Rattle.path_planner.proofs.PlanSteps.{can_go_on}
use Rattle.scan_packer.specs.Packing.{CanScan}
use Rattle.retargeter.proofs.Scanning.{group_scan, opening_scan}
use Rattle.run_report.specs.Scanning.{CanScanAll}

pub can_scan_all : (net : Net) (form : Items) (g : SeenGroup) (holds : Holds) (ps : List SeenGroup)
    → CanOpen net form g holds → ArePlans net form g holds ps → AreScans net holds ps
    → CanScanAll net holds ps
can_scan_all net form g holds [] c a s = s
can_scan_all net form g holds (p ∷ []) c a s =
    (s.0.scannable, subst (CanScan net holds) (sym a.1) (group_scan net form g holds c a.0 a.2), s.1)
can_scan_all net form g holds (p ∷ (q ∷ ps)) c a s = (
  s.0.scannable,
  opening_scan net form g holds c p a.0,
  can_scan_all net form g (write_all holds p.writes) (q ∷ ps) (can_go_on net form g holds c p a.0) a.1 s.1,
)

pub scannable : (net : Net) (holds : Holds) (ps : List ScanPlan)
    → CanScanAll net holds (map seen_plan ps) → IsScannable net holds
scannable net holds [] c = c
scannable net holds (p ∷ ps) c = c.0
