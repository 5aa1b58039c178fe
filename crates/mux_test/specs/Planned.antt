-- A mux test that is planned: scans one after the other, each with its row and with the bits that it writes.
use Rattle.std.specs.Prelude.{◌≡◌, Bool, false, List, [], ◌∷◌, All}
use Rattle.net_graph.specs.declared.branch.Branch.{Branch}
use Rattle.net_graph.specs.declared.net.Net.{Net}
use Rattle.net_graph.specs.Held.{IsHeld}
use Rattle.net_graph.specs.Resets.{start_holds}
use Rattle.net_graph.specs.SeenSteps.{SeenGroup}
use Rattle.net_graph.specs.Signals.{Holds}
use Rattle.net_graph.specs.Writes.{write_all}
use Rattle.net_tree.specs.Form.{Items}
use Rattle.net_tree.specs.ScanPlans.{seen_plan}
use Rattle.path_planner.specs.Scannable.{IsScannable}
use Rattle.scan_packer.specs.Packing.{CanScan}
use Rattle.svf_writer.specs.SeenCommands.{SDR}
use Rattle.mux_test.specs.declared.planned.PlannedScan.{PlannedScan}
use Rattle.mux_test.specs.Flushes.{SeenTestScan, test_scans}
use Rattle.mux_test.specs.Test.{flush, scanned}

-- a planned scan with plain lists
pub record SeenPlanned : Type 0 where
  pub branch : Branch
  pub first : Bool
  pub plan : SeenGroup

abbrev pub seen_planned : PlannedScan → SeenPlanned
seen_planned p = record { branch = p.branch; first = p.first; plan = seen_plan p.plan }

-- the plans of one row
abbrev pub row_planned : Branch → Bool → List SeenGroup → List SeenPlanned
row_planned b first [] = []
row_planned b first (p ∷ ps) = record { branch = b; first = first; plan = p } ∷ row_planned b false ps

-- what the update stages hold after each scan
abbrev pub holds_after : Holds → List SeenPlanned → List Holds
holds_after holds [] = []
holds_after holds (p ∷ ps) = let next = write_all holds p.plan.writes in next ∷ holds_after next ps

-- and after the last of them
abbrev pub last_planned : Holds → List SeenPlanned → Holds
last_planned holds [] = holds
last_planned holds (p ∷ ps) = last_planned (write_all holds p.plan.writes) ps

-- the flushes of the scans
abbrev pub planned_flushes : Net → Holds → List SeenPlanned → List SeenTestScan
planned_flushes net holds [] = []
planned_flushes net holds (p ∷ ps) =
    let next = write_all holds p.plan.writes in
    record { branch = p.branch; first = p.first; scan = SDR (flush net holds next) }
    ∷ planned_flushes net next ps

-- each scan can be done over the path that the earlier ones have left, and more after them
abbrev pub AreFlushable : Net → Holds → List SeenPlanned → Type 0
AreFlushable net holds [] = IsScannable net holds
AreFlushable net holds (p ∷ ps) =
    IsScannable net holds × CanScan net holds p.plan × AreFlushable net (write_all holds p.plan.writes) ps

-- the bits that plans write are there
abbrev pub AreWritable : Holds → List SeenGroup → Type 0
AreWritable holds [] = Unit {0}
AreWritable holds (p ∷ ps) = All (λ w. IsHeld holds w.bit) p.writes
    × AreWritable (write_all holds p.writes) ps

-- these are the scans of a network's test
pub record ArePlannedTest (net : Net) (form : Items) (scans : List SeenPlanned) : Type 0 where
  pub flushes : planned_flushes net (start_holds net) scans ≡ test_scans net form
  pub after : holds_after (start_holds net) scans ≡ scanned net form
  pub can : AreFlushable net (start_holds net) scans
