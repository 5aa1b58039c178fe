-- Plans that can be scanned, one after the other.
use Rattle.std.specs.Prelude.{List, [], ◌∷◌}
use Rattle.net_graph.specs.declared.net.Net.{Net}
use Rattle.net_graph.specs.SeenSteps.{SeenGroup}
use Rattle.net_graph.specs.Signals.{Holds}
use Rattle.net_graph.specs.Writes.{write_all}
use Rattle.path_planner.specs.Scannable.{IsScannable}
use Rattle.scan_packer.specs.Packing.{CanScan}

-- each over the path that the earlier ones have left, and more scans after them
abbrev pub CanScanAll : Net → Holds → List SeenGroup → Type 0
CanScanAll net holds [] = IsScannable net holds
CanScanAll net holds (p ∷ ps) = IsScannable net holds × CanScan net holds p
    × CanScanAll net (write_all holds p.writes) ps
