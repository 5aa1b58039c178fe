-- The bits that a scan writes are there.
use Rattle.std.specs.Prelude.{All}
use Rattle.std.proofs.lemmas.List.Elements.{All-weaker}
use Rattle.net_graph.specs.declared.net.Net.{Net}
use Rattle.net_graph.specs.declared.step.WriteBit.{WriteBit}
use Rattle.net_graph.specs.Held.{IsHeld}
use Rattle.net_graph.specs.Named.{IsBitOf}
use Rattle.net_graph.specs.SeenSteps.{SeenGroup}
use Rattle.net_graph.specs.Signals.{Holds}
use Rattle.net_graph.proofs.Selecting.{is_held}
use Rattle.scan_packer.specs.Packing.{CanScan}

pub plan_held : (net : Net) (holds : Holds) (plan : SeenGroup) → CanScan net holds plan
    → All (λ w. IsHeld holds w.bit) plan.writes
plan_held net holds plan (path, e, can) =
    All-weaker (λ (w : WriteBit). IsBitOf net w.bit) (λ (w : WriteBit). IsHeld holds w.bit)
    (λ w b. is_held net holds w.bit can.widths b) plan.writes can.writes
