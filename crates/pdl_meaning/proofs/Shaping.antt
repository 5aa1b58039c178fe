-- Update stages keep the widths of their registers.
use Rattle.std.proofs.Common.{◌≡◌, List, length, ap, ◌∙◌}
use Rattle.std.specs.Prelude.{map, All}
use Rattle.std.proofs.lemmas.List.Elements.{All-weaker}
use Rattle.net_graph.specs.declared.net.Net.{Net}
use Rattle.net_graph.specs.declared.step.WriteBit.{WriteBit}
use Rattle.net_graph.specs.Held.{AreHolds, IsHeld}
use Rattle.net_graph.specs.Named.{IsBitOf}
use Rattle.net_graph.specs.Signals.{Holds}
use Rattle.net_graph.specs.Writes.{write_all}
use Rattle.net_graph.proofs.Selecting.{is_held}
use Rattle.net_graph.proofs.Writing.{write_all-shape}

pub write_held : (net : Net) (holds after : Holds) (ws : List WriteBit) → AreHolds net holds
    → after ≡ write_all holds ws → AreHolds net after
write_held net holds after ws h e = ap (map length) e ∙ write_all-shape ws holds ∙ h

pub all_held : (net : Net) (holds : Holds) (ws : List WriteBit) → AreHolds net holds
    → All (λ w. IsBitOf net w.bit) ws → All (λ w. IsHeld holds w.bit) ws
all_held net holds ws h a =
    All-weaker (λ w. IsBitOf net w.bit) (λ w. IsHeld holds w.bit) (λ w i. is_held net holds w.bit h i) ws a
