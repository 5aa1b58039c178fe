-- The stage of the network: each signal of the hierarchy followed to where it ends, or the first fault (IEEE
-- 1687-2014, ICL: AccessLink).
use Rattle.std.specs.Prelude.{List, [], ◌∷◌, Some, codes}
use Rattle.icl_references.specs.Roles.{CellOf}
use Rattle.icl_signals.specs.Connecting.{network}
use Rattle.icl_signals.specs.Refusals.{Refusal as Fault, NoLink, Undriven, SignalLoop, BadSelect}
use Rattle.icl_signals.specs.Refusals.{InstrumentChain}
use Rattle.net_graph.specs.declared.device.Device.{Device}
use Rattle.net_graph.specs.declared.net.Net.{Net}
use Rattle.ijtag_stages.specs.Refusals.{Part, Refusal, Said, refused_at}
use Rattle.ijtag_stages.specs.Work.{reported}
use Rattle.ijtag_stages.specs.declared.refusal.Stage.TheVariants.{Connect}

-- how a fault is reported
abbrev pub connect_refusal : Fault → Refusal
connect_refusal (NoLink link instr) =
    record { stage = Connect; kind = codes "NoLink"; args = Said link ∷ Said instr ∷ [] }
connect_refusal (Undriven at) = refused_at Connect (codes "Undriven") at
connect_refusal (SignalLoop at) = refused_at Connect (codes "SignalLoop") at
connect_refusal (BadSelect at) = refused_at Connect (codes "BadSelect") at
connect_refusal (InstrumentChain at) = refused_at Connect (codes "InstrumentChain") at

-- the network that the device's instruction selects
unfoldable pub connected : List CellOf → Device → Part Net
connected cells device =
    reported (network cells device.link.items device.instr.items) (λ fault. Some (connect_refusal fault))
