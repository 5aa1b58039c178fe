-- What the register bits of a network are used for: which of them select twice, and which drive an
-- instrument, in flags that one pass over all select bits and one over all inputs of instruments set.
use Rattle.std.specs.Prelude.{◌↔◌, Bool, true, false, List, flat_map, fold, IsFalse}
use Rattle.net_graph.specs.Held.{set_hold, AreHolds}
use Rattle.net_graph.specs.Resets.{zero_holds}
use Rattle.net_graph.specs.Signals.{Holds, hold_at}
use Rattle.net_graph.specs.declared.net.BitId.{BitId}
use Rattle.net_graph.specs.declared.net.Inst.{Inst}
use Rattle.net_graph.specs.declared.net.Net.{Net}
use Rattle.net_graph.specs.declared.net.Sig.{Sig}
use Rattle.net_graph.specs.declared.net.Sig.TheVariants.{Absent, Zero, One, Bit, Out}
use Rattle.net_tree.specs.Lawful.{IsUnshared, DrivesNone}
use Rattle.nest_check.specs.declared.uses.Selecting.{Selecting}
use Rattle.nest_check.specs.declared.uses.Uses.{Uses}

-- ---- select bits

-- the bits that select at least once, and those that select at least twice
pub record Selected : Type 0 where
  pub once : Holds
  pub twice : Holds

abbrev pub selected_of : Selecting → Selected
selected_of s = record { once = s.once; twice = s.twice }

abbrev pub no_flags : Net → Selected
no_flags net = record { once = zero_holds net; twice = zero_holds net }

abbrev pub noted : Selected → BitId → Bool → Selected
noted s b true = record { once = s.once; twice = set_hold s.twice b true }
noted s b false = record { once = set_hold s.once b true; twice = s.twice }

abbrev pub note : Selected → BitId → Selected
note s b = noted s b (hold_at s.once b)

abbrev pub note_select_bits : Selected → List BitId → Selected
note_select_bits s bits = fold note s bits

-- each register bit has its flags
abbrev pub HaveFlags : Net → Selected → Type 0
HaveFlags net s = AreHolds net s.once × AreHolds net s.twice

-- ---- inputs of instruments

abbrev pub driving : Holds → Sig → Holds
driving flags Absent = flags
driving flags Zero = flags
driving flags One = flags
driving flags (Bit b inverted) = set_hold flags b true
driving flags (Out inst port pos inverted) = flags

abbrev pub driving_all : Holds → List Sig → Holds
driving_all flags inputs = fold driving flags inputs

abbrev pub inputs_of : Inst → List Sig
inputs_of inst = flat_map (λ port. port.bits.items) inst.ins.items

abbrev pub inputs : Net → List Sig
inputs net = flat_map inputs_of net.insts.items

-- ---- both

pub record AreUses (net : Net) (u : Uses) : Type 0 where
  pub shared_flags : AreHolds net u.shared
  pub driver_flags : AreHolds net u.drivers
  pub shared : (b : BitId) → IsFalse (hold_at u.shared b) ↔ IsUnshared net b
  pub drivers : (b : BitId) → IsFalse (hold_at u.drivers b) ↔ DrivesNone net b
