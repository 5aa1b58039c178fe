-- Which register bits capture a signal, in an index: each slot of a table lists some of them in net order.
use Rattle.std.specs.Prelude.{◌≡◌, ℕ, ◌+◌, ◌*◌, ◌%◌, cond, List, [], ◌∷◌, get_or, map, Option, Some, None}
use Rattle.ij_bits.specs.Room.{Listed}
use Rattle.ij_text.specs.Options.{or_else}
use Rattle.net_graph.specs.declared.net.Net.{Net}
use Rattle.net_graph.specs.declared.net.Sig.{Sig}
use Rattle.net_graph.specs.declared.net.Sig.TheVariants.{Absent, Zero, One, Bit, Out}
use Rattle.pdl_targets.specs.declared.captors.Captor.{Captor}
use Rattle.pdl_targets.specs.declared.picks.Picked.{Picked}
use Rattle.pdl_targets.specs.Targets.{captured_from, differ, is_inverted, same_source}

-- the slot of a bit of a register, or of an output of an instrument
abbrev pub slot : ℕ → ℕ → ℕ → ℕ
slot owner port pos = (owner * 1031 + port * 67 + pos) % 8191

-- the slot of a signal, and of its inverse; constants have one of their own
abbrev pub slot_of : Sig → ℕ
slot_of Absent = 8191
slot_of Zero = 8191
slot_of One = 8191
slot_of (Bit b i) = slot b.reg 0 b.pos
slot_of (Out inst port pos i) = slot inst port pos

-- the register bit, if it captures a signal or its inverse
abbrev pub picked : Captor → Sig → Option Picked
picked c s = cond (same_source c.signal s)
    (Some (record { bit = c.bit; inverted = differ (is_inverted c.signal) (is_inverted s) })) None

-- the first of some that does
abbrev pub first_captor : List Captor → Sig → Option Picked
first_captor [] s = None
first_captor (c ∷ cs) s = or_else (picked c s) (first_captor cs s)

-- those that a slot lists
abbrev pub captors_in : List (Listed Captor) → ℕ → List Captor
captors_in slots k = get_or (map (λ captors. captors.items) slots) k []

-- the first that the slot of a signal lists
abbrev pub captured : List (Listed Captor) → Sig → Option Picked
captured slots s = first_captor (captors_in slots (slot_of s)) s

-- a table with one more
abbrev pub Adds : List (Listed Captor) → List (Listed Captor) → Captor → Type 0
Adds old new c = (s : Sig) → captured new s ≡ or_else (captured old s) (picked c s)

-- the table gives the first register bit that captures a signal or its inverse
abbrev pub AreCaptors : Net → List (Listed Captor) → Type 0
AreCaptors net slots = (s : Sig) → captured slots s ≡ captured_from 0 net.regs.items s
