-- What the records of a network name is there: registers and their bits, muxes, outputs of instruments
-- (IEEE 1687-2014, ICL: the objects of a module and the signals that join them).
use Rattle.std.specs.Prelude.{◌<◌, ℕ, zero, suc, List, [], ◌∷◌, map, length, get_or}
use Rattle.net_graph.specs.declared.net.BitId.{BitId}
use Rattle.net_graph.specs.declared.net.Net.{Net}
use Rattle.net_graph.specs.declared.net.Point.{Point}
use Rattle.net_graph.specs.declared.net.Point.TheVariants.{Entry, Reg, Mux}
use Rattle.net_graph.specs.declared.net.Sig.{Sig}
use Rattle.net_graph.specs.declared.net.Sig.TheVariants.{Absent, Zero, One, Bit, Out}
use Rattle.net_graph.specs.declared.net.Spot.{Spot}
use Rattle.net_graph.specs.declared.net.Spot.TheVariants.{Held, Inward, Outward}

-- the width of a register, 0 for one that isn't there
abbrev pub width_of : Net → ℕ → ℕ
width_of net r = get_or (map (λ reg. reg.width) net.regs.items) r 0

abbrev pub IsBitOf : Net → BitId → Type 0
IsBitOf net b = b.pos < width_of net b.reg

abbrev pub IsPointOf : Net → Point → Type 0
IsPointOf net Entry = Unit {0}
IsPointOf net (Reg r) = r < length net.regs.items
IsPointOf net (Mux m) = m < length net.muxes.items

-- the widths of an instrument's outputs, none for an instrument that isn't there
abbrev pub output_widths : Net → ℕ → List ℕ
output_widths net inst = get_or (map (λ i. map (λ port. port.width) i.outs.items) net.insts.items) inst []

abbrev pub IsSignalOf : Net → Sig → Type 0
IsSignalOf net Absent = Unit {0}
IsSignalOf net Zero = Unit {0}
IsSignalOf net One = Unit {0}
IsSignalOf net (Bit b inverted) = IsBitOf net b
IsSignalOf net (Out inst port pos inverted) = pos < get_or (output_widths net inst) port 0

-- what may drive the input of an instrument: a constant or a register bit
abbrev pub IsInputOf : Net → Sig → Type 0
IsInputOf net Absent = ⊥
IsInputOf net Zero = Unit {0}
IsInputOf net One = Unit {0}
IsInputOf net (Bit b inverted) = IsBitOf net b
IsInputOf net (Out inst port pos inverted) = ⊥

-- n bits of register r, from position k on
abbrev pub bits_from : ℕ → ℕ → ℕ → List BitId
bits_from r k zero = []
bits_from r k (suc n) = record { reg = r; pos = k } ∷ bits_from r (suc k) n

-- the thing that a register is for procedures, by its number
abbrev pub thing_of : Net → ℕ → ℕ
thing_of net r = get_or (map (λ reg. reg.thing) net.regs.items) r 0

-- the node of an instrument
abbrev pub node_of : Net → ℕ → ℕ
node_of net inst = get_or (map (λ i. i.node) net.insts.items) inst 0

-- the bits of a thing, none for one that isn't there
abbrev pub bits_of_thing : Net → ℕ → List Spot
bits_of_thing net t = get_or (map (λ thing. thing.bits.items) net.things.items) t []

abbrev pub IsSpotOf : Net → Spot → Type 0
IsSpotOf net (Held b) = IsBitOf net b
IsSpotOf net (Inward s) = IsSignalOf net s
IsSpotOf net (Outward s) = IsSignalOf net s
