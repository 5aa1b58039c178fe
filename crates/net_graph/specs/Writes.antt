-- Register bits with new values (IEEE 1687-2014, PDL level 0: iWrite).
use Rattle.std.specs.Prelude.{List, [], ◌∷◌}
use Rattle.net_graph.specs.declared.step.WriteBit.{WriteBit}
use Rattle.net_graph.specs.Held.{set_hold}
use Rattle.net_graph.specs.Signals.{Holds}

-- a bit with its new value
abbrev pub write_bit : Holds → WriteBit → Holds
write_bit holds w = set_hold holds w.bit w.value

-- all writes of a list, in which no two name one bit
abbrev pub write_all : Holds → List WriteBit → Holds
write_all holds [] = holds
write_all holds (w ∷ ws) = write_all (write_bit holds w) ws
