-- The names that reports give to registers and instruments: their paths below the top (IEEE 1687-2014, ICL:
-- Instance).
use Rattle.std.specs.Prelude.{ℕ, List, map, get_or}
use Rattle.net_graph.specs.declared.net.Net.{Net}
use Rattle.net_graph.specs.Named.{thing_of}
use Rattle.net_graph.specs.PathNames.{instance_path, thing_path}

-- a register, by its thing
abbrev pub register_path : Net → ℕ → List ℕ
register_path net r = thing_path net (thing_of net r)

-- an instrument, by its node
abbrev pub instrument_path : Net → ℕ → List ℕ
instrument_path net i = instance_path net (get_or (map (λ inst. inst.node) net.insts.items) i 0)
