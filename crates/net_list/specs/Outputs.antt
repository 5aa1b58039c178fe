-- The outputs of instruments: their names, and the indices of their bits in the ICL text (IEEE 1687-2014,
-- ICL: DataOutPort).
use Rattle.std.specs.Prelude.{ℕ, ◌==◌, ◌&&◌, Bool, cond, List, [], ◌∷◌, ◌++◌, codes, get_or, length, map}
use Rattle.std.specs.Str.{bytes_eq}
use Rattle.net_graph.specs.declared.net.Net.{Net}
use Rattle.net_graph.specs.declared.net.Thing.{Thing}
use Rattle.net_graph.specs.Named.{node_of, output_widths}
use Rattle.net_graph.specs.PathNames.{instance_path}
use Rattle.net_list.specs.Drivers.{index_between}

-- the name of an output of an instrument
abbrev pub port_name : Net → ℕ → ℕ → List ℕ
port_name net i p =
    get_or (get_or (map (λ inst. map (λ port. port.name.items) inst.outs.items) net.insts.items) i []) p []

-- the path of an output
abbrev pub output_path : Net → ℕ → ℕ → List ℕ
output_path net i p = instance_path net (node_of net i) ++ (codes "." ++ port_name net i p)

-- whether a thing is the port of a node, of this name and of this many bits
abbrev pub is_port : Thing → ℕ → List ℕ → ℕ → Bool
is_port thing node name width =
    (thing.node == node) && (bytes_eq thing.name.items name && length thing.bits.items == width)

-- the index that a position of such a port has in the ICL text; the position where there is no such port
abbrev pub index_in : List Thing → ℕ → List ℕ → ℕ → ℕ → ℕ
index_in [] node name width pos = pos
index_in (t ∷ ts) node name width pos =
    cond (is_port t node name width) (index_between t.left t.right pos) (index_in ts node name width pos)

abbrev pub output_index : Net → ℕ → ℕ → ℕ → ℕ
output_index net i p pos =
    index_in net.things.items (node_of net i) (port_name net i p) (get_or (output_widths net i) p 0) pos
