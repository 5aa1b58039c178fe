-- The written paths of what is in a network: the instance names below the top, and a name of its own,
-- with dots between (IEEE 1687-2014, ICL: Instance, ScanRegister, data ports, Alias, ScanMux).
use Rattle.std.specs.Prelude.{ℕ, List, [], ◌∷◌, ◌++◌, map, get_or}
use Rattle.std.specs.List.{flat_map}
use Rattle.ij_bits.specs.Room.{Listed}
use Rattle.net_graph.specs.declared.net.Net.{Net}

-- a name with a dot (46) after it, and with one before
abbrev pub with_dot : Listed ℕ → List ℕ
with_dot name = name.items ++ 46 ∷ []

abbrev pub after_dot : Listed ℕ → List ℕ
after_dot name = 46 ∷ name.items

-- names joined by dots
abbrev pub joined : List (Listed ℕ) → List ℕ
joined [] = []
joined (name ∷ names) = name.items ++ flat_map after_dot names

-- the instance names of a node below the top
abbrev pub node_names : Net → ℕ → List (Listed ℕ)
node_names net n = get_or (map (λ node. node.path.items) net.nodes.items) n []

-- an instance, by its node; the top's path is empty
abbrev pub instance_path : Net → ℕ → List ℕ
instance_path net n = joined (node_names net n)

-- a thing: its node's names, each with a dot, and its own
abbrev pub thing_path : Net → ℕ → List ℕ
thing_path net t =
    flat_map with_dot (node_names net (get_or (map (λ thing. thing.node) net.things.items) t 0))
    ++ get_or (map (λ thing. thing.name.items) net.things.items) t []

-- a mux: its node's names, each with a dot, and its own
abbrev pub mux_path : Net → ℕ → List ℕ
mux_path net m =
    flat_map with_dot (node_names net (get_or (map (λ mux. mux.node) net.muxes.items) m 0))
    ++ get_or (map (λ mux. mux.name.items) net.muxes.items) m []
