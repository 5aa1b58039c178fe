-- How the parts of a network are called: the names of the instances below the top down to the part, and the
-- part's own name, with dots between; nothing for a part that isn't there (IEEE 1687-2014, ICL: hierarchical
-- names).
use Rattle.std.specs.Prelude.{ℕ, ◌+◌, ◌-◌, nat_lt, cond, List, [], ◌++◌, map, drop, get_or, codes}
use Rattle.net_graph.specs.declared.net.BitId.{BitId}
use Rattle.net_graph.specs.declared.net.Point.{Point}
use Rattle.net_graph.specs.declared.net.Point.TheVariants.{Entry, Reg, Mux}
use Rattle.net_graph.specs.Nets.{path_of}
use Rattle.net_graph.specs.declared.net.Net.{Net}
use Rattle.net_graph.specs.declared.net.Thing.{Thing}
use Rattle.pdl_expand.specs.Expansion.{dotted}
use Rattle.ijtag_stages.specs.Refusals.{Arg, Bit}

-- the instances from below the top down to a node
abbrev pub path_at : Net → ℕ → List (List ℕ)
path_at net node = get_or (map path_of net.nodes.items) node []

abbrev pub node_name : Net → ℕ → List ℕ
node_name net node = drop 1 (dotted (path_at net node))

-- a name in a node
abbrev pub name_in : Net → ℕ → List ℕ → List ℕ
name_in net node name = drop 1 (dotted (path_at net node) ++ (codes "." ++ name))

abbrev pub mux_name : Net → ℕ → List ℕ
mux_name net m = get_or (map (λ mux. name_in net mux.node mux.name.items) net.muxes.items) m []

abbrev pub inst_name : Net → ℕ → List ℕ
inst_name net i = get_or (map (λ inst. node_name net inst.node) net.insts.items) i []

abbrev pub thing_name : Net → ℕ → List ℕ
thing_name net t = get_or (map (λ thing. name_in net thing.node thing.name.items) net.things.items) t []

-- what a register is for procedures
abbrev pub reg_thing : Net → ℕ → ℕ
reg_thing net r = get_or (map (λ reg. reg.thing) net.regs.items) r 0

abbrev pub reg_name : Net → ℕ → List ℕ
reg_name net r = thing_name net (reg_thing net r)

abbrev pub cell_name : Net → Point → List ℕ
cell_name net Entry = []
cell_name net (Reg r) = reg_name net r
cell_name net (Mux m) = mux_name net m

-- the index at a position: position 0 has the right index
abbrev pub index_of : ℕ → Thing → ℕ
index_of pos thing = cond (nat_lt thing.left thing.right) (thing.right - pos) (thing.right + pos)

abbrev pub bit_index : Net → ℕ → ℕ → ℕ
bit_index net t pos = get_or (map (index_of pos) net.things.items) t 0

-- a register bit, by the register's name and the bit's index
abbrev pub bit_arg : Net → BitId → Arg
bit_arg net bit = Bit (reg_name net bit.reg) (bit_index net (reg_thing net bit.reg) bit.pos)
