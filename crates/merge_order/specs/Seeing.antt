-- What an instrument sees of a merge (IEEE 1687-2014, PDL level 0: iMerge; hardware rules: instruments).
use Rattle.std.specs.Prelude.{ℕ, Bool, true, false, List, [], filter, get_or, map}
use Rattle.std.specs.List.{list_any}
use Rattle.net_graph.specs.declared.net.BitId.{BitId}
use Rattle.net_graph.specs.declared.net.Net.{Net}
use Rattle.net_graph.specs.declared.net.PortIn.{PortIn}
use Rattle.net_graph.specs.Path.{is_bit}
use Rattle.instruments.specs.Machine.{Event, Change, Run, Reset}
use Rattle.pdl_meaning.specs.Direct.{Direct}

-- the input ports of an instrument
abbrev pub inputs_of : Net → ℕ → List PortIn
inputs_of net i = get_or (map (λ inst. inst.ins.items) net.insts.items) i []

-- a register bit feeds an input of an instrument
abbrev pub feeds : Net → ℕ → BitId → Bool
feeds net i b = list_any (λ port. list_any (is_bit b) port.bits.items) (inputs_of net i)

abbrev pub is_change : Event → Bool
is_change (Change before now) = true
is_change Run = false
is_change Reset = false

-- the change events that an instrument has had, with the numbers at its inputs before and after
abbrev pub changes_seen : Direct (List Event) → ℕ → List Event
changes_seen d i = filter is_change (get_or (map (λ x. x.log) d.insts) i [])
