use Rattle.std.proofs.Common.{◌≡◌, drop}
use Rattle.net_list.specs.Outputs.{index_in}
use Rattle.net_list.proofs.outputs.index_in.Given as goal

abbrev pub invariant-loop-thing : goal.invariant-loop-thing
invariant-loop-thing l =
    index_in (drop l.thing-index l.things) l.node l.name l.width l.pos
    ≡ index_in l.things l.node l.name l.width l.pos
