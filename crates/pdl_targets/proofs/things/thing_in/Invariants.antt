use Rattle.std.proofs.Common.{◌≡◌, drop}
use Rattle.pdl_targets.specs.Targets.{thing_in}
use Rattle.pdl_targets.proofs.things.thing_in.Given as goal

abbrev pub invariant-loop-thing : goal.invariant-loop-thing
invariant-loop-thing l = thing_in (drop l.thing-index l.things) l.node l.name
    ≡ thing_in l.things l.node l.name
