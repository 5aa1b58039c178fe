use Rattle.std.proofs.Common.{◌≡◌, map, take}
use Rattle.icl_signals.specs.Wirings.{cells_of}
use Rattle.icl_signals.specs.Connecting.{thing_of}
use Rattle.icl_signals.specs.TrueEnds.{seen_entry}
use Rattle.icl_signals.proofs.things.things.Given as goal

abbrev pub invariant-loop-e : goal.invariant-loop-e
invariant-loop-e l = l.all.items
    ≡ map (thing_of (cells_of l.wiring) l.wiring.entry) (map seen_entry (take l.e-index l.parts))
