use Rattle.std.proofs.Common.{◌≡◌, map, take}
use Rattle.icl_signals.specs.Connecting.{output_of}
use Rattle.icl_signals.specs.TrueEnds.{seen_entry}
use Rattle.icl_signals.specs.Inside.{numbered}
use Rattle.icl_signals.proofs.instruments.outputs.Given as goal

abbrev pub invariant-loop-e : goal.invariant-loop-e
invariant-loop-e l = l.all.items
    ≡ map output_of (map (λ e. numbered (seen_entry e)) (take l.e-index l.parts))
