use Rattle.std.proofs.Common.{◌≡◌, drop}
use Rattle.std.specs.List.{list_any}
use Rattle.std.specs.Str.{bytes_eq}
use Rattle.icl_frames.specs.SeenFrames.{names_of}
use Rattle.icl_frames.proofs.frames.is_above.Given as goal

abbrev pub invariant-loop-block : goal.invariant-loop-block
invariant-loop-block l = list_any (bytes_eq l.name) (names_of (drop l.block-index l.above))
    ≡ list_any (bytes_eq l.name) (names_of l.above)
