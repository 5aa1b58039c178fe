use Rattle.std.proofs.Common.{◌≡◌, ◌∷◌, take}
use Rattle.icl_frames.specs.SeenFrames.{names_of}
use Rattle.icl_frames.proofs.cells.add_modules.Given as goal

abbrev pub invariant-loop-outer : goal.invariant-loop-outer
invariant-loop-outer l = names_of l.all.items ≡ l.fn.block.name.items ∷ names_of (take l.outer-index l.above)
