use Rattle.std.proofs.Common.{◌≡◌, map, drop}
use Rattle.icl_lexer.specs.Views.{seen_module}
use Rattle.icl_declarations.specs.Parts.{block_named}
use Rattle.icl_frames.proofs.instances.block_named.Given as goal

abbrev pub invariant-loop-block : goal.invariant-loop-block
invariant-loop-block l = block_named (map seen_module (drop l.block-index l.modules)) l.name
    ≡ block_named (map seen_module l.modules) l.name
