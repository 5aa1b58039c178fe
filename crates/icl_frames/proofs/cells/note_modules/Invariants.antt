use Rattle.std.proofs.Common.{◌≡◌, ℕ, List, [], map, take, drop}
use Rattle.std.specs.Prelude.{is_some}
use Rattle.icl_lexer.specs.Views.{seen_module}
use Rattle.icl_declarations.specs.Faults.{over}
use Rattle.icl_declarations.specs.Parts.{block_named}
use Rattle.icl_frames.specs.FirstPass.{with_block}
use Rattle.icl_declarations.specs.Taken.{has_entry}
use Rattle.icl_frames.proofs.cells.note_modules.Given as goal

abbrev pub invariant-loop-block : goal.invariant-loop-block
invariant-loop-block l = record {
  seen : (name : List ℕ)
      → has_entry l.seen name ≡ is_some (block_named (map seen_module (take l.block-index l.modules)) name);
  goes_on : over with_block (map seen_module (take l.block-index l.modules))
      (map seen_module (drop l.block-index l.modules)) ≡ over with_block [] (map seen_module l.modules);
}
