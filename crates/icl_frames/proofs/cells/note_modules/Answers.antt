use Rattle.std.proofs.Common.{◌≡◌, ◌∙◌, ap, sym, map, take, false, List, ℕ, Bool}
use Rattle.std.specs.Prelude.{is_some, ◌||◌}
use Rattle.std.specs.Str.{bytes_eq}
use Rattle.icl_lexer.specs.Views.{seen_module}
use Rattle.icl_declarations.specs.Parts.{block_named}
use Rattle.icl_declarations.specs.Taken.{has_entry}
use Rattle.icl_frames.proofs.Modules.{name_passed, module_passed}
use Rattle.icl_frames.proofs.cells.note_modules.Goals as goal

pub loop-block-preserved : goal.loop-block-preserved
loop-block-preserved c =
    let x = c.block-item.result in
    let i = c.loop-block.block-index in
    let new : is_some (block_named (map seen_module (take i c.args.modules.now)) x.name.items) ≡ false =
    sym (c.loop-block.invariant.seen x.name.items)
    ∙ (ap (has_entry c.loop-block.seen) (sym c.as_slice.ensures) ∙ sym c.has.ensures ∙ c.if-has.false) in
    record {
      seen = λ name. c.in_ok-note.ensures.ok name
          ∙ ap (λ (n : List ℕ). has_entry c.loop-block.seen name || bytes_eq name n)
          c.as_slice-in-loop-block.ensures
          ∙ ap (λ (t : Bool). t || bytes_eq name x.name.items) (c.loop-block.invariant.seen name)
          ∙ sym (name_passed c.args.modules.now i x c.loop-block-test.true c.block-item.is name);
      goes_on = module_passed c.args.modules.now i x c.loop-block-test.true c.block-item.is new
          ∙ c.loop-block.invariant.goes_on;
    }
