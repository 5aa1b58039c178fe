use Rattle.std.proofs.Common.{◌≡◌, [], map, drop}
use Rattle.icl_lexer.specs.Views.{seen_item}
use Rattle.icl_declarations.specs.Faults.{over}
use Rattle.icl_declarations.specs.Tables.{seen_table}
use Rattle.icl_frames.specs.FirstPass.{with_parameter}
use Rattle.icl_frames.proofs.params.parameters.Given as goal

abbrev pub invariant-loop-item : goal.invariant-loop-item
invariant-loop-item l =
    over (λ ps item. with_parameter (seen_table l.given) ps item item.what) (seen_table l.params)
    (map seen_item (drop l.item-index l.items))
    ≡ over (λ ps item. with_parameter (seen_table l.given) ps item item.what) [] (map seen_item l.items)
