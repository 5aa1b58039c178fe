use Rattle.std.proofs.Common.{◌≡◌, ◌&&◌, map, drop}
use Rattle.std.specs.List.{list_any}
use Rattle.std.specs.Str.{bytes_eq}
use Rattle.ij_bits.specs.BitLists.{same_bit}
use Rattle.icl_lexer.specs.Views.{seen_item, seen_module}
use Rattle.icl_declarations.specs.Parts.{is_parameter_that, has_parameter}
use Rattle.icl_frames.proofs.instances.has_parameter.Given as goal

abbrev pub invariant-loop-item : goal.invariant-loop-item
invariant-loop-item l =
    list_any (λ item. is_parameter_that (same_bit l.is_local) item.what && bytes_eq l.name item.name)
    (map seen_item (drop l.item-index l.block.items.items))
    ≡ has_parameter (same_bit l.is_local) (seen_module l.block) l.name
