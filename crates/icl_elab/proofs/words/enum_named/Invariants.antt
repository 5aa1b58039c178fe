use Rattle.std.proofs.Common.{◌≡◌, ◌&&◌, map, drop}
use Rattle.std.specs.Prelude.{find}
use Rattle.std.specs.Str.{bytes_eq}
use Rattle.icl_lexer.specs.Views.{seen_item}
use Rattle.icl_declarations.specs.Parts.{is_enum}
use Rattle.icl_elab.proofs.words.enum_named.Given as goal

abbrev pub invariant-loop-item : goal.invariant-loop-item
invariant-loop-item l =
    find (λ item. is_enum item.what && bytes_eq l.name item.name) (map seen_item (drop l.item-index l.items))
    ≡ find (λ item. is_enum item.what && bytes_eq l.name item.name) (map seen_item l.items)
