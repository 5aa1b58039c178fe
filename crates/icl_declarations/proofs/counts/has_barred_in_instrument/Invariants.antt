use Rattle.std.proofs.Common.{◌≡◌, map, drop}
use Rattle.std.specs.List.{list_any}
use Rattle.icl_lexer.specs.Views.{seen_item}
use Rattle.icl_declarations.specs.Parts.{is_barred_in_instrument}
use Rattle.icl_declarations.proofs.counts.has_barred_in_instrument.Given as goal

abbrev pub invariant-loop-item : goal.invariant-loop-item
invariant-loop-item l =
    list_any (λ item. is_barred_in_instrument item.what) (map seen_item (drop l.item-index l.items))
    ≡ list_any (λ item. is_barred_in_instrument item.what) (map seen_item l.items)
