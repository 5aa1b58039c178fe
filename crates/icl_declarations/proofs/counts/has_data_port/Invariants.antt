use Rattle.std.proofs.Common.{◌≡◌, map, drop}
use Rattle.std.specs.List.{list_any}
use Rattle.icl_lexer.specs.Views.{seen_item}
use Rattle.icl_declarations.specs.Parts.{is_data_port}
use Rattle.icl_declarations.proofs.counts.has_data_port.Given as goal

abbrev pub invariant-loop-item : goal.invariant-loop-item
invariant-loop-item l = list_any (λ item. is_data_port item.what) (map seen_item (drop l.item-index l.items))
    ≡ list_any (λ item. is_data_port item.what) (map seen_item l.items)
