use Rattle.std.proofs.Common.{◌≡◌, ◌≤◌, ◌+◌, map, drop}
use Rattle.std.specs.Prelude.{count_by}
use Rattle.icl_lexer.specs.Views.{seen_item}
use Rattle.icl_declarations.specs.Parts.{port_that, is_data_out}
use Rattle.icl_declarations.proofs.counts.has_many_outputs.Given as goal

abbrev pub invariant-loop-item : goal.invariant-loop-item
invariant-loop-item l = record {
  few : l.count ≤ l.item-index;
  goes_on : l.count + count_by (λ item. port_that is_data_out item.what)
      (map seen_item (drop l.item-index l.items))
      ≡ count_by (λ item. port_that is_data_out item.what) (map seen_item l.items);
}
