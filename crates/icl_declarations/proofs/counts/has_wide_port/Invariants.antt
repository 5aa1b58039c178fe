use Rattle.std.proofs.Common.{◌≡◌, ◌≤◌, map, drop, length}
use Rattle.std.specs.Prelude.{◌&&◌, filter, zip, nat_lt}
use Rattle.std.specs.List.{list_any}
use Rattle.icl_lexer.specs.Views.{seen_item, seen_module}
use Rattle.icl_declarations.specs.Parts.{is_part, is_data_port}
use Rattle.icl_declarations.specs.Ranges.{width}
use Rattle.icl_declarations.specs.Counting.{has_wide_port}
use Rattle.icl_declarations.proofs.counts.has_wide_port.Given as goal

abbrev pub invariant-loop-item : goal.invariant-loop-item
invariant-loop-item l = record {
  few : l.part ≤ length l.bounds;
  goes_on : list_any (λ part. is_data_port part.0.what && nat_lt 64 (width part.1))
      (zip (filter (λ item. is_part item.what) (map seen_item (drop l.item-index l.block.items.items)))
      (drop l.part l.bounds))
      ≡ has_wide_port (seen_module l.block) l.bounds;
}
