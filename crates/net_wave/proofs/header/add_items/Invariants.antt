use Rattle.std.proofs.Common.{◌≡◌, ◌≤◌, ◌+◌, ◌++◌, drop, map}
use Rattle.instruments.specs.Seen.{seen_model}
use Rattle.net_wave.specs.Header.{items_text}
use Rattle.net_wave.proofs.header.add_items.Given as goal

abbrev pub invariant-loop-item : goal.invariant-loop-item
invariant-loop-item l =
    let models = map seen_model l.models.items in
    record {
      text : l.piece ++ items_text l.net l.device models l.number (drop l.item-index l.items)
          ≡ l.fn.piece ++ items_text l.net l.device models 1 l.items;
      few : l.number ≤ l.item-index + 1;
    }
