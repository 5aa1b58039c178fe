use Rattle.std.proofs.Common.{◌≡◌, ◌≤◌, map, take, length}
use Rattle.icl_signals.specs.Wirings.{cells_of}
use Rattle.icl_signals.specs.Connecting.{spot_of}
use Rattle.icl_signals.proofs.things.named_spots.Given as goal

abbrev pub invariant-loop-bit : goal.invariant-loop-bit
invariant-loop-bit l = record {
  items : l.all.items ≡ map (spot_of (cells_of l.wiring) l.wiring.entry) (take l.pos l.refs.items);
  far : l._bit ≤ l.pos;
  within : l.pos ≤ length l.refs.items;
}
