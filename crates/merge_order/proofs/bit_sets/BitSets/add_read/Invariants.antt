use Rattle.std.proofs.Common.{◌≡◌, ◌==◌, ℕ, take}
use Rattle.std.specs.Prelude.{◌&&◌, ◌||◌}
use Rattle.std.specs.List.{list_any}
use Rattle.net_graph.specs.declared.net.BitId.{BitId}
use Rattle.net_graph.specs.Path.{same_place}
use Rattle.merge_order.specs.Tables.{has_bit, is_shut}
use Rattle.merge_order.proofs.bit_sets.BitSets.add_read.Given as goal

abbrev pub invariant-loop-read : goal.invariant-loop-read
invariant-loop-read l = record {
  bits : (b : BitId) (k : ℕ) → has_bit l.self b k ≡ (k == l.join && list_any (λ r. same_place b r.bit)
      (take l.read-index l.reads) || has_bit l.fn.self b k);
  closed : (k : ℕ) → is_shut l.self k ≡ is_shut l.fn.self k;
}
