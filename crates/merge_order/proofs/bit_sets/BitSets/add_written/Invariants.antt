use Rattle.std.proofs.Common.{◌≡◌, ◌==◌, ℕ, take}
use Rattle.std.specs.Prelude.{◌&&◌, ◌||◌}
use Rattle.std.specs.List.{list_any}
use Rattle.net_graph.specs.declared.net.BitId.{BitId}
use Rattle.net_graph.specs.Path.{same_place}
use Rattle.merge_order.specs.Tables.{has_bit, is_shut}
use Rattle.merge_order.proofs.bit_sets.BitSets.add_written.Given as goal

abbrev pub invariant-loop-write : goal.invariant-loop-write
invariant-loop-write l = record {
  bits : (b : BitId) (k : ℕ) → has_bit l.self b k ≡ (k == l.join && list_any (λ w. same_place b w.bit)
      (take l.write-index l.writes) || has_bit l.fn.self b k);
  closed : (k : ℕ) → is_shut l.self k ≡ is_shut l.fn.self k;
}
