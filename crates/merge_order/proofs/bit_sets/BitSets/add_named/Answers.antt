use Rattle.std.proofs.Common.{◌==◌, ◌∙◌, ap}
use Rattle.std.specs.Prelude.{◌&&◌, ◌||◌}
use Rattle.std.specs.List.{list_any}
use Rattle.net_graph.specs.Path.{same_place}
use Rattle.net_graph.specs.SeenSteps.{seen_group}
use Rattle.merge_order.specs.Tables.{has_bit}
use Rattle.merge_order.proofs.Tabled.{both_put}
use Rattle.merge_order.proofs.bit_sets.BitSets.add_named.Goals as goal

pub returns-clause-bits : goal.returns-clause-bits
returns-clause-bits c = λ b k.
    let g = seen_group c.args.group.now in
    let there = k == c.args.join in
    let old = has_bit c.args.self.now b k in
    let middle = has_bit c.add_written.new.self b k in
    both_put there (list_any (λ w. same_place b w.bit) g.writes)
    (list_any (λ r. same_place b r.bit) g.reads) old middle (has_bit c.add_read.new.self b k)
    (c.in_ok-add_written.ensures.bits b k
    ∙ ap (λ l. there && list_any (λ w. same_place b w.bit) l || old) c.as_slice.ensures)
    (c.in_ok-add_read.ensures.bits b k
    ∙ ap (λ l. there && list_any (λ r. same_place b r.bit) l || middle) c.as_slice-2.ensures)
