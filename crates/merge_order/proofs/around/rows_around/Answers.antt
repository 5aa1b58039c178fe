use Rattle.std.proofs.Common.{ap, List}
use Rattle.std.specs.Prelude.{flat_map}
use Rattle.net_graph.specs.declared.step.ReadBit.{ReadBit}
use Rattle.net_graph.specs.declared.step.WriteBit.{WriteBit}
use Rattle.net_graph.specs.SeenSteps.{seen_group}
use Rattle.pdl_targets.specs.SeenPlaces.{places_in}
use Rattle.merge_order.proofs.Arounds.{rows_told}
use Rattle.merge_order.proofs.around.rows_around.Goals as goal

pub returns : goal.returns
returns c =
    let places = places_in c.args.tree.now in
    let g = seen_group c.args.group.now in
    let of_writes = λ (ws : List WriteBit). flat_map (λ w. places w.bit.reg) ws in
    let of_reads = λ (rs : List ReadBit). flat_map (λ r. places r.bit.reg) rs in
    rows_told c.new.result.items c.add_written.new.self.rows.items c.add_read.new.self.rows.items
    (of_writes c.as_slice.result.now) (of_reads c.as_slice-2.result.now)
    (of_writes g.writes) (of_reads g.reads)
    c.new.ensures c.in_ok-add_written.ensures.rows c.in_ok-add_read.ensures.rows
    (ap of_writes c.as_slice.ensures) (ap of_reads c.as_slice-2.ensures)
