use Rattle.std.proofs.Common.{◌+◌, List, ap, sym, ◌∙◌}
use Rattle.net_graph.specs.declared.branch.Branch.{Branch}
use Rattle.net_graph.specs.SeenSteps.{seen_group}
use Rattle.net_graph.proofs.Shapes.{shape}
use Rattle.net_graph.proofs.Writing.{write_all-shape}
use Rattle.least_clocks.specs.Inside.{is_one_of, bits_within_rows}
use Rattle.least_clocks.specs.declared.count.Count.{Count}
use Rattle.least_clocks.proofs.Counted.{own_counted, round_counted, scans_counted}
use Rattle.least_clocks.proofs.count.Count.group.Goals as goal

pub returns-clause-counts : goal.returns-clause-counts
returns-clause-counts c =
    let net = c.args.net.now in
    let form = c.args.tree.now in
    let g = seen_group c.args.group.now in
    let now = c.args.self.now in
    let bits = c.bits_within_rows-own.ensures.bits
    ∙ ap (λ (rows : List Branch). bits_within_rows net form (is_one_of rows)) c.as_slice.ensures in
    let own = own_counted net form now.holds g c.in_ok-rows.rows.items
    c.bits_within_rows-own.result c.in_ok-rows.ensures bits in
    let scans = scans_counted net form now.fresh now.holds g
    (c.bits_within_rows-own.result + 5) c.in_ok-clocks.clocks own c.in_ok-clocks.ensures.clocks in
    round_counted net form c.args.device.now now c.scan.new.self g c.in_ok-clocks.clocks
    c.write_group.new.holds (sym c.is_redundant.ensures ∙ c.if-is_redundant.false) scans
    c.scan.ensures.state c.write_group.ensures

pub returns-clause-holds : goal.returns-clause-holds
returns-clause-holds c =
    ap shape c.write_group.ensures
    ∙ write_all-shape c.args.group.now.writes.items c.scan.new.self.holds
    ∙ ap (λ (x : Count). shape x.holds) c.scan.ensures.state
    ∙ c.requires.holds
