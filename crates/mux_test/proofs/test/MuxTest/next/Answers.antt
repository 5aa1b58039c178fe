use Rattle.std.proofs.Common.{◌+◌, ◌<◌, drop, length, refl, arith}
use Rattle.std.specs.Prelude.{map}
use Rattle.net_graph.specs.Writes.{write_all}
use Rattle.mux_test.specs.Planned.{seen_planned}
use Rattle.mux_test.proofs.Judged.{next_can}
use Rattle.mux_test.proofs.Planning.{flushable_now}
use Rattle.mux_test.proofs.test.MuxTest.next.Goals as goal

pub go_past_scan-requires-clause-after : goal.go_past_scan-requires-clause-after
go_past_scan-requires-clause-after c =
    let net = c.self.inside.net.now in
    let scans = c.self.inside.scans.items in
    let i = c.self.inside.given in
    let planned = c.get-planned.result.now in
    let within : i < length scans = omega (arith, c.self.invariant.4, c.if-self-len.false, c.len.ensures) in
    let next = write_all c.self.inside.holds planned.plan.writes.items in
    flushable_now net next (map seen_planned (drop (i + 1) scans)) (next_can net scans i planned within
    c.get-planned.ensures c.self.inside.holds next refl c.self.invariant.1)
