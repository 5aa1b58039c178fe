use Rattle.std.proofs.Common.{◌≡◌, ◌+◌, ◌-◌, ◌++◌, ◌≤◌, arith, drop, length, take, ◌∙◌, subst}
use Rattle.std.specs.Prelude.{map}
use Rattle.instruments.specs.OnNetwork.{outputs}
use Rattle.instruments.specs.Runners.{machines_of, insts_of}
use Rattle.net_graph.specs.Signals.{signal}
use Rattle.net_bench.proofs.Packing.{captured_more}
use Rattle.net_bench.proofs.network.capture_register.Goals as goal

pub loop-at-preserved : goal.loop-at-preserved
loop-at-preserved c =
    let value = signal
    (outputs (machines_of c.args.models.now.items) (insts_of c.args.runners.now)) c.args.holds.now in
    let sigs = c.args.capture.now in
    let old = c.args.into.now.items in
    let at = c.loop-at.at in
    let end = c.min-end.result in
    let within : end ≤ length sigs = omega (arith, c.min-end.ensures) in
    let up : at + (end - at) ≡ end = omega (arith, c.min-end.ensures, c.loop-at-test.true) in
    let items : c.shift_number.new.self.items
    ≡ drop (at + (end - at)) old ++ map value (take (at + (end - at)) sigs) =
    captured_more sigs value old at (end - at) c.captured_number-number.result c.loop-at.into.items
    c.shift_number.new.self.items (omega (arith, up, within)) c.requires.fits c.loop-at.invariant.items
    c.shift_number.ensures.items c.captured_number-number.ensures in
    record {
      within = within;
      items = subst (λ n. c.shift_number.new.self.items ≡ drop n old ++ map value (take n sigs)) up items;
      spare = c.shift_number.ensures.spare ∙ c.loop-at.invariant.spare;
    }
