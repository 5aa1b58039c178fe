use Rattle.std.proofs.Common.{◌-◌, ◌<◌, ◌++◌, length, List, refl, ap, sym, ◌∙◌, subst, arith}
use Rattle.bench_report.specs.Report.{chip_of}
use Rattle.instruments.specs.OnNetwork.{outputs}
use Rattle.net_graph.specs.declared.net.Net.{Net}
use Rattle.net_graph.specs.declared.net.Sig.{Sig}
use Rattle.net_graph.specs.declared.net.Sig.TheVariants.{Absent, Zero}
use Rattle.net_graph.specs.Held.{AreHolds}
use Rattle.net_graph.specs.Signals.{Holds, signal}
use Rattle.net_wave.specs.Values.{digits, drivers, input_bit}
use Rattle.net_wave.proofs.DigitSteps.{digits_all, digits_next}
use Rattle.net_wave.proofs.Modelled.{driver_driven, driver_is}
use Rattle.net_wave.proofs.scene.Scene.add_input.Goals as goal

pub signal-requires : goal.signal-requires
signal-requires c =
    let b = c.args.self.now.bench.now in
    let net = c.args.self.now.net.now in
    let bits = c.as_slice-bits.result.now in
    let k = length bits - 1 - c.loop-j.j in
    let h : k < length bits = omega (arith, c.loop-j-test.true) in
    let same = c.as_slice-bits.ensures ∙ c.input_at.ensures.bits in
    let held : AreHolds net b.state.holds = subst (λ (n : Net). AreHolds n b.state.holds) c.requires.scene.net
    (subst (λ (x : Holds). AreHolds b.net x) c.holds-holds.ensures.holds c.holds-holds.ensures.shape) in
    driver_driven net b.state.holds c.args.inst c.args.port bits same k h
    Absent c.requires.scene.well_formed held

pub loop-j-preserved : goal.loop-j-preserved
loop-j-preserved c =
    let b = c.args.self.now.bench.now in
    let bits = c.as_slice-bits.result.now in
    let at = input_bit (chip_of b) b.state c.args.inst c.args.port in
    let w = length bits in
    let k = w - 1 - c.loop-j.j in
    let h : k < w = omega (arith, c.loop-j-test.true) in
    let same = c.as_slice-bits.ensures ∙ c.input_at.ensures.bits
    ∙ ap (λ (n : Net). drivers n c.args.inst c.args.port) (sym c.requires.scene.net) in
    let is = c.signal.ensures ∙ ap (signal (outputs (chip_of b).machines b.state.insts) b.state.holds)
    (driver_is b.net b.state.holds c.args.inst c.args.port bits same k h Absent Zero) in
    digits_next at (c.args.into.now.items ++ digits at w) c.loop-j.into.items c.add_digit.new.into.items w
    c.loop-j.j k c.signal.result c.loop-j-test.true refl is c.in_ok-add_digit.ensures c.loop-j.invariant

pub returns : goal.returns
returns c =
    let b = c.args.self.now.bench.now in
    let bits = c.as_slice-bits.result.now in
    let at = input_bit (chip_of b) b.state c.args.inst c.args.port in
    let same = c.as_slice-bits.ensures ∙ c.input_at.ensures.bits
    ∙ ap (λ (n : Net). drivers n c.args.inst c.args.port) (sym c.requires.scene.net) in
    digits_all at (c.args.into.now.items ++ digits at (length bits)) c.loop-j.into.items
    (length bits) c.loop-j.j (omega (arith, c.loop-j-test.false, c.loop-j.auto.j-end)) c.loop-j.invariant
    ∙ ap (λ (l : List Sig). c.args.into.now.items ++ digits at (length l)) same
