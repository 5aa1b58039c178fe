use Rattle.std.proofs.Common.{List, ap, sym, ◌∙◌, subst}
use Rattle.std.proofs.lemmas.List.{with_items_is}
use Rattle.instruments.specs.declared.Counts.{Counts}
use Rattle.instruments.specs.Machine.{count_log}
use Rattle.instruments.specs.OnNetwork.{Running, changes}
use Rattle.net_graph.specs.Signals.{Holds}
use Rattle.net_graph.specs.Writes.{write_all}
use Rattle.pdl_meaning.specs.States.{SeenState}
use Rattle.instruments.specs.Runners.{AreRunning, insts_of, machines_of}
use Rattle.instruments.specs.declared.runner.Runner.{Runner}
use Rattle.pdl_meaning.proofs.Shaping.{write_held}
use Rattle.pdl_meaning.proofs.state.DataState.write.Goals as goal

pub drive_all_inputs-requires-clause-holds : goal.drive_all_inputs-requires-clause-holds
drive_all_inputs-requires-clause-holds c =
    write_held c.self.inside.net.now c.self.inside.holds c.write_bits.new.holds c.args.writes.now
    c.self.invariant.shape c.write_bits.ensures

pub invariant_of-self : goal.invariant_of-self
invariant_of-self c =
    let s = c.self.inside in
    let now = c.drive_all_inputs.ensures.running in
    let back = with_items_is s.runners c.drive_all_inputs.new.runners
    (now.count ∙ sym c.self.invariant.running.count ∙ sym s.runners.ok.0) in
    record {
      well_formed = c.self.invariant.well_formed;
      shape = write_held s.net.now s.holds c.write_bits.new.holds c.args.writes.now
          c.self.invariant.shape c.write_bits.ensures;
      running = subst (AreRunning s.net.now s.models.now.items c.write_bits.new.holds) (sym back) now;
    }

pub returns : goal.returns
returns c =
    let s = c.self.inside in
    let net = s.net.now in
    let models = s.models.now.items in
    let after = c.write_bits.new.holds in
    let back = with_items_is s.runners c.drive_all_inputs.new.runners
    (c.drive_all_inputs.ensures.running.count ∙ sym c.self.invariant.running.count ∙ sym s.runners.ok.0) in
    let was = subst (AreRunning net models s.holds)
    (sym c.as_mut_slice.ensures.value) c.self.invariant.running in
    let seen : Holds → List (Running Counts)
    → SeenState = λ h insts. record { net = net; models = models; holds = h; insts = insts } in
    ap (λ (rs : List Runner). seen after (insts_of rs)) back
    ∙ ap (λ (insts : List (Running Counts)). seen after insts) (c.drive_all_inputs.ensures.state s.holds was)
    ∙ ap (λ (rs : List Runner). seen after
    (changes count_log net (machines_of models) s.holds after (insts_of rs))) c.as_mut_slice.ensures.value
    ∙ ap (λ (h : Holds). seen h (changes count_log net (machines_of models) s.holds h
    (insts_of s.runners.items))) c.write_bits.ensures
    ∙ ap (λ (v : SeenState). record v {
      holds = write_all v.holds c.args.writes.now;
      insts = changes count_log
          v.net (machines_of v.models) v.holds (write_all v.holds c.args.writes.now) v.insts;
    }) c.self.view_is
