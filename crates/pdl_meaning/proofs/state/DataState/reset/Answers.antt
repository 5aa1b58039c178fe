use Rattle.std.proofs.Common.{sym, ◌∙◌, subst}
use Rattle.std.proofs.lemmas.List.{with_items_is}
use Rattle.instruments.specs.Runners.{AreRunning}
use Rattle.net_graph.proofs.Widths.{reset_held}
use Rattle.pdl_meaning.proofs.state.DataState.reset.Goals as goal

pub reset_all-requires-clause-holds : goal.reset_all-requires-clause-holds
reset_all-requires-clause-holds c =
    reset_held c.self.inside.net.now c.self.inside.holds
    c.reset.new.self c.self.invariant.shape c.reset.ensures

pub invariant_of-self : goal.invariant_of-self
invariant_of-self c =
    let s = c.self.inside in
    let now = c.reset_all.ensures.running in
    let back = with_items_is s.runners c.reset_all.new.runners
    (now.count ∙ sym c.self.invariant.running.count ∙ sym s.runners.ok.0) in
    record {
      well_formed = c.self.invariant.well_formed;
      shape = reset_held s.net.now s.holds c.reset.new.self c.self.invariant.shape c.reset.ensures;
      running = subst (AreRunning s.net.now s.models.now.items c.reset.new.self) (sym back) now;
    }
