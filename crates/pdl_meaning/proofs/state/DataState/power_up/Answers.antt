use Rattle.net_graph.proofs.Widths.{started_held}
use Rattle.pdl_meaning.proofs.state.DataState.power_up.Goals as goal

pub start-requires-clause-holds : goal.start-requires-clause-holds
start-requires-clause-holds c = started_held c.args.net.now _ c.in_ok-holds.ensures

pub invariant_of-result : goal.invariant_of-result
invariant_of-result c =
    record {
      well_formed = c.requires.well_formed;
      shape = started_held c.args.net.now _ c.in_ok-holds.ensures;
      running = c.in_ok-runners.ensures.running;
    }
