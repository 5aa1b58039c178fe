use Rattle.std.proofs.Common.{sym, subst}
use Rattle.net_graph.specs.SeenSteps.{Reset}
use Rattle.path_planner.specs.Scannable.{IsScannable}
use Rattle.path_planner.proofs.Starting.{reset_scannable}
use Rattle.retargeter.specs.Session.{Session}
use Rattle.retargeter.specs.Writing.{WritesStep}
use Rattle.retargeter.proofs.Steps.{reset_written}
use Rattle.retargeter.proofs.retargeter.Retargeter.write_reset.Goals as goal

pub find-requires-clause-holds : goal.find-requires-clause-holds
find-requires-clause-holds g c =
    (subst (IsScannable c.self.inside.net.now) (sym c.reset.ensures) (reset_scannable c.self.inside.net.now
    c.self.inside.tree.now c.self.invariant.0.network.lawful c.self.inside.holds
    c.self.invariant.0.scannable)).widths

pub find-requires-clause-listed : goal.find-requires-clause-listed
find-requires-clause-listed g c =
    (subst (IsScannable c.self.inside.net.now) (sym c.reset.ensures) (reset_scannable c.self.inside.net.now
    c.self.inside.tree.now c.self.invariant.0.network.lawful c.self.inside.holds
    c.self.invariant.0.scannable)).rows

pub invariant_of-self : goal.invariant_of-self
invariant_of-self g c =
    let ready = c.self.invariant.0 in (
      record {
        network = ready.network;
        device = ready.device;
        scannable = subst
            (IsScannable c.self.inside.net.now) (sym c.reset.ensures) (reset_scannable c.self.inside.net.now
            c.self.inside.tree.now ready.network.lawful c.self.inside.holds ready.scannable);
      },
      c.find.ensures.held,
      c.find.ensures.room,
      c.self.invariant.3,
    )

pub returns-clause-whole : goal.returns-clause-whole
returns-clause-whole g c =
    let before : Session = record {
      net = c.self.inside.net.now;
      form = c.self.inside.tree.now;
      device = c.self.inside.device.now;
      holds = c.self.inside.holds;
      applies = c.self.inside.applies;
    } in
    subst (λ s. WritesStep s Reset (g.K.Sink.taken c.args.k.now) (g.K.Sink.taken c.put_reset.new.k))
    c.self.view_is (reset_written before _ _ c.in_ok-put_reset.ensures.whole)
