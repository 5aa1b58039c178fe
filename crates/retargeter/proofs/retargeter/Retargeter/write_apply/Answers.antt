use Rattle.std.proofs.Common.{◌≡◌, ◌+◌, suc, arith, subst}
use Rattle.std.specs.Prelude.{map}
use Rattle.ij_io.proofs.Adding.{at_refusal}
use Rattle.net_graph.specs.SeenSteps.{Apply, seen_group}
use Rattle.retargeter.specs.Session.{Session}
use Rattle.retargeter.specs.Writing.{WritesRounds, WritesRoundsPart, WritesStep, WritesStepPart}
use Rattle.retargeter.proofs.Steps.{apply_written, apply_part}
use Rattle.retargeter.proofs.retargeter.Retargeter.write_apply.Goals as goal

pub returns-in_err-put_rounds-clause-part : goal.returns-in_err-put_rounds-clause-part
returns-in_err-put_rounds-clause-part g c =
    let before : Session = record {
      net = c.self.inside.net.now;
      form = c.self.inside.tree.now;
      device = c.self.inside.device.now;
      holds = c.self.inside.holds;
      applies = c.self.inside.applies;
    } in
    let gs = map seen_group c.args.rounds.now in
    let next : c.self.inside.applies + 1 ≡ suc c.self.inside.applies = omega arith in
    let part = subst (λ n. WritesRoundsPart before.net before.form before.holds n gs (g.K.Sink.taken
    c.args.k.now) (g.K.Sink.taken c.put_rounds.new.k)) next c.in_err-put_rounds.ensures.part in
    at_refusal _ (subst (λ s. WritesStepPart s (Apply gs) (g.K.Sink.taken c.args.k.now)
    (g.K.Sink.taken c.put_rounds.new.k)) c.self.view_is (apply_part before gs _ _ part))

pub returns-clause-whole : goal.returns-clause-whole
returns-clause-whole g c =
    let before : Session = record {
      net = c.self.inside.net.now;
      form = c.self.inside.tree.now;
      device = c.self.inside.device.now;
      holds = c.self.inside.holds;
      applies = c.self.inside.applies;
    } in
    let gs = map seen_group c.args.rounds.now in
    let next : c.self.inside.applies + 1 ≡ suc c.self.inside.applies = omega arith in
    let whole = subst (λ n. WritesRounds before.net before.form before.holds n gs (g.K.Sink.taken
    c.args.k.now) (g.K.Sink.taken c.put_rounds.new.k)) next c.in_ok-put_rounds.ensures.whole in
    subst (λ s. WritesStep s (Apply gs) (g.K.Sink.taken c.args.k.now) (g.K.Sink.taken c.put_rounds.new.k))
    c.self.view_is (apply_written before gs _ _ whole)
