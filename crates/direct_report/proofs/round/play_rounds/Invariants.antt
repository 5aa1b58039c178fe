-- What is told and done so far, whatever meaning the run stood for at first.
use Rattle.std.proofs.Common.{◌≡◌, ◌≤◌, ◌*◌}
use Rattle.net_graph.specs.Numbered.{HaveMarks}
use Rattle.direct_report.specs.Marked.{AreBlank}
use Rattle.direct_report.proofs.Going.{Go}
use Rattle.direct_report.proofs.round.play_rounds.Given as goal

abbrev pub invariant-loop-group : goal.invariant-loop-group
invariant-loop-group g l =
    record {
      go : Go l.net l.fn.values.models l.fn.values l.rounds
          (g.K.Sink.taken l.fn.k) l.group-index l.values l.reads l.differs (g.K.Sink.taken l.k);
      net : l.values.net ≡ l.net;
      models : l.values.models ≡ l.fn.values.models;
      blank : AreBlank l.marks;
      marks : HaveMarks l.net l.marks;
      few : l.reads ≤ 4096 * l.group-index;
      less : l.differs ≤ l.reads;
      later : g.K.Sink.faults l.fn.k ≤ g.K.Sink.faults l.k;
    }
